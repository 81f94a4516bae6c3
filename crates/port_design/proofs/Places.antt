-- Where a register is in a script, and which event is next for it.
--
-- Of the events of a kind just those before a place have come. So the first of that kind from the place on is the
-- next one to come (`NextIs`): all of its kind before it have come, and it hasn't. There is one, or none is left
-- (`find_next`), and there is only one (`next_one`). Once it has come, and no other of the kind with it, the place
-- is behind it (`passed_on`).
use Rattle.std.proofs.Common.{◌≡◌, ◌⊎◌, ℕ, zero, suc, ◌+◌, ◌-◌, ◌<◌, ◌≤◌, Bool, true, false, Option, Some, None, List}
use Rattle.std.proofs.Common.{length, slice_get, ap, sym, ◌∙◌, refl, inl, inr, arith}
use Rattle.std.proofs.lemmas.Bool.{both_ways, cases_Bool, cases_eq, cases_lt, false_from_ne_true}
use Rattle.std.proofs.lemmas.Option.{slice_get_within}
use Rattle.net_core.specs.declared.network.Event.{Event}
use Rattle.port_design.specs.Clocked.{HasPassed}

-- the next event of a kind to come
pub record NextIs (kind : Event → Bool) (script : List Event) (come : ℕ → Bool) (i : ℕ) (e : Event) : Type 0 where
  pub is : slice_get script i ≡ Some e
  pub on : kind e ≡ true
  pub new : come i ≡ false
  pub before : (k : ℕ) (f : Event) → k < i → slice_get script k ≡ Some f → kind f ≡ true → come k ≡ true

-- no event of a kind is left
abbrev pub NoneLeft : (Event → Bool) → List Event → ℕ → Type 0
NoneLeft kind script place =
    (k : ℕ) (f : Event) → place ≤ k → slice_get script k ≡ Some f → kind f ≡ false

-- there is only one
pub next_one : (kind : Event → Bool) (script : List Event) (come : ℕ → Bool) (i j : ℕ) (e f : Event)
    → NextIs kind script come i e → NextIs kind script come j f → i ≡ j
next_one kind script come i j e f x y =
    elim (cases_lt i j) [
      | inl lt ↦ absurd (both_ways (come i) x.new (y.before i e lt x.is x.on))
      | inr ge ↦
          elim (cases_lt j i) [
            | inl lt ↦ absurd (both_ways (come j) y.new (x.before j f lt y.is y.on))
            | inr le ↦ omega arith
          ]
    ]

-- at one place there is one event
pub one_event : (script : List Event) (k : ℕ) (e f : Event) → slice_get script k ≡ Some e → slice_get script k ≡ Some f
    → e ≡ f
one_event script k e f ise isf = let both : Some e ≡ Some f = sym ise ∙ isf in cc

module _ (kind : Event → Bool) (script : List Event) (come : ℕ → Bool) (place : ℕ)
    (passed : HasPassed kind script come place) where
  pub next_late : (i : ℕ) (e : Event) → NextIs kind script come i e → place ≤ i
  next_late i e x =
      elim (cases_lt i place) [
        | inl lt ↦ absurd (both_ways (come i) x.new (passed.before i e lt x.is x.on))
        | inr ge ↦ ge
      ]

  pub next_skips : (i : ℕ) (e : Event) → NextIs kind script come i e → (k : ℕ) (f : Event) → place ≤ k → k < i
      → slice_get script k ≡ Some f → kind f ≡ false
  next_skips i e x k f low lt is =
      false_from_ne_true (kind f)
      (λ on. both_ways (come k) (passed.behind k f low is on) (x.before k f lt is on))

  -- what is skipped from the place on up to another one
  abbrev AreSkipped : ℕ → Type 0
  AreSkipped a = (k : ℕ) (f : Event) → place ≤ k → k < a → slice_get script k ≡ Some f → kind f ≡ false

  find_from : (m a : ℕ) → a + m ≡ length script → place ≤ a → AreSkipped a
      → ((i : ℕ) × (e : Event) × NextIs kind script come i e) ⊎ NoneLeft kind script place
  find_from zero a sum low skipped =
      inr (λ k f ge is. let inside : k < a = omega (arith, slice_get_within script k f is) in skipped k f ge inside is)
  find_from (suc m) a sum low skipped =
      here (slice_get script a) refl (find_from m (suc a) (omega arith) (omega arith))
    where
      here : (o : Option Event) → slice_get script a ≡ o
          → (AreSkipped (suc a) → ((i : ℕ) × (e : Event) × NextIs kind script come i e) ⊎ NoneLeft kind script place)
          → ((i : ℕ) × (e : Event) × NextIs kind script come i e) ⊎ NoneLeft kind script place
      here None is later =
          later
          (λ k f ge lt at.
          elim (cases_eq k a) [
            | inl same ↦ let wrong : None ≡ Some f = sym is ∙ ap (slice_get script) (sym same) ∙ at in absurd (cc)
            | inr other ↦ let less : k < a = below k lt other in skipped k f ge less at
          ])
        where
          below : (k : ℕ) → k < suc a → (k ≡ a → ⊥) → k < a
          below k lt other = elim (cases_lt k a) [ inl less ↦ less | inr more ↦ absurd (other (omega arith)) ]
      here (Some e) is later =
          elim (cases_Bool (kind e)) [
            | inl on ↦
                inl (
                  a,
                  e,
                  record {
                    is = is;
                    on = on;
                    new = passed.behind a e low is on;
                    before = λ k f lt at onf.
                        elim (cases_lt k place) [
                          | inl less ↦ passed.before k f less at onf
                          | inr ge ↦ absurd (both_ways (kind f) (skipped k f ge lt at) onf)
                        ];
                  },
                )
            | inr off ↦
                later
                (λ k f ge lt at.
                elim (cases_eq k a) [
                  | inl same ↦
                      let this : slice_get script a ≡ Some f = ap (slice_get script) (sym same) ∙ at in
                      ap kind (one_event script a f e this is) ∙ off
                  | inr other ↦ let less : k < a = below k lt other in skipped k f ge less at
                ])
          ]
        where
          below : (k : ℕ) → k < suc a → (k ≡ a → ⊥) → k < a
          below k lt other = elim (cases_lt k a) [ inl less ↦ less | inr more ↦ absurd (other (omega arith)) ]

  pub find_next : ((i : ℕ) × (e : Event) × NextIs kind script come i e) ⊎ NoneLeft kind script place
  find_next =
      elim (cases_lt place (length script)) [
        | inl lt ↦
            find_from (length script - place) place (omega arith) (omega arith) (λ k f ge lt' is. absurd (omega arith))
        | inr past ↦
            inr (λ k f ge is.
            let inside = slice_get_within script k f is in
            absurd (omega arith))
      ]

  -- once it has come, and no other of its kind
  pub passed_on : (i : ℕ) (e : Event) → NextIs kind script come i e → (after : ℕ → Bool) → after i ≡ true
      → ((k : ℕ) (f : Event) → slice_get script k ≡ Some f → kind f ≡ true → (k ≡ i → ⊥) → after k ≡ come k)
      → HasPassed kind script after (suc i)
  passed_on i e x after here there = record {
    before = λ k f lt is on.
        elim (cases_eq k i) [
          | inl same ↦ ap after same ∙ here
          | inr other ↦ there k f is on other ∙ x.before k f (less k lt other) is on
        ];
    behind = λ k f ge is on.
        let late = next_late i e x in
        let far : k ≡ i → ⊥ = λ same. omega arith in
        there k f is on far ∙ passed.behind k f (omega arith) is on;
  }
    where
      less : (k : ℕ) → k < suc i → (k ≡ i → ⊥) → k < i
      less k lt other = elim (cases_lt k i) [ inl l ↦ l | inr m ↦ absurd (other (omega arith)) ]

  pub passed_same : (after : ℕ → Bool)
      → ((k : ℕ) (f : Event) → slice_get script k ≡ Some f → kind f ≡ true → after k ≡ come k)
      → HasPassed kind script after place
  passed_same after there = record {
    before = λ k f lt is on. there k f is on ∙ passed.before k f lt is on;
    behind = λ k f ge is on. there k f is on ∙ passed.behind k f ge is on;
  }
