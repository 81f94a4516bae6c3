-- An event is due where all before it on which it depends have come, and a place that has come stays so.
--
-- Both ways go by induction on the place up to which the script is looked at: one place more is asked for what has
-- come there, or for no dependence. A step of the ports sets one place, so what has come only grows, and what was
-- due stays due. It isn't said here that an event that is due may come: its channel has to let it, which
-- `PortEnds` takes from a run of the scripts.
use Rattle.std.proofs.Common.{◌≡◌, ℕ, zero, suc, ◌<◌, Bool, true, false, not, ◌||◌, Option, Some, None, List, slice_get}
use Rattle.std.proofs.Common.{ap, sym, ◌∙◌, refl, inl, inr, arith}
use Rattle.std.specs.Option.{option_map_or}
use Rattle.std.proofs.lemmas.Bool.{and_from, and_parts, both_ways, cases_Bool, cases_eq, cases_lt, eq-eqb, eqb-true}
use Rattle.std.proofs.lemmas.Bool.{not-true, not_from_false, or_cases, or_left, or_right}
use Rattle.net_core.specs.declared.network.Event.{Event}
use Rattle.net_core.specs.declared.network.Event.TheVariants.{Get, Fire, Put}
use Rattle.net_core.specs.Machine.{replaced}
use Rattle.net_core.specs.Shape.{is_fire, is_get, is_put}
use Rattle.net_core.proofs.EventCounts.{replaced_same, replaced_other}
use Rattle.port_runs.specs.Ports.{are_dependent, is_due, with_place}

-- Dependent events

-- a fire and any other event are dependent
pub fire_after : (e f : Event) → is_fire f ≡ true → are_dependent e f ≡ true
fire_after e (Get c slot) t = absurd (cc)
fire_after (Get c slot) (Fire refs) t = refl
fire_after (Fire others) (Fire refs) t = refl
fire_after (Put c) (Fire refs) t = refl
fire_after e (Put c) t = absurd (cc)

pub fire_before : (e f : Event) → is_fire e ≡ true → are_dependent e f ≡ true
fire_before (Get c slot) f t = absurd (cc)
fire_before (Fire refs) f t = refl
fire_before (Put c) f t = absurd (cc)

-- two Gets of a channel are dependent, and two Puts
pub gets_depend : (c : ℕ) (e f : Event) → is_get c e ≡ true → is_get c f ≡ true → are_dependent e f ≡ true
gets_depend c (Get d slot) (Get d' slot') t u =
    or_left _ _ (eq-eqb d d' (sym (eqb-true c d t) ∙ eqb-true c d' u))
gets_depend c (Get d slot) (Fire refs) t u = absurd (cc)
gets_depend c (Get d slot) (Put d') t u = absurd (cc)
gets_depend c (Fire refs) f t u = absurd (cc)
gets_depend c (Put d) f t u = absurd (cc)

pub puts_depend : (c : ℕ) (e f : Event) → is_put c e ≡ true → is_put c f ≡ true → are_dependent e f ≡ true
puts_depend c (Get d slot) f t u = absurd (cc)
puts_depend c (Fire refs) f t u = absurd (cc)
puts_depend c (Put d) (Get d' slot) t u = absurd (cc)
puts_depend c (Put d) (Fire refs) t u = absurd (cc)
puts_depend c (Put d) (Put d') t u = eq-eqb d d' (sym (eqb-true c d t) ∙ eqb-true c d' u)

-- Due events

pub due_before : (script : List Event) (come : ℕ → Bool) (e : Event) (k : ℕ) → is_due script come e k ≡ true → (j : ℕ)
    → (f : Event) → j < k → slice_get script j ≡ Some f → are_dependent e f ≡ true → come j ≡ true
due_before script come e zero due j f lt is dep = absurd (omega arith)
due_before script come e (suc k) due j f lt is dep =
    let parts =
    and_parts (come k || not (option_map_or (are_dependent e) (slice_get script k) false)) (is_due script come e k)
    due in
    elim (cases_lt j k) [
      | inl low ↦ due_before script come e k parts.1 j f low is dep
      | inr high ↦
          let same : k ≡ j = omega arith in
          let here : slice_get script k ≡ Some f = ap (slice_get script) same ∙ is in
          elim (or_cases (come k) (not (option_map_or (are_dependent e) (slice_get script k) false)) parts.0) [
            | inl on ↦ ap come (sym same) ∙ on
            | inr none ↦
                absurd (both_ways (are_dependent e f)
                (sym (ap (λ o. option_map_or (are_dependent e) o false) here)
                ∙ not-true (option_map_or (are_dependent e) (slice_get script k) false) none) dep)
          ]
    ]

pub due_from : (script : List Event) (come : ℕ → Bool) (e : Event) (k : ℕ)
    → ((j : ℕ) (f : Event) → j < k → slice_get script j ≡ Some f → are_dependent e f ≡ true → come j ≡ true)
    → is_due script come e k ≡ true
due_from script come e zero all = refl
due_from script come e (suc k) all =
    and_from (come k || not (option_map_or (are_dependent e) (slice_get script k) false)) (is_due script come e k)
    (here (slice_get script k) refl)
    (due_from script come e k (λ j f lt is dep. all j f (omega arith) is dep))
  where
    here : (o : Option Event) → slice_get script k ≡ o
        → (come k || not (option_map_or (are_dependent e) o false)) ≡ true
    here None is = or_right (come k) true refl
    here (Some f) is =
        elim (cases_Bool (are_dependent e f)) [
          | inl dep ↦ or_left (come k) (not (are_dependent e f)) (all k f (omega arith) is dep)
          | inr free ↦ or_right (come k) (not (are_dependent e f)) (not_from_false (are_dependent e f) free)
        ]

-- Places that have come

pub place_here : (come : ℕ → ℕ → Bool) (p k q j : ℕ) → q ≡ p → j ≡ k → with_place come (p, k) q j ≡ true
place_here come p k q j sp sk =
    ap (λ (f : ℕ → Bool). f j) (replaced_same come p (replaced (come p) k true) q sp)
    ∙ replaced_same (come p) k true j sk

pub place_other : (come : ℕ → ℕ → Bool) (p k q j : ℕ) → (q ≡ p → j ≡ k → ⊥) → with_place come (p, k) q j ≡ come q j
place_other come p k q j d =
    elim (cases_eq q p) [
      | inl sp ↦
          ap (λ (f : ℕ → Bool). f j) (replaced_same come p (replaced (come p) k true) q sp)
          ∙ replaced_other (come p) k true j (d sp)
          ∙ ap (λ i. come i j) (sym sp)
      | inr dp ↦ ap (λ (f : ℕ → Bool). f j) (replaced_other come p (replaced (come p) k true) q dp)
    ]

pub place_grows : (come : ℕ → ℕ → Bool) (p k q j : ℕ) → come q j ≡ true → with_place come (p, k) q j ≡ true
place_grows come p k q j on =
    elim (cases_eq q p) [
      | inl sp ↦
          elim (cases_eq j k) [
            | inl sk ↦ place_here come p k q j sp sk
            | inr dk ↦ place_other come p k q j (λ _ same. dk same) ∙ on
          ]
      | inr dp ↦ place_other come p k q j (λ same _. dp same) ∙ on
    ]

-- another process's places stay as they are
pub place_apart : (come : ℕ → ℕ → Bool) (p k q : ℕ) → (q ≡ p → ⊥) → with_place come (p, k) q ≡ come q
place_apart come p k q d = replaced_other come p (replaced (come p) k true) q d
