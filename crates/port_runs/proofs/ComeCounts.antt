-- Counts of the events of a script that have come.
--
-- Where those of a kind before a place have all come and none from it on, there are as many as the script has
-- before it (`count_here`). One event more that comes is counted once (`count_place`).
use Rattle.std.proofs.Common.{◌≡◌, ℕ, zero, suc, ◌+◌, ◌<◌, ◌≤◌, Bool, true, false, ◌&&◌, cond, Option, Some, None, List}
use Rattle.std.proofs.Common.{length, take, slice_get, count_by, ap, ap₂, ◌∙◌, refl, inl, inr, arith}
use Rattle.std.specs.Option.{option_map_or}
use Rattle.std.proofs.lemmas.Bool.{and_from, and_left, and_right, cases_Bool, cases_eq, cases_lt, cond-true, cond-false}
use Rattle.net_core.specs.declared.network.Event.{Event}
use Rattle.net_core.proofs.EventCounts.{count_next, count_none}
use Rattle.port_runs.specs.PortNames.{come_count}

-- no event has come
pub count_zero : (kind : Event → Bool) (script : List Event) (m : ℕ) → come_count kind (λ k. false) script m ≡ 0
count_zero kind script zero = refl
count_zero kind script (suc m) = omega (arith, count_zero kind script m)

module _ (kind : Event → Bool) (come : ℕ → Bool) (script : List Event) where
  -- what the place after the first k adds
  abbrev added : ℕ → Option Event → ℕ
  added k o = cond (come k && option_map_or kind o false) 1 0

  pub count_front : (k : ℕ)
      → ((j : ℕ) (e : Event) → j < k → slice_get script j ≡ Some e → kind e ≡ true → come j ≡ true)
      → come_count kind come script k ≡ count_by kind (take k script)
  count_front zero all = refl
  count_front (suc k) all =
      more (slice_get script k) refl (count_front k (λ j e lt is on. all j e (omega arith) is on))
    where
      more : (o : Option Event) → slice_get script k ≡ o
          → come_count kind come script k ≡ count_by kind (take k script)
          → come_count kind come script k + added k o ≡ count_by kind (take (suc k) script)
      more None is before =
          let none : added k None ≡ 0 = cond-false (come k && false) 1 0 (and_right (come k) false refl) in
          omega (arith, before, none, count_none kind script k is)
      more (Some e) is before =
          elim (cases_Bool (kind e)) [
            | inl on ↦
                let one : added k (Some e) ≡ 1 =
                cond-true (come k && kind e) 1 0 (and_from (come k) (kind e) (all k e (omega arith) is on) on) in
                let also : cond {A = ℕ} (kind e) 1 0 ≡ 1 = cond-true (kind e) 1 0 on in
                omega (arith, before, one, also, count_next kind script k e is)
            | inr off ↦
                let none : added k (Some e) ≡ 0 =
                cond-false (come k && kind e) 1 0 (and_right (come k) (kind e) off) in
                let also : cond {A = ℕ} (kind e) 1 0 ≡ 0 = cond-false (kind e) 1 0 off in
                omega (arith, before, none, also, count_next kind script k e is)
          ]

  pub count_past : (k m : ℕ) → k ≤ m
      → ((j : ℕ) (e : Event) → k ≤ j → slice_get script j ≡ Some e → kind e ≡ true → come j ≡ false)
      → come_count kind come script m ≡ come_count kind come script k
  count_past k zero le none = let same : zero ≡ k = omega arith in ap (come_count kind come script) same
  count_past k (suc m) le none =
      elim (cases_lt m k) [
        | inl lt ↦ let same : suc m ≡ k = omega arith in ap (come_count kind come script) same
        | inr ge ↦ omega (arith, last (slice_get script m) refl ge, count_past k m ge none)
      ]
    where
      last : (o : Option Event) → slice_get script m ≡ o → k ≤ m → added m o ≡ 0
      last None is ge = cond-false (come m && false) 1 0 (and_right (come m) false refl)
      last (Some e) is ge =
          elim (cases_Bool (kind e)) [
            | inl on ↦ cond-false (come m && kind e) 1 0 (and_left (come m) (kind e) (none m e ge is on))
            | inr off ↦ cond-false (come m && kind e) 1 0 (and_right (come m) (kind e) off)
          ]

  pub count_here : (k : ℕ) → k ≤ length script
      → ((j : ℕ) (e : Event) → j < k → slice_get script j ≡ Some e → kind e ≡ true → come j ≡ true)
      → ((j : ℕ) (e : Event) → k ≤ j → slice_get script j ≡ Some e → kind e ≡ true → come j ≡ false)
      → come_count kind come script (length script) ≡ count_by kind (take k script)
  count_here k le all none = count_past k (length script) le none ∙ count_front k all

  count_grows : (k m : ℕ) → k ≤ m → come_count kind come script k ≤ come_count kind come script m
  count_grows k zero le =
      let same : k ≡ zero = omega arith in
      omega (arith, ap (come_count kind come script) same)
  count_grows k (suc m) le =
      elim (cases_lt m k) [
        | inl lt ↦ let same : k ≡ suc m = omega arith in omega (arith, ap (come_count kind come script) same)
        | inr ge ↦ omega (arith, count_grows k m ge)
      ]

  pub count_least : (k : ℕ) → k ≤ length script
      → ((j : ℕ) (e : Event) → j < k → slice_get script j ≡ Some e → kind e ≡ true → come j ≡ true)
      → count_by kind (take k script) ≤ come_count kind come script (length script)
  count_least k le all = omega (arith, count_front k all, count_grows k (length script) le)

  -- one event more that comes
  module _ (after : ℕ → Bool) (k : ℕ) (e : Event) (is : slice_get script k ≡ Some e) (new : come k ≡ false)
      (here : (j : ℕ) → j ≡ k → after j ≡ true) (there : (j : ℕ) → (j ≡ k → ⊥) → after j ≡ come j) where
    count_below : (m : ℕ) → m ≤ k → come_count kind after script m ≡ come_count kind come script m
    count_below zero le = refl
    count_below (suc m) le =
        let other : m ≡ k → ⊥ = λ same. omega arith in
        ap₂ (λ (a : ℕ) (b : Bool). a + cond (b && option_map_or kind (slice_get script m) false) 1 0)
        (count_below m (omega arith)) (there m other)

    pub count_place : (m : ℕ) → k < m
        → come_count kind after script m ≡ come_count kind come script m + cond (kind e) 1 0
    count_place zero lt = absurd (omega arith)
    count_place (suc m) lt =
        elim (cases_eq m k) [
          | inl same ↦
              let is' : slice_get script m ≡ Some e = ap (slice_get script) same ∙ is in
              let now : (after m && option_map_or kind (slice_get script m) false) ≡ kind e =
              ap (λ (b : Bool). b && option_map_or kind (slice_get script m) false) (here m same)
              ∙ ap (λ (o : Option Event). option_map_or kind o false) is' in
              let before : added m (slice_get script m) ≡ 0 =
              cond-false (come m && option_map_or kind (slice_get script m) false) 1 0
              (and_left (come m) (option_map_or kind (slice_get script m) false) (ap come same ∙ new)) in
              omega (
                arith,
                count_below m (omega arith),
                ap (λ (b : Bool). cond {A = ℕ} b 1 0) now,
                before,
              )
          | inr other ↦
              let later : k < m = past m lt other in
              let same : cond {A = ℕ} (after m && option_map_or kind (slice_get script m) false) 1 0
              ≡ added m (slice_get script m) =
              ap (λ (b : Bool). cond {A = ℕ} (b && option_map_or kind (slice_get script m) false) 1 0)
              (there m other) in
              omega (arith, count_place m later, same)
        ]
      where
        past : (m : ℕ) → k < suc m → (m ≡ k → ⊥) → k < m
        past m lt other = elim (cases_lt k m) [ inl low ↦ low | inr high ↦ absurd (other (omega arith)) ]
