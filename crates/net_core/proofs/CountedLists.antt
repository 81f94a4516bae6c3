-- A list of what a function gives for each number below some number, with one element replaced.
use Rattle.std.proofs.Common.{◌≡◌, ℕ, ◌<◌, map, set, get_or, sym, ap, ◌∙◌, inl, inr, arith, get_or-set_other}
use Rattle.std.proofs.Common.{get_or-set_same, length-set}
use Rattle.std.specs.List.{range_with_len}
use Rattle.std.proofs.lemmas.Bool.{cases_eq}
use Rattle.std.proofs.lemmas.List.FromFn.{fill_by_all, get_or-map-range_with_len, length-map-range_with_len}

-- a function that differs at one place alone
pub set_at : {X : Type 0} (f g : ℕ → X) (m j : ℕ) (x : X) → j < m → g j ≡ x → ((k : ℕ) → (k ≡ j → ⊥) → f k ≡ g k)
    → set (map f (range_with_len 0 m)) j x ≡ map g (range_with_len 0 m)
set_at f g m j x lt here other =
    let xs = map f (range_with_len 0 m) in
    let long = length-map-range_with_len f 0 m in
    fill_by_all g (set xs j x) m x (length-set xs j x ∙ long)
    (λ k below. elim (cases_eq k j) [
      | inl same ↦ ap (λ i. get_or (set xs j x) i x) same ∙ get_or-set_same xs j x x (omega (arith, long)) ∙ sym here
          ∙ ap g (sym same)
      | inr apart ↦ get_or-set_other xs j k x x apart ∙ get_or-map-range_with_len f 0 m k k x below (omega arith)
          ∙ other k apart
    ])
