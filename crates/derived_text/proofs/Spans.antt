-- The span of a list whose least and greatest numbers are known.
use Rattle.std.proofs.Common.{◌≡◌, ◌≤◌, ◌-◌, ◌⊎◌, ℕ, suc, min, max, List, [], ◌∷◌, inl, inr, arith}
use Rattle.std.specs.List.{fold}
use Rattle.sanlp.proofs.Each.{Each}
use Rattle.sanlp.proofs.Members.{In}
use Rattle.net_text.specs.NetworkText.{span}

greatest_is : (xs : List ℕ) (first greatest : ℕ) → first ≤ greatest → Each (λ x. x ≤ greatest) xs
    → (first ≡ greatest) ⊎ In greatest xs → fold max first xs ≡ greatest
greatest_is [] first greatest le all there = elim there [ inl here ↦ here | inr none ↦ absurd none ]
greatest_is (x ∷ xs) first greatest le all there =
    greatest_is xs (max first x) greatest (omega (arith, all.0)) all.1
    (elim there [
      | inl here ↦ inl (omega (arith, all.0))
      | inr later ↦ elim later [ inl next ↦ inl (omega arith) | inr last ↦ inr last ]
    ])

least_is : (xs : List ℕ) (first least : ℕ) → least ≤ first → Each (λ x. least ≤ x) xs → (first ≡ least) ⊎ In least xs
    → fold min first xs ≡ least
least_is [] first least le all there = elim there [ inl here ↦ here | inr none ↦ absurd none ]
least_is (x ∷ xs) first least le all there =
    least_is xs (min first x) least (omega (arith, all.0)) all.1
    (elim there [
      | inl here ↦ inl (omega (arith, all.0))
      | inr later ↦ elim later [ inl next ↦ inl (omega arith) | inr last ↦ inr last ]
    ])

-- from the least to the greatest there are so many numbers
pub span_is : (xs : List ℕ) (least greatest : ℕ) → Each (λ x. least ≤ x) xs → Each (λ x. x ≤ greatest) xs → In least xs
    → In greatest xs → span xs ≡ suc (greatest - least)
span_is [] least greatest above below low high = absurd low
span_is (first ∷ others) least greatest above below low high =
    omega (
      arith,
      greatest_is others first greatest below.0 below.1 high,
      least_is others first least above.0 above.1 low,
    )
