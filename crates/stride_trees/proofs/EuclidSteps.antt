-- The greatest common divisor of numbers, one number after the other, and of two by Euclid's steps.
--
-- What is left of the second number when it is divided by the first has, with the first, the common divisors of the two. It is
-- less than the first, so the steps end, and where nothing is left the first is the greatest. Of more numbers each is taken
-- with the greatest common divisor of those before it. It says nothing of how many steps there are.
use Rattle.std.proofs.Common.{◌≡◌, ◌%◌, ◌∙◌, ℕ, ℤ, pos, List, [], ◌∷◌, sym, ap, subst}
use Rattle.std.specs.Prelude.{unsigned_abs}
use Rattle.std.specs.Int.{◌∣◌, IsGcd}
use Rattle.std.proofs.lemmas.List.Elements.{All-nil, All-cons, All-head, All-tail}
use Rattle.std.proofs.lemmas.Nat.Gcd.{IsGcd-from_mod, IsGcd-from_zero, IsGcd-swap, dvd_refl, dvd_trans}
use Rattle.stride_trees.specs.CommonDivisors.{IsGreatestCommonDivisor}

-- nothing is left
pub whole : (first second rest : ℤ) → unsigned_abs rest ≡ unsigned_abs second % unsigned_abs first → rest ≡ pos 0
    → IsGcd (unsigned_abs first) (unsigned_abs second) (unsigned_abs first)
whole first second rest size nothing =
    let n : ℕ = unsigned_abs first in
    IsGcd-swap (unsigned_abs second) n n
    (IsGcd-from_mod (unsigned_abs second) n n
    (IsGcd-from_zero n (unsigned_abs second % n) (sym size ∙ ap unsigned_abs nothing)))

-- what is left and the first have the same common divisors
pub by_rest : (first second rest : ℤ) (g : ℕ) → unsigned_abs rest ≡ unsigned_abs second % unsigned_abs first
    → IsGcd (unsigned_abs rest) (unsigned_abs first) g → IsGcd (unsigned_abs first) (unsigned_abs second) g
by_rest first second rest g size h =
    let n : ℕ = unsigned_abs first in
    IsGcd-swap (unsigned_abs second) n g
    (IsGcd-from_mod (unsigned_abs second) n g
    (subst (λ m. IsGcd n m g) size (IsGcd-swap (unsigned_abs rest) n g h)))

pub greatest_of_none : (n : ℕ) (zs : List ℤ) → zs ≡ [] → IsGreatestCommonDivisor n zs n
greatest_of_none n zs none =
    subst (λ zs. IsGreatestCommonDivisor n zs n) (sym none)
    ((dvd_refl n, All-nil (λ z. n ∣ unsigned_abs z)), λ k h. h.0)

pub greatest_of_more : (n g k : ℕ) (z : ℤ) (zs : List ℤ) → IsGcd n (unsigned_abs z) g → IsGreatestCommonDivisor g zs k
    → IsGreatestCommonDivisor n (z ∷ zs) k
greatest_of_more n g k z zs two h = (
  (
    dvd_trans k h.0.0 two.0,
    All-cons (λ z. k ∣ unsigned_abs z) z zs (dvd_trans k h.0.0 two.1) h.0.1,
  ),
  λ j c. h.1 j (
    two.2 j c.0 (All-head (λ z. j ∣ unsigned_abs z) z zs c.1),
    All-tail (λ z. j ∣ unsigned_abs z) z zs c.1,
  ),
)
