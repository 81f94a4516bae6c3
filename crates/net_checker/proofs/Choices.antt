-- What the least number gives that gives anything.
use Rattle.std.proofs.Common.{◌≡◌, ℕ, zero, suc, ◌+◌, ◌<◌, ◌≤◌, Option, Some, None, refl, inl, inr, arith}
use Rattle.std.proofs.lemmas.Bool.{cases_eq, cases_lt}
use Rattle.std.specs.Option.{option_or}
use Rattle.net_checker.specs.Choice.{first_from, first_below}

-- where neither gives anything, neither does the first of both
pub or_none : {A : Type 0} (a b : Option A) → option_or a b ≡ None → (a ≡ None) × (b ≡ None)
or_none None b h = (refl, h)
or_none (Some x) b h = cc

from_found : {A : Type 0} (f : ℕ → Option A) (many k j : ℕ) (x : A) → k ≤ j → j < k + many
    → ((i : ℕ) → k ≤ i → i < j → f i ≡ None) → f j ≡ Some x → first_from f k many ≡ Some x
from_found f zero k j x low high before is = absurd (omega arith)
from_found f (suc many) k j x low high before is =
    elim (cases_eq k j) [
      | inl same ↦ let here : f k ≡ Some x = rw same is in rw here refl
      | inr other ↦
          let none : f k ≡ None = before k (omega arith) (less k j low other) in
          rw none (from_found f many (suc k) j x (less k j low other) (omega arith)
          (λ i l h. before i (omega arith) h) is)
    ]
  where
    less : (k j : ℕ) → k ≤ j → (k ≡ j → ⊥) → k < j
    less k j le d = elim (cases_lt k j) [ inl l ↦ l | inr g ↦ absurd (d (omega arith)) ]

from_none : {A : Type 0} (f : ℕ → Option A) (many k : ℕ) → ((i : ℕ) → k ≤ i → i < k + many → f i ≡ None)
    → first_from f k many ≡ None
from_none f zero k each = refl
from_none f (suc many) k each =
    rw (each k (omega arith) (omega arith)) (from_none f many (suc k) (λ i l h. each i (omega arith) (omega arith)))

none_from : {A : Type 0} (f : ℕ → Option A) (many k i : ℕ) → first_from f k many ≡ None → k ≤ i → i < k + many
    → f i ≡ None
none_from f zero k i h low high = absurd (omega arith)
none_from f (suc many) k i h low high =
    let parts = or_none (f k) (first_from f (suc k) many) h in
    elim (cases_eq i k) [
      | inl same ↦ rw same parts.0
      | inr other ↦ none_from f many (suc k) i parts.1 (more i k low other) (omega arith)
    ]
  where
    more : (i k : ℕ) → k ≤ i → (i ≡ k → ⊥) → suc k ≤ i
    more i k le d = elim (cases_lt k i) [ inl l ↦ omega arith | inr g ↦ absurd (d (omega arith)) ]

-- the least number below `many` that gives something
pub first_found : {A : Type 0} (f : ℕ → Option A) (many j : ℕ) (x : A) → ((i : ℕ) → i < j → f i ≡ None) → j < many
    → f j ≡ Some x → first_below f many ≡ Some x
unfolding first_below
first_found f many j x before low is = from_found f many 0 j x (omega arith) (omega arith) (λ i l h. before i h) is

-- nothing, where no number below `many` gives anything
pub first_none : {A : Type 0} (f : ℕ → Option A) (many : ℕ) → ((i : ℕ) → i < many → f i ≡ None)
    → first_below f many ≡ None
unfolding first_below
first_none f many each = from_none f many 0 (λ i l h. each i (omega arith))

-- and the other way round
pub none_first : {A : Type 0} (f : ℕ → Option A) (many : ℕ) → first_below f many ≡ None → (i : ℕ) → i < many
    → f i ≡ None
unfolding first_below
none_first f many h i low = none_from f many 0 i h (omega arith) (omega arith)
