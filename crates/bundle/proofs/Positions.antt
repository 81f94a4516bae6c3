-- What `position` finds, in the words of the place or the length.
use Rattle.std.proofs.Common.{◌≡◌, ℕ, ◌<◌, ◌≤◌, Bool, true, false, not, cond, nat_lt, List, length, Some, None, refl, sym, arith}
use Rattle.std.specs.List.{position, position_or_len}
use Rattle.std.proofs.lemmas.Bool.Decides.{nat_tests}
use Rattle.std.proofs.lemmas.List.Quantifiers.{position-Some}
use Rattle.std.proofs.lemmas.List.Sums.{position_or_len_is, prefix_len-le-length}

pub position_or_len-found : (p : ℕ → Bool) (xs : List ℕ) (at : ℕ) → Some at ≡ position p xs
    → (position_or_len p xs ≡ at) × (at < length xs)
position_or_len-found p xs at found =
    let here = position-Some p xs at 0 (sym found) in
    (position_or_len_is p xs at 0 (omega (arith, here.0)) here.2 (λ _. here.1), here.0)

not_less : (m n : ℕ) → None ≡ cond (nat_lt m n) (Some m) None → n ≤ m
not_less m n e =
    elim (nat_lt m n) as
    (λ t. nat_lt m n ≡ t → None ≡ cond t (Some m) None
    → n ≤ m) [ true ↦ λ _ e. cc | false ↦ λ t e. grind (arith, nat_tests) ] refl e

pub position_or_len-none : (p : ℕ → Bool) (xs : List ℕ) → None ≡ position p xs → position_or_len p xs ≡ length xs
position_or_len-none p xs e =
    omega (arith, not_less (position_or_len p xs) (length xs) e, prefix_len-le-length (λ x. not (p x)) xs)
