-- Tests of natural numbers and of two answers, where std has none by its own name.
use Rattle.std.proofs.Common.{◌≡◌, ◌==◌, ℕ, Bool, true, false, ◌&&◌, nat_lt, refl, arith}
use Rattle.std.specs.Ordering.{is_eq, nat_cmp}
use Rattle.std.proofs.lemmas.Bool.Decides.{nat_tests}

pub ltb-same : (n : ℕ) → nat_lt n n ≡ false
ltb-same n = grind arith

pub ltb-zero : (n : ℕ) → nat_lt n 0 ≡ false
ltb-zero n = grind arith

pub is_eq-nat_cmp : (a b : ℕ) → is_eq (nat_cmp a b) ≡ (a == b)
is_eq-nat_cmp a b = grind (arith, nat_tests)

pub and-true : (b : Bool) → b && true ≡ b
and-true true = refl
and-true false = refl
