-- Tests of whole numbers, which an order or an equation holds where they pass, and sizes of sums.
use Rattle.std.proofs.Common.{◌≡◌, ◌+◌, ◌<◌, ◌≤◌, ◌<ℤ◌, ◌≤ℤ◌, ◌+ℤ◌, ◌*ℤ◌, ℤ, pos, true, false, w64, arith}
use Rattle.std.specs.Prelude.{int_le, int_lt, unsigned_abs, FitsSigned}
use Rattle.std.specs.Ordering.{int_eq}
use Rattle.std.proofs.lemmas.Int.{ints}

pub int_le-true : (a b : ℤ) → int_le a b ≡ true → a ≤ℤ b
int_le-true a b e = grind (arith, ints)

pub int_le-false : (a b : ℤ) → int_le a b ≡ false → b <ℤ a
int_le-false a b e = grind (arith, ints)

pub le-int_le : (a b : ℤ) → a ≤ℤ b → int_le a b ≡ true
le-int_le a b h = grind (arith, ints)

pub int_lt-true : (a b : ℤ) → int_lt a b ≡ true → a <ℤ b
int_lt-true a b e = grind (arith, ints)

pub lt-int_lt : (a b : ℤ) → a <ℤ b → int_lt a b ≡ true
lt-int_lt a b h = grind (arith, ints)

pub int_lt-false : (a b : ℤ) → int_lt a b ≡ false → b ≤ℤ a
int_lt-false a b e = grind (arith, ints)

pub int_eq-true : (a b : ℤ) → int_eq a b ≡ true → a ≡ b
int_eq-true a b e = grind (arith, ints)

pub eq-int_eq : (a b : ℤ) → a ≡ b → int_eq a b ≡ true
eq-int_eq a b e = grind (arith, ints)

pub zero-times : (a : ℤ) → pos 0 *ℤ a ≡ pos 0
zero-times a = omega (arith, ints)

pub unsigned_abs-sum : (a b : ℤ) → unsigned_abs (a +ℤ b) ≤ unsigned_abs a + unsigned_abs b
unsigned_abs-sum a b = omega (arith, ints)

pub unsigned_abs-positive : (a : ℤ) → pos 1 ≤ℤ a → 0 < unsigned_abs a
unsigned_abs-positive a h = omega (arith, ints, h)

pub unsigned_abs-signed : (a : ℤ) → FitsSigned w64 a → unsigned_abs a ≤ 9223372036854775808
unsigned_abs-signed a h = omega (arith, ints)
