-- What is wrong first.
use Rattle.std.specs.Prelude.{ℕ, zero, suc, Option, None}
use Rattle.std.specs.Option.{option_or}

-- what the least of so many numbers gives that gives anything; the first number is k
abbrev pub first_from : {A : Type 0} → (ℕ → Option A) → ℕ → ℕ → Option A
first_from f k zero = None
first_from f k (suc many) = option_or (f k) (first_from f (suc k) many)

-- what the least number below this one gives that gives anything
unfoldable pub first_below : {A : Type 0} → (ℕ → Option A) → ℕ → Option A
first_below f many = first_from f 0 many
