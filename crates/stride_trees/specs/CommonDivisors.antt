-- Common divisors of numbers.
use Rattle.std.specs.Prelude.{ℕ, ℤ, List, All, unsigned_abs}
use Rattle.std.specs.Int.{◌∣◌}

-- g divides a number and each of these
abbrev pub IsCommonDivisor : ℕ → List ℤ → ℕ → Type 0
IsCommonDivisor n zs g = (g ∣ n) × All (λ z. g ∣ unsigned_abs z) zs

-- g does, and each number that does divides g
abbrev pub IsGreatestCommonDivisor : ℕ → List ℤ → ℕ → Type 0
IsGreatestCommonDivisor n zs g =
    IsCommonDivisor n zs g × ((k : ℕ) → IsCommonDivisor n zs k → k ∣ g)
