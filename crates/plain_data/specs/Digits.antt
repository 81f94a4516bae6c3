-- The number that decimal digits write.
use Rattle.std.specs.Prelude.{ℕ, ◌+◌, ◌-◌, ◌*◌, List, fold}

-- the number that decimal digits write, given as their bytes
abbrev pub decimal_number : List ℕ → ℕ
decimal_number digits = fold (λ value digit. value * 10 + (digit - 48)) 0 digits
