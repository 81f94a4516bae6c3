-- What the counter of a loop counts: from its first value on it gains at each fire, with wrapping.
use Rattle.std.specs.Prelude.{ℤ, List, [], ◌∷◌}
use Rattle.std.specs.Int.{w64, int_wrapping_add}

-- its value at each fire, where it gains these
abbrev pub counted : ℤ → List ℤ → List ℤ
counted value [] = []
counted value (gain ∷ gains) = value ∷ counted (int_wrapping_add w64 value gain) gains

-- its value behind the last of them
abbrev pub counted_to : ℤ → List ℤ → ℤ
counted_to value [] = value
counted_to value (gain ∷ gains) = counted_to (int_wrapping_add w64 value gain) gains
