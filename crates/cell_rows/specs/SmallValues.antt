-- Small loop values.
use Rattle.std.specs.Prelude.{ℤ, Bool, List, nat_le, unsigned_abs}
use Rattle.std.specs.List.{list_all}

-- a value so small that forms at such values have 64 bits
abbrev pub is_small_value : ℤ → Bool
is_small_value value = nat_le (unsigned_abs value) 134217728

-- loop values so small that no sum leaves 64 bits
abbrev pub are_small_values : List ℤ → Bool
are_small_values values = list_all is_small_value values
