-- Values as VHDL bit string literals.
use Rattle.std.specs.Prelude.{ℕ, ◌/◌, ◌%◌, ◌^◌, ℤ, List, [], ◌∷◌, ◌++◌, codes, map, slice_index}
use Rattle.std.specs.Int.{w64, cast_unsigned}

-- the digit of a number in base 16 whose place has this unit
abbrev pub digit : ℕ → ℕ → ℕ
digit number unit = slice_index (codes "0123456789abcdef") (number / unit % 16)

-- the last 16 digits of a number in base 16
abbrev pub digits : ℕ → List ℕ
digits number =
    map (digit number)
    (16 ^ 15 ∷ 16 ^ 14 ∷ 16 ^ 13 ∷ 16 ^ 12 ∷ 16 ^ 11 ∷ 16 ^ 10 ∷ 16 ^ 9 ∷ 16 ^ 8
    ∷ 16 ^ 7 ∷ 16 ^ 6 ∷ 16 ^ 5 ∷ 16 ^ 4 ∷ 16 ^ 3 ∷ 16 ^ 2 ∷ 16 ^ 1 ∷ 16 ^ 0 ∷ [])

-- a value as the 16 lower-case hexadecimal digits of its two's complement in 64 bits
unfoldable pub literal : ℤ → List ℕ
literal value = codes "x\"" ++ (digits (cast_unsigned w64 value) ++ codes "\"")
