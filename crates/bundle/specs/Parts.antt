-- The parts of a bundle, which stand between lines that are exactly `%%`.
use Rattle.std.specs.Prelude.{◌==◌, ◌||◌, ℕ, Bool, List, [], ◌∷◌, ◌++◌, Option, Some, None, option_and_then, if◌then◌else◌, codes}
use Rattle.std.specs.List.{concat}
use Rattle.std.specs.Option.{option_map_or}
use Rattle.std.specs.Str.{bytes_eq}

-- a byte put before the first line
abbrev pub with_byte : ℕ → List (List ℕ) → List (List ℕ)
with_byte byte [] = (byte ∷ []) ∷ []
with_byte byte (line ∷ lines) = (byte ∷ line) ∷ lines

-- the lines of these bytes, each with the LF that ends it
abbrev pub lines_of : List ℕ → List (List ℕ)
lines_of [] = []
lines_of (byte ∷ bytes) =
    if byte == 10 then (byte ∷ []) ∷ lines_of bytes else with_byte byte (lines_of bytes)

-- `%%`, ended by LF, by CR LF or by the end of the bytes
abbrev pub is_separator : List ℕ → Bool
is_separator line =
    bytes_eq line (codes "%%\n") || (bytes_eq line (codes "%%\r\n") || bytes_eq line (codes "%%"))

-- what stands before the first separator of these lines
abbrev pub lines_before : List (List ℕ) → List ℕ
lines_before [] = []
lines_before (line ∷ lines) = if is_separator line then [] else line ++ lines_before lines

-- what stands after the first separator of these lines, if there is one
abbrev pub lines_after : List (List ℕ) → Option (List ℕ)
lines_after [] = None
lines_after (line ∷ lines) = if is_separator line then Some (concat lines) else lines_after lines

-- what stands before the first line `%%`
abbrev pub before_separator : List ℕ → List ℕ
before_separator bytes = lines_before (lines_of bytes)

-- what stands after the first line `%%`, if there is one
abbrev pub after_separator : List ℕ → Option (List ℕ)
after_separator bytes = lines_after (lines_of bytes)

-- all before the first separator
abbrev pub source_part : List ℕ → List ℕ
source_part bundle = before_separator bundle

-- what stands between the first separator and the second; a missing data part is empty
abbrev pub data_part : List ℕ → List ℕ
data_part bundle = option_map_or before_separator (after_separator bundle) []

-- all after the second separator
abbrev pub certificate_part : List ℕ → Option (List ℕ)
certificate_part bundle = option_and_then after_separator (after_separator bundle)
