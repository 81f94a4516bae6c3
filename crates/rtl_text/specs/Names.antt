-- The names of the network's ports, by those of the arrays.
use Rattle.std.specs.Prelude.{ℕ, ◌==◌, ◌&&◌, ◌||◌, nat_le, Bool, false, not, if◌then◌else◌, List, [], ◌∷◌, codes, map, slice_get}
use Rattle.std.specs.Char.{to_ascii_lowercase}
use Rattle.std.specs.List.{concat, list_any}
use Rattle.std.specs.Option.{option_map_or}
use Rattle.std.specs.Str.{bytes_eq, str_eq_ignore_ascii_case}
use Rattle.sanlp.specs.Cells.{is_input}
use Rattle.sanlp.specs.declared.nest.Nest.{Nest}

-- a letter in lower case, one in any, and a digit
abbrev pub is_lower_case : ℕ → Bool
is_lower_case byte = nat_le 97 byte && nat_le byte 122

abbrev pub is_letter : ℕ → Bool
is_letter byte = is_lower_case (to_ascii_lowercase byte)

abbrev pub is_digit : ℕ → Bool
is_digit byte = nat_le 48 byte && nat_le byte 57

-- whether a byte may stand in a name; `behind` says that an underscore stands before it
abbrev pub may_follow : Bool → ℕ → Bool
may_follow behind byte = is_letter byte || (is_digit byte || (byte == 95 && not behind))

-- whether a name goes on so, and doesn't end with an underscore
abbrev pub goes_on : Bool → List ℕ → Bool
goes_on behind [] = not behind
goes_on behind (byte ∷ name) = may_follow behind byte && goes_on (byte == 95) name

-- A name that VHDL takes as it is: letters, digits, and single underscores between two of these, with a letter in front.
abbrev pub is_plain : List ℕ → Bool
is_plain [] = false
is_plain (byte ∷ name) = is_letter byte && goes_on false name

-- whether two names differ in the case of their letters alone
abbrev pub differ_in_case : List ℕ → List ℕ → Bool
differ_in_case name other = str_eq_ignore_ascii_case name other && not (bytes_eq name other)

-- whether another array's name differs from this one in case alone
abbrev pub has_namesake : Nest → List ℕ → Bool
has_namesake nest name = list_any (λ array. differ_in_case name array.name) nest.arrays

-- Whether an array's name stands as it is in those of its ports. VHDL doesn't look at the case of its letters then, so that no
-- other array may have the same name in another case.
abbrev pub is_bare : Nest → List ℕ → Bool
is_bare nest name = is_plain name && not (has_namesake nest name)

-- a port of an array: by its name, between backslashes where that can't stand as it is
abbrev pub port_name : Nest → List ℕ → List ℕ → List ℕ → List ℕ
port_name nest array part way =
    if is_bare nest array then concat (array ∷ codes "_" ∷ part ∷ way ∷ [])
    else concat (codes "\\" ∷ array ∷ codes "_" ∷ part ∷ way ∷ codes "\\" ∷ [])

-- the name of the array of this number
abbrev pub array_name : Nest → ℕ → List ℕ
array_name nest array = option_map_or (λ declared. declared.name) (slice_get nest.arrays array) []

-- what a port says besides: that it goes out, where the array is both given and printed
abbrev pub way_out : Nest → ℕ → List ℕ
way_out nest array =
    option_map_or (λ declared. if is_input declared.kind then codes "_out" else [])
    (slice_get nest.arrays array) []

-- a name as VHDL reads it: in lower case, unless it stands between backslashes
abbrev pub as_read : List ℕ → List ℕ
as_read [] = []
as_read (byte ∷ name) = if byte == 92 then byte ∷ name else map to_ascii_lowercase (byte ∷ name)
