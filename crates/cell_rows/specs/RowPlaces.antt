-- The places of an array's cells in rows: of those within its extents, as far as there is room.
use Rattle.std.specs.Prelude.{ℕ, ◌+◌, ◌-◌, ◌*◌, ℤ, pos, negsuc, List, [], ◌∷◌, ◌++◌, length, replicate, Option, Some, None, nat_lt, if◌then◌else◌, slice_index_or, slice_set}
use Rattle.std.specs.Option.{option_and_then}
use Rattle.sanlp.specs.Cells.{natural}

-- the greatest number of cells that are kept in rows
abbrev pub row_limit : ℕ
row_limit = 4194304

-- a subscript as a number, if it is within its extent
abbrev pub inside : ℤ → ℤ → Option ℕ
inside extent (pos n) = if nat_lt n (natural extent) then Some n else None
inside extent (negsuc n) = None

-- a place, if it is within the limit
abbrev pub within_limit : ℕ → Option ℕ
within_limit place = if nat_lt place row_limit then Some place else None

-- the place after one subscript more
abbrev pub place_after : ℕ → ℤ → ℤ → Option ℕ
place_after before extent subscript =
    option_and_then (λ n. within_limit (before * natural extent + n)) (inside extent subscript)

-- the place of a cell in row-major order, if its subscripts are within the extents and the place within the limit
abbrev pub place_from : ℕ → List ℤ → List ℤ → Option ℕ
place_from before [] [] = Some before
place_from before [] (v ∷ at) = None
place_from before (e ∷ extents) [] = None
place_from before (e ∷ extents) (v ∷ at) =
    option_and_then (λ place. place_from place extents at) (place_after before e v)

-- the value at a place, if there is one
abbrev pub value_at : {T : Type 0} → List (Option T) → ℕ → Option T
value_at values place = slice_index_or values place None

-- the values with one at a place, which may lie past the last
abbrev pub with_place : {T : Type 0} → List (Option T) → ℕ → T → List (Option T)
with_place values place v =
    if nat_lt place (length values) then slice_set values place (Some v)
    else (values ++ replicate (place - length values) None) ++ Some v ∷ []
