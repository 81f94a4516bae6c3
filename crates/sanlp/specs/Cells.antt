-- The cells of declared arrays. This file names no `Nest`.
use Rattle.std.specs.Prelude.{ℕ, zero, suc, ◌+◌, ◌*◌, ℤ, pos, negsuc, ◌+ℤ◌, List, [], ◌∷◌, map, Bool, true, false, if◌then◌else◌}
use Rattle.std.specs.List.{flat_map}
use Rattle.sanlp.specs.declared.nest.ArrayDecl.{ArrayDecl}
use Rattle.sanlp.specs.declared.nest.Kind.{Kind}
use Rattle.sanlp.specs.declared.nest.Kind.TheVariants.{Input, Output, Both, Var}

-- an array and subscripts
abbrev pub Cell : Type 0
Cell = ℕ × List ℤ

-- a number, or 0 where it is negative
abbrev pub natural : ℤ → ℕ
natural (pos n) = n
natural (negsuc n) = 0

-- n whole numbers from a on
abbrev pub counted : ℤ → ℕ → List ℤ
counted a zero = []
counted a (suc n) = a ∷ counted (a +ℤ pos 1) n

-- how many cells an array with these extents has
abbrev pub cell_count : List ℤ → ℕ
cell_count [] = 1
cell_count (e ∷ extents) = natural e * cell_count extents

-- the subscripts of an array's cells in row-major order
abbrev pub all_subscripts : List ℤ → List (List ℤ)
all_subscripts [] = [] ∷ []
all_subscripts (e ∷ extents) =
    flat_map (λ v. map (λ at. v ∷ at) (all_subscripts extents)) (counted (pos 0) (natural e))

-- the place of a cell in row-major order
abbrev pub place_of : List ℤ → List ℤ → ℕ
place_of [] at = 0
place_of (e ∷ extents) [] = 0
place_of (e ∷ extents) (v ∷ at) = natural v * cell_count extents + place_of extents at

-- whether arrays of this kind are read from data before the body
abbrev pub is_input : Kind → Bool
is_input Input = true
is_input Output = false
is_input Both = true
is_input Var = false

-- whether arrays of this kind are printed after the body
abbrev pub is_output : Kind → Bool
is_output Input = false
is_output Output = true
is_output Both = true
is_output Var = false

-- how many values are given for an array, and how many are printed of it
abbrev pub input_count : ArrayDecl → ℕ
input_count array = if is_input array.kind then cell_count array.extents else 0

abbrev pub output_count : ArrayDecl → ℕ
output_count array = if is_output array.kind then cell_count array.extents else 0
