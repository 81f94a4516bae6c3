-- The inputs of the matrix product.
use Rattle.std.specs.Prelude.{ℕ, ◌+◌, ◌*◌, ◌%◌, ℤ, pos, ◌-ℤ◌, List, [], ◌∷◌, map}
use Rattle.std.specs.List.{range_with_len}

-- the cell of A and of B at this place in row-major order
abbrev pub a_cell : ℕ → ℤ
a_cell n = pos ((7 * n + 3) % 11) -ℤ pos 5

abbrev pub b_cell : ℕ → ℤ
b_cell n = pos ((5 * n + 1) % 13) -ℤ pos 6

-- the cells of A, of B and of C, which is no input, where the matrices have so many rows and columns
abbrev pub matrix_inputs : ℕ → List (List ℤ)
matrix_inputs count =
    let places = range_with_len 0 (count * count) in
    map a_cell places ∷ map b_cell places ∷ [] ∷ []
