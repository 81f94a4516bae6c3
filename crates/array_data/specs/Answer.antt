-- The text of an answer.
use Rattle.std.specs.Prelude.{ℕ, ℤ, List, [], ◌∷◌, ◌++◌, codes, if◌then◌else◌}
use Rattle.std.specs.List.{flat_map}
use Rattle.std.specs.Fmt.{signed_decimal}
use Rattle.sanlp.specs.declared.nest.ArrayDecl.{ArrayDecl}
use Rattle.sanlp.specs.Cells.{is_output}

-- a comma and the value in decimal
abbrev pub cell_text : ℤ → List ℕ
cell_text value = codes "," ++ signed_decimal value

-- the name, the cells and a line feed
abbrev pub line_text : List ℕ → List ℤ → List ℕ
line_text name cells = name ++ flat_map cell_text cells ++ codes "\n"

-- the line of an output, or nothing
abbrev pub array_text : ArrayDecl → List ℤ → List ℕ
array_text array cells = if is_output array.kind then line_text array.name cells else []

-- the arrays in declaration order, each with its cells in row-major order
abbrev pub answer_text : List ArrayDecl → List (List ℤ) → List ℕ
answer_text [] lists = []
answer_text (array ∷ arrays) [] = []
answer_text (array ∷ arrays) (cells ∷ lists) = array_text array cells ++ answer_text arrays lists
