-- What a point of a statement reads and writes, and what it computes.
use Rattle.std.specs.Prelude.{◌≡◌, ℕ, ℤ, pos, List, [], map, length, Option, slice_get, slice_index_or}
use Rattle.std.specs.Option.{option_map, option_and_then, option_map_or}
use Rattle.affine_core.specs.Affine.{form_at}
use Rattle.wrap_expr.specs.Value.{value_of}
use Rattle.sanlp.specs.declared.nest.Access.{Access}
use Rattle.sanlp.specs.declared.nest.Arrays.{Arrays}
use Rattle.sanlp.specs.declared.nest.Inputs.{Inputs}
use Rattle.sanlp.specs.declared.nest.Nest.{Nest}
use Rattle.sanlp.specs.declared.nest.Point.{Point}
use Rattle.sanlp.specs.declared.nest.Role.{Role}
use Rattle.sanlp.specs.declared.nest.Role.TheVariants.{Source, Assign, Sink}
use Rattle.sanlp.specs.declared.nest.Statement.{Statement}
use Rattle.sanlp.specs.Cells.{Cell, place_of, input_count, output_count}

-- the cell of an access at an iteration vector
abbrev pub cell_at : List ℤ → Access → Cell
cell_at at access = (access.array, map (λ form. form_at form at) access.subscripts)

abbrev pub statement_of : Nest → Point → Option Statement
statement_of n p = slice_get n.statements p.statement

-- the cell that a point writes, if it writes one
abbrev pub write_of : Nest → Point → Option Cell
write_of n p = option_and_then (λ s. option_map (cell_at p.at) s.write) (statement_of n p)

-- the cells that a point reads, in the order of its statement's reads
abbrev pub reads_of : Nest → Point → List Cell
reads_of n p = option_map_or (λ s. map (cell_at p.at) s.reads) (statement_of n p) []

-- how many reads statement p has
abbrev pub read_count : Nest → ℕ → ℕ
read_count n p = option_map_or (λ s. length s.reads) (slice_get n.statements p) 0

-- the extents of array a, or none where there is no such array
abbrev pub extents_of : Nest → ℕ → List ℤ
extents_of n a = option_map_or (λ array. array.extents) (slice_get n.arrays a) []

-- the input value of a source's point
abbrev pub given_at : Nest → Inputs → Role → List ℤ → ℤ
given_at n d (Source a) at =
    slice_index_or (slice_index_or d.arrays a []) (place_of (extents_of n a) at) (pos 0)
given_at n d Assign at = pos 0
given_at n d (Sink a) at = pos 0

-- what a point computes, where each cell that it reads has the value that `look` gives
abbrev pub result_of : Nest → Inputs → Point → (Cell → ℤ) → ℤ
result_of n d p look =
    option_map_or (λ s. value_of s.expr (record {
      at = p.at;
      reads = map look (reads_of n p);
      given = given_at n d s.role p.at;
    })) (statement_of n p) (pos 0)

-- The inputs have one list for each declared array: its values where the array is an input, and else
-- none.
abbrev pub HasInputLengths : Nest → Inputs → Type 0
HasInputLengths n d = map length d.arrays ≡ map input_count n.arrays

-- The outputs have one list for each declared array: its values where the array is an output, and else
-- none.
abbrev pub HasOutputLengths : Nest → Arrays → Type 0
HasOutputLengths n outputs = map length outputs.arrays ≡ map output_count n.arrays
