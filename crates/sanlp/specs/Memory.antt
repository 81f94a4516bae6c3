-- Memory: a map from cells to values. A cell that is not in it is 0.
use Rattle.std.specs.Prelude.{ℤ, pos, Bool, ◌==◌, ◌&&◌, Option, Some, None, unwrap_or}
use Rattle.std.specs.Ordering.{int_eq}
use Rattle.std.specs.Map.{update}
use Rattle.std.specs.Cmp.Lexicographic.{pointwise}
use Rattle.sanlp.specs.Cells.{Cell}

-- whether two cells are the same
abbrev pub is_cell : Cell → Cell → Bool
is_cell c d = (c.0 == d.0) && pointwise int_eq c.1 d.1

-- a map from array and subscripts to values; what isn't in it is 0
abbrev pub Memory : Type 0
Memory = Cell → Option ℤ

abbrev pub no_cells : Memory
no_cells c = None

abbrev pub cell_value : Memory → Cell → ℤ
cell_value m c = unwrap_or (m c) (pos 0)

abbrev pub with_cell : Memory → Cell → ℤ → Memory
with_cell m c v = update is_cell m c (Some v)
