-- The values of cells as a memory.
use Rattle.std.specs.Prelude.{ℤ}
use Rattle.sanlp.specs.Memory.{Memory}
use Rattle.cell_rows.specs.declared.cells.Cells.{Cells}
use Rattle.cell_rows.specs.CellMap.{values_in}

-- the memory of an execution: the value of each cell that was written
abbrev pub memory_of : Cells ℤ → Memory
memory_of cells = values_in cells
