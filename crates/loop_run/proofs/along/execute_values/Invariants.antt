use Rattle.std.proofs.Common.{◌≡◌, ◌+◌, ◌≤ℤ◌, length, take}
use Rattle.std.specs.Prelude.{IfSome}
use Rattle.sanlp.specs.Loops.{interval}
use Rattle.sanlp.specs.Meaning.{execute, turns}
use Rattle.loop_run.specs.CellMemory.{memory_of}
use Rattle.cell_rows.specs.CellMap.{places_in}
use Rattle.cell_lines.specs.LinePlaces.{AreStatementLines}
use Rattle.loop_run.proofs.along.execute_values.Given as goal

abbrev pub invariant-loop-value : goal.invariant-loop-value
invariant-loop-value l = record {
  memory : turns (λ at m. execute l.nest l.inputs m (record { statement = l.number; at = at }))
      (interval l.value l.last) l.at (memory_of l.cells)
      ≡ turns (λ at m. execute l.nest l.inputs m (record { statement = l.number; at = at }))
      (interval l.first l.last) l.at (memory_of l.initial.cells);
  from : l.first ≤ℤ l.value;
  lines : IfSome l.lines (AreStatementLines (places_in l.cells) l.at l.first l.last l.narrow);
  deeper : length l.inner ≡ length l.at + 1;
  outer : take (length l.at) l.inner ≡ l.at;
}
