use Rattle.std.proofs.Common.{◌≡◌, ◌++◌, None, replicate}
use Rattle.cell_rows.proofs.cells.add_places.Given as goal

abbrev pub invariant-loop : goal.invariant-loop
invariant-loop g l = l.values ≡ l.fn.values ++ replicate l.counter None
