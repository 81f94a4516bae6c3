use Rattle.std.proofs.Common.{◌≡◌, map, take}
use Rattle.cell_rows.specs.Narrow.{narrowed}
use Rattle.cell_rows.proofs.narrow_access.narrow_statements.Given as goal

abbrev pub invariant-loop-statement : goal.invariant-loop-statement
invariant-loop-statement l = l.narrow ≡ map narrowed (take l.statement-index l.statement-items)
