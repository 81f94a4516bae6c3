use Rattle.std.proofs.Common.{◌≡◌, take}
use Rattle.cell_rows.proofs.narrow_access.narrow_statement.Given as goal

abbrev pub invariant-loop-access : goal.invariant-loop-access
invariant-loop-access l = l.reads ≡ take l.access-index l.access-items
