use Rattle.std.proofs.Common.{◌≡◌, ◌++◌, take}
use Rattle.loop_bind.proofs.parts.push_rows.Given as goal

abbrev pub invariant-loop-row : goal.invariant-loop-row
invariant-loop-row l = l.rows ≡ l.initial.rows ++ take l.row-index l.more
