use Rattle.std.proofs.Common.{◌≡◌, take}
use Rattle.loop_bind.specs.Rows.{else_rows}
use Rattle.loop_bind.proofs.rows.otherwise.Given as goal

abbrev pub invariant-loop-comparison : goal.invariant-loop-comparison
invariant-loop-comparison l = l.rows ≡ else_rows l.scope (take l.comparison-index l.cond)
