use Rattle.std.proofs.Common.{◌≡◌, take}
use Rattle.loop_bind.specs.Reasons.{least_from}
use Rattle.loop_bind.specs.Rows.{guard_rows, guard_findings}
use Rattle.loop_bind.proofs.rows.guard.Given as goal

abbrev pub invariant-loop-comparison : goal.invariant-loop-comparison
invariant-loop-comparison l =
    (l.rows ≡ guard_rows l.scope (take l.comparison-index l.cond))
    × (l.least ≡ least_from l.initial.least (guard_findings l.scope (take l.comparison-index l.cond)))
