use Rattle.std.proofs.Common.{◌≡◌, take}
use Rattle.loop_bind.specs.Judging.{findings_of}
use Rattle.loop_bind.specs.Reasons.{least_from}
use Rattle.loop_bind.proofs.judge.+judge.Given as goal

abbrev pub invariant-judge_all-loop-operand : goal.invariant-judge_all-loop-operand
invariant-judge_all-loop-operand l =
    l.least ≡ least_from l.initial.least (findings_of l.place l.scope (take l.operand-index l.operands))
