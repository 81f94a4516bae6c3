use Rattle.std.proofs.Common.{◌≡◌, take}
use Rattle.loop_bind.specs.declared.scope.Place.TheVariants.{Extent}
use Rattle.loop_bind.specs.Declarations.{extents_of}
use Rattle.loop_bind.specs.Judging.{findings_of}
use Rattle.loop_bind.specs.Reasons.{least_from}
use Rattle.loop_bind.proofs.declare.extents.Given as goal

abbrev pub invariant-loop-operand : goal.invariant-loop-operand
invariant-loop-operand l =
    (l.extents ≡ extents_of l.scope (take l.operand-index l.operands))
    × (l.least ≡ least_from l.initial.least (findings_of Extent l.scope (take l.operand-index l.operands)))
