use Rattle.std.proofs.Common.{take}
use Rattle.std.specs.List.{fold}
use Rattle.loop_bind.specs.Declarations.{declare, nothing_declared}
use Rattle.loop_bind.specs.Following.{Declares}
use Rattle.loop_bind.proofs.declare.declare_all.Given as goal

abbrev pub invariant-loop-declaration : goal.invariant-loop-declaration
invariant-loop-declaration l =
    Declares l.initial.table l.table
    (fold (declare l.params) nothing_declared (take l.declaration-index l.declarations))
