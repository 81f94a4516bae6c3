use Rattle.std.proofs.Common.{take}
use Rattle.std.specs.List.{fold}
use Rattle.loop_bind.specs.Declarations.{declare_name}
use Rattle.loop_bind.specs.Following.{Declares, seen}
use Rattle.loop_bind.proofs.declare.declare_names.Given as goal

abbrev pub invariant-loop-named : goal.invariant-loop-named
invariant-loop-named l =
    Declares l.initial.table l.table
    (fold (declare_name l.params l.declaration.word) (seen l.initial.table) (take l.named-index l.named-items))
