use Rattle.std.proofs.Common.{take}
use Rattle.loop_bind.specs.Following.{Makes, next_statement}
use Rattle.loop_bind.specs.Parts.{parts_made}
use Rattle.loop_bind.proofs.parts.+parts.Given as goal

abbrev pub invariant-bind_parts-loop-part : goal.invariant-bind_parts-loop-part
invariant-bind_parts-loop-part l =
    Makes l.initial.context l.context l.initial.progress l.progress l.initial.nodes l.nodes
    (parts_made (take l.part-index l.parts) l.initial.context l.initial.progress.next_loop
    (next_statement l.initial.progress))
