use Rattle.std.proofs.Common.{length}
use Rattle.net_core.specs.Machine.{net_of}
use Rattle.net_core.specs.Sound.{tag_value}
use Rattle.node_runner.proofs.EventSteps.{Goes}
use Rattle.node_runner.proofs.node.run_node.Given as goal

abbrev pub invariant-loop-event : goal.invariant-loop-event
invariant-loop-event g l =
    Goes (net_of l.network) (tag_value l.nest l.inputs) l.process (g.E.Ends.from l.initial.ends)
    (g.E.Ends.to l.initial.ends) (g.E.Ends.from l.ends) (g.E.Ends.to l.ends) l.room
    g.E.Ends.tells (g.E.Ends.calls l.initial.ends) (g.E.Ends.calls l.ends)

abbrev pub decreases-loop-event : goal.decreases-loop-event
decreases-loop-event g l = length l.room.left
