use Rattle.net_checker.proofs.ChannelUses.{AreUsesBelow}
use Rattle.net_core.specs.Machine.{net_of}
use Rattle.net_checker.proofs.classes.channel_uses.Given as goal

abbrev pub invariant-loop-process : goal.invariant-loop-process
invariant-loop-process l = AreUsesBelow (net_of l.fitting.network.now) l.process l.gets.items l.uses.items
