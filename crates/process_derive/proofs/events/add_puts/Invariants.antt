use Rattle.std.proofs.Common.{◌≡◌, ◌++◌, drop}
use Rattle.process_derive.specs.Incoming.{puts_to}
use Rattle.process_derive.proofs.events.add_puts.Given as goal

abbrev pub invariant-loop-channel : goal.invariant-loop-channel
invariant-loop-channel l =
    l.events ++ puts_to l.plans (drop l.channel-index l.outgoing) l.turn
    ≡ l.fn.events ++ puts_to l.plans l.outgoing l.turn
