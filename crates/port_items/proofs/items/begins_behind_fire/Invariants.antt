use Rattle.std.proofs.Common.{◌≡◌}
use Rattle.port_items.specs.Items.{begins_with_fire, get_items}
use Rattle.port_items.proofs.items.begins_behind_fire.Given as goal

abbrev pub invariant-loop-event : goal.invariant-loop-event
invariant-loop-event l =
    begins_with_fire (get_items l.channel l.event-iterator) ≡ begins_with_fire (get_items l.channel l.script)
