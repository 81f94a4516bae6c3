use Rattle.std.proofs.Common.{◌≡◌, ◌++◌}
use Rattle.port_items.specs.Items.{fire_items}
use Rattle.port_items.proofs.items.fires_of.Given as goal

abbrev pub invariant-loop-event : goal.invariant-loop-event
invariant-loop-event l = l.fires ++ fire_items l.event-iterator ≡ fire_items l.script
