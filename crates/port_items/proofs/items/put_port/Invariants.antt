use Rattle.std.proofs.Common.{◌≡◌, ◌++◌}
use Rattle.port_items.specs.Items.{put_items}
use Rattle.port_items.specs.Walks.{behind_fire}
use Rattle.port_items.proofs.items.put_port.Given as goal

abbrev pub invariant-loop-event : goal.invariant-loop-event
invariant-loop-event l =
    l.items ++ behind_fire l.waiting (put_items l.channel l.event-iterator) ≡ put_items l.channel l.script
