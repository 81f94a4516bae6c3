use Rattle.std.proofs.Common.{◌≡◌, ◌++◌, true, None}
use Rattle.port_items.specs.Items.{begins_with_fire, fire_if, get_items, get_items_before, port_gets}
use Rattle.port_items.specs.Walks.{left_of_gets}
use Rattle.port_items.proofs.items.items_of_gets.Given as goal

abbrev pub invariant-loop-event : goal.invariant-loop-event
invariant-loop-event l = record {
  fire : l.skips ≡ true → begins_with_fire (get_items l.channel l.event-iterator) ≡ true;
  none : l.skips ≡ true → l.waiting ≡ None;
  left : l.items ++ left_of_gets l.skips l.waiting (get_items_before l.channel (fire_if l.behind) l.event-iterator)
      ≡ port_gets l.channel l.script;
}
