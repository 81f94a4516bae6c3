use Rattle.std.proofs.Common.{◌≡◌, rules, [], ◌∷◌}
use Rattle.port_items.proofs.Skips.{skips_left, skips_on, walk_ends}
use Rattle.port_items.proofs.items.items_of_gets.Goals as goal

pub loop-event-preserved-then-skips : goal.loop-event-preserved-then-skips
loop-event-preserved-then-skips c =
    let next : c.loop-event.event-iterator ≡ c.in-Some.event ∷ c.next.new.self = search rules in
    record {
      fire = skips_on c.args.channel c.loop-event.event-iterator c.in-Some.event c.next.new.self c.is_fire-skips.result
          next c.is_fire-skips.ensures (c.loop-event.invariant.fire c.if-skips.true);
      none = λ on. c.loop-event.invariant.none c.if-skips.true;
      left = skips_left c.args.channel c.args.behind c.loop-event.event-iterator c.in-Some.event c.next.new.self
          c.is_fire-skips.result c.loop-event.skips c.loop-event.waiting c.loop-event.items _ next
          c.is_fire-skips.ensures c.if-skips.true (c.loop-event.invariant.none c.if-skips.true)
          (c.loop-event.invariant.fire c.if-skips.true) c.loop-event.invariant.left;
    }

pub script-requires : goal.script-requires
script-requires c =
    let none : c.loop-event.event-iterator ≡ [] = search rules in
    record {
      short = walk_ends c.args.channel c.args.behind c.args.script.now c.loop-event.event-iterator c.loop-event.skips
          c.loop-event.waiting c.loop-event.items c.add_last_get.new.items 4294967296 none c.loop-event.invariant.fire
          c.loop-event.invariant.left c.in_ok-add_last_get.ensures c.iter-event-items.ensures.few;
    }
