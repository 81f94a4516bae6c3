use Rattle.std.proofs.Common.{arith, ap, length, length-append}
use Rattle.port_items.specs.Items.{fire_items}
use Rattle.port_items.proofs.Lengths.{few_fires}
use Rattle.port_items.proofs.items.fires_of.Goals as goal

pub script-requires : goal.script-requires
script-requires c = record {
  short = omega (
    arith,
    ap length c.loop-event.invariant,
    length-append c.loop-event.fires (fire_items c.loop-event.event-iterator),
    few_fires c.args.script.now,
    c.iter-event-items.ensures.few,
  );
}
