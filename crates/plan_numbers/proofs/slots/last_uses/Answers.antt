use Rattle.std.proofs.Common.{arith}
use Rattle.reorder_slots.proofs.LastUses.{HasLastUses-more}
use Rattle.plan_numbers.proofs.slots.last_uses.Goals as goal

pub index_mut-requires : goal.index_mut-requires
index_mut-requires c =
    omega (arith, c.requires c.loop-number.number 0 c.loop-number-test.true, c.loop-number.invariant.turns)

pub loop-number-preserved : goal.loop-number-preserved
loop-number-preserved c =
    let last = c.loop-number.last in
    record {
      turns = c.loop-number.invariant.turns;
      last = HasLastUses-more c.args.used.now c.loop-number.number last.items
          (omega (
            arith,
            last.ok.0,
            c.requires c.loop-number.number 0 c.loop-number-test.true,
            c.loop-number.invariant.turns,
          ))
          c.loop-number.invariant.last;
    }
