use Rattle.std.proofs.Common.{arith}
use Rattle.reorder_slots.proofs.LastUses.{HasLastUses-more}
use Rattle.reorder_slots.proofs.Uses.{named_below}
use Rattle.reorder_slots.proofs.tokens.last_uses.Goals as goal

pub index_mut-requires : goal.index_mut-requires
index_mut-requires c = omega (arith, named_below c.args.uses.now c.loop-number.number (omega arith))

pub loop-number-preserved : goal.loop-number-preserved
loop-number-preserved c =
    let last = c.loop-number.last in
    record {
      tokens = c.loop-number.invariant.tokens;
      last = HasLastUses-more c.args.uses.now c.loop-number.number last.items
          (omega (arith, last.ok.0, named_below c.args.uses.now c.loop-number.number (omega arith)))
          c.loop-number.invariant.last;
    }
