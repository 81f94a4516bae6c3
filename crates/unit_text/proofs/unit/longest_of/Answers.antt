use Rattle.std.proofs.Common.{arith}
use Rattle.std.proofs.lemmas.Bool.Decides.{nat_tests}
use Rattle.sequencer_text.proofs.Lists.{greatest_more}
use Rattle.unit_text.specs.Limits.{gain_instructions}
use Rattle.unit_text.proofs.unit.longest_of.Goals as goal

pub loop-counter-preserved : goal.loop-counter-preserved
loop-counter-preserved c =
    let more = greatest_more gain_instructions c.args.loops.now c.loop-counter.counter-index
    c.counter-item.result c.loop-counter-test.true c.counter-item.is in
    grind (arith, nat_tests, more, c.max-most.ensures, c.len.ensures, c.loop-counter.invariant)
