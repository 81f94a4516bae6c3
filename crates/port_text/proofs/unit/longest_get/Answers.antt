use Rattle.std.proofs.Common.{arith}
use Rattle.std.proofs.lemmas.Bool.Decides.{nat_tests}
use Rattle.sequencer_text.proofs.Lists.{greatest_more}
use Rattle.port_text.specs.Limits.{get_instructions}
use Rattle.port_text.proofs.unit.longest_get.Goals as goal

pub loop-control-preserved : goal.loop-control-preserved
loop-control-preserved c =
    let more = greatest_more get_instructions c.args.controls.now c.loop-control.control-index
    c.control-item.result c.loop-control-test.true c.control-item.is in
    grind (arith, nat_tests, more, c.max-most.ensures, c.len.ensures, c.loop-control.invariant)
