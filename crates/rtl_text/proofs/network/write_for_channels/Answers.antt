use Rattle.vhdl_text.proofs.Sequences.{one_more}
use Rattle.rtl_text.specs.Networks.{channel_part_text}
use Rattle.rtl_text.proofs.network.write_for_channels.Goals as goal

pub loop-number-preserved : goal.loop-number-preserved
loop-number-preserved g c =
    one_more g.W.TextWriter.given (channel_part_text c.args.part) c.args.channels.now c.loop-number.number _
    c.loop-number-test.true c.loop-number.invariant c.write_channel_part.ensures
