use Rattle.sequencer_text.specs.Sequencers.{end_part_text}
use Rattle.vhdl_text.proofs.Sequences.{one_more_number}
use Rattle.sequencer_text.proofs.sequencer.write_end_parts.Goals as goal

pub loop-place-preserved : goal.loop-place-preserved
loop-place-preserved g c =
    one_more_number g.W.TextWriter.given (end_part_text c.args.part c.args.sequencer.now) c.loop-place.place
    c.loop-place.invariant c.write_end_part.ensures
