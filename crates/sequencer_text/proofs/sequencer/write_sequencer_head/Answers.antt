use Rattle.sequencer_text.proofs.sequencer.write_sequencer_head.Goals as goal

pub returns : goal.returns
returns g c = c.write_with_number.ensures
