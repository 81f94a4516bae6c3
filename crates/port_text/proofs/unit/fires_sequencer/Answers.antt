use Rattle.std.proofs.Common.{subst}
use Rattle.std.proofs.lemmas.Result.{IfOk-weaker}
use Rattle.unit_text.specs.Units.{IsSequencerOf}
use Rattle.port_text.proofs.unit.fires_sequencer.Goals as goal

pub returns : goal.returns
returns c =
    IfOk-weaker c.sequencer_of.result _ _
    (λ sequencer is. subst (λ items. IsSequencerOf items sequencer) c.in_ok-fires.ensures is)
    c.sequencer_of.ensures
