use Rattle.std.proofs.lemmas.Result.{IfOk-weaker}
use Rattle.unit_text.proofs.unit.sequencer_of.Goals as goal

pub returns : goal.returns
returns g c =
    IfOk-weaker c.of_blocks.result _ _
    (λ sequencer is. record {
      blocks = c.blocks-2.result.now;
      proper = c.blocks-2.ensures.proper;
      shallow = c.blocks-2.ensures.shallow;
      stands = c.blocks-2.ensures.stands;
      sequencer_is = is;
    })
    c.of_blocks.ensures.sequencer
