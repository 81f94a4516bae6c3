use Rattle.std.proofs.Common.{sym, subst}
use Rattle.std.proofs.lemmas.Result.{IfOk-weaker}
use Rattle.script_blocks.specs.Expansion.{expansion}
use Rattle.repeat_sequencer.specs.Steps.{Gives, at_end, at_start, step}
use Rattle.repeat_sequencer.proofs.Given.{round}
use Rattle.repeat_sequencer.proofs.sequencer.Sequencer.of_blocks.Goals as goal

pub returns-clause-gives : goal.returns-clause-gives
returns-clause-gives g c =
    let blocks = c.args.blocks.now in
    IfOk-weaker c.sequencer_for.result _ _
    (λ s is proper.
    subst (λ s. Gives s (step s) (at_start s) (expansion blocks) (at_end s)) (sym is) (round blocks proper))
    c.sequencer_for.ensures
