use Rattle.std.proofs.Common.{get_or, ap, sym, ◌∙◌}
use Rattle.std.specs.Prelude.{max}
use Rattle.repeat_sequencer.specs.declared.sequencer.RepeatEnd.{RepeatEnd}
use Rattle.sequencer_text.proofs.Lists.{greatest_at}
use Rattle.sequencer_text.proofs.tables.turns_of.Goals as goal

pub loop-end-preserved : goal.loop-end-preserved
loop-end-preserved c =
    let ends = c.args.ends.now in
    let i = c.loop-end.end-index in
    let none : RepeatEnd = record { level = 0; first = 0; count = 0 } in
    c.max-most.ensures
    ∙ ap (λ most. max most (get_or ends i none).count) c.loop-end.invariant
    ∙ sym (greatest_at (λ (end : RepeatEnd). end.count) ends i none c.loop-end-test.true)
