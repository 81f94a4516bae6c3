use Rattle.std.proofs.Common.{sym, ap, ◌∙◌, take, ◌++◌, ◌∷◌, [], Some}
use Rattle.std.specs.List.{cons_option}
use Rattle.std.proofs.lemmas.List.{append-nil}
use Rattle.channel_plan.specs.Tokens.{turn_of, turns_used}
use Rattle.channel_plan.proofs.Marks.{filter_map_more}
use Rattle.channel_plan.proofs.tokens.turns_used.Goals as goal
use Rattle.channel_plan.proofs.tokens.turns_used.Goals.{in-Some+in_ok-push, in_default}

pub loop-source-preserved : goal.loop-source-preserved
loop-source-preserved c =
    let writer = c.args.writer in
    let sources = c.args.sources.now in
    let index = c.loop-source.source-index in
    elim c.match-turn_of.branch [
      | in-Some+in_ok-push w ↦
          ap (λ v. v.items) w.used-is
          ∙ w.in_ok-push.ensures.items
          ∙ ap (λ used. used ++ w.in-Some.turn ∷ []) c.loop-source.invariant
          ∙ sym (filter_map_more (turn_of writer) sources index _
          (Some w.in-Some.turn) c.loop-source-test.true w.in-Some.ensures)
      | in_default w ↦
          ap (λ v. v.items) w.used-is
          ∙ c.loop-source.invariant
          ∙ sym (append-nil (turns_used writer (take index sources)))
          ∙ sym (ap (λ o. turns_used writer (take index sources) ++ cons_option o []) w.in_default.is)
          ∙ sym (filter_map_more
          (turn_of writer) sources index _ c.turn_of.result c.loop-source-test.true c.turn_of.ensures)
    ]
