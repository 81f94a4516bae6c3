use Rattle.std.proofs.Common.{◌<◌, ◌++◌, ◌∷◌, [], length, take, sym, ap, ◌∙◌, arith}
use Rattle.std.proofs.lemmas.List.{map_more}
use Rattle.lex_max.specs.Choices.{chosen_place}
use Rattle.lex_max.specs.declared.decide.Choice.{Choice}
use Rattle.lex_max.proofs.leaf.forms_of.Goals as goal

pub loop-choice-preserved : goal.loop-choice-preserved
loop-choice-preserved c =
    let choices = c.args.choices.now in
    let i = c.loop-choice.choice-index in
    let item = c.choice-item.result in
    let inside : i < length choices = omega arith in
    c.in_ok-push.ensures.ok ∙ ap (λ forms. forms ++ c.in_ok-form.form ∷ []) c.loop-choice.invariant
    ∙ ap (λ form. chosen_place (take i choices) ++ form ∷ []) c.in_ok-form.ensures
    ∙ sym (map_more (λ (choice : Choice). choice.form) choices i item inside
    ∙ ap (λ (choice : Choice). chosen_place (take i choices) ++ choice.form ∷ []) (sym c.choice-item.is))
