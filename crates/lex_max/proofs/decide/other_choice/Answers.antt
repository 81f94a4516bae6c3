use Rattle.std.proofs.Common.{◌++◌, ◌∷◌, [], List, length, map, ap, ◌∙◌}
use Rattle.std.specs.Prelude.{Some}
use Rattle.std.proofs.lemmas.Result.{IfOk-weaker}
use Rattle.int_polyhedra.specs.declared.system.Term.{Term}
use Rattle.lex_max.specs.Choices.{with_terms}
use Rattle.lex_max.proofs.DecisionContexts.{next_other}
use Rattle.lex_max.proofs.decide.other_choice.Goals as goal

pub returns : goal.returns
returns c =
    let choice = c.args.choice.now in
    let form = c.args.form.now in
    IfOk-weaker c.switched.result _ _
    (λ next is below row opposite more.
    next_other c.args.context.now.system.now below choice next form c.args.above.now row c.in_ok-own.own c.len.result
    c.requires.parts c.requires.small
    (is ∙ ap (λ (ts : List Term). record {
      edge = length choice.less;
      form = form;
      less = map (with_terms ts)
          choice.less ++ Some [] ∷ [];
    }) c.as_slice.ensures) c.len.ensures c.in_ok-own.ensures opposite more)
    c.switched.ensures
