use Rattle.std.proofs.Common.{◌++◌, ◌∷◌, [], List, ap, ◌∙◌}
use Rattle.std.specs.Prelude.{Option}
use Rattle.affine_core.specs.declared.form.Form.{Form}
use Rattle.int_polyhedra.specs.declared.system.Term.{Term}
use Rattle.lex_max.specs.declared.decide.Choice.{Choice}
use Rattle.lex_max.proofs.decide.kept.Goals as goal

abbrev choice_with : Choice → Form → List (Option (List Term)) → Choice
choice_with choice form less = record { edge = choice.edge; form = form; less = less }

pub returns : goal.returns
returns c =
    let choice = c.args.choice.now in
    ap (λ form. choice_with choice form c.push.new.self) c.copy-form.ensures
    ∙ ap (choice_with choice choice.form)
    (c.in_ok-push.ensures.ok ∙ ap (λ less. less ++ c.args.terms ∷ []) (c.in_ok-less.ensures ∙ c.as_slice.ensures))
