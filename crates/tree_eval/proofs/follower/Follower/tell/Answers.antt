use Rattle.std.proofs.Common.{◌≡◌, [], ◌∷◌, ◌++◌, sym, ap, ◌∙◌, rules, FitsSigned, w64}
use Rattle.std.specs.Prelude.{Ok}
use Rattle.std.proofs.lemmas.Int.{to_z-of_z}
use Rattle.affine_core.specs.declared.form.Overflow.{Overflow}
use Rattle.plain_data.proofs.Options.{IfSome-some}
use Rattle.source_tree.specs.Walk.{outcome_of}
use Rattle.source_tree.proofs.TreeValues.{eval_gives}
use Rattle.tree_eval.specs.Stretches.{IsStretch}
use Rattle.tree_eval.proofs.follower.Follower.tell.Goals as goal

pub found-requires-clause-along : goal.found-requires-clause-along
found-requires-clause-along c = (
  c.args.tree.now,
  IfSome-some (IsStretch c.args.tree.now) c.args.self.now.stretch c.in-Some.stretch c.in-Some.is c.requires.known,
)

pub returns-then-has-clause-exact : goal.returns-then-has-clause-exact
returns-then-has-clause-exact c =
    let value : FitsSigned w64 c.in-Some-split_last.value.now = search rules in
    let along = IfSome-some (IsStretch c.args.tree.now) c.args.self.now.stretch c.in-Some.stretch c.in-Some.is
    c.requires.known in
    let same : c.args.at.now ≡ c.in-Some-split_last.outer.now ++ c.in-Some-split_last.value.now ∷ [] =
    sym c.as_slice.ensures.value ∙ c.in-Some-split_last.ensures.cases.0 in
    sym (ap (outcome_of c.args.tree.now) same
    ∙ ap (λ o. outcome_of c.args.tree.now (o ++ c.in-Some-split_last.value.now ∷ []))
    (sym (c.has.ensures.outer c.if-has.true))
    ∙ (simp to_z-of_z at (c.found.ensures c.args.tree.now along)))

pub returns-then-has-clause-value : goal.returns-then-has-clause-value
returns-then-has-clause-value c =
    let value : FitsSigned w64 c.in-Some-split_last.value.now = search rules in
    let along = IfSome-some (IsStretch c.args.tree.now) c.args.self.now.stretch c.in-Some.stretch c.in-Some.is
    c.requires.known in
    let same : c.args.at.now ≡ c.in-Some-split_last.outer.now ++ c.in-Some-split_last.value.now ∷ [] =
    sym c.as_slice.ensures.value ∙ c.in-Some-split_last.ensures.cases.0 in
    eval_gives {E = Overflow} c.args.tree.now c.args.at.now (Ok c.found.result)
    (sym (ap (outcome_of c.args.tree.now) same
    ∙ ap (λ o. outcome_of c.args.tree.now (o ++ c.in-Some-split_last.value.now ∷ []))
    (sym (c.has.ensures.outer c.if-has.true))
    ∙ (simp to_z-of_z at (c.found.ensures c.args.tree.now along))))
