use Rattle.std.proofs.Common.{◌≡◌, [], ◌∷◌, ◌++◌, sym, ap, ◌∙◌, subst, rules, FitsSigned, w64}
use Rattle.std.specs.Prelude.{IsSomeAnd}
use Rattle.std.proofs.lemmas.Int.{to_z-of_z}
use Rattle.plain_data.proofs.Options.{IfSome-some}
use Rattle.source_tree.specs.Walk.{outcome_of}
use Rattle.tree_eval.specs.Stretches.{IsStretch, LiesIn}
use Rattle.tree_eval.proofs.follower.Follower.tells.Goals as goal

pub tells-requires-clause-along : goal.tells-requires-clause-along
tells-requires-clause-along c = (
  c.requires.0,
  IfSome-some (IsStretch c.requires.0) c.args.self.now.stretch c.in-Some.stretch c.in-Some.is c.requires.1,
)

pub returns-then-has : goal.returns-then-has
returns-then-has c tree known =
    let value : FitsSigned w64 c.in-Some-split_last.value.now = search rules in
    let along = IfSome-some (IsStretch tree) c.args.self.now.stretch c.in-Some.stretch c.in-Some.is known in
    let same : c.args.at.now ≡ c.in-Some.stretch.outer ++ c.in-Some-split_last.value.now ∷ [] =
    sym c.as_slice.ensures.value ∙ c.in-Some-split_last.ensures.cases.0
    ∙ ap (λ o. o ++ c.in-Some-split_last.value.now ∷ []) (sym (c.has.ensures.outer c.if-has.true)) in
    let lies : LiesIn c.args.at.now c.in-Some.stretch = record {
      value = c.in-Some-split_last.value.now;
      is = same;
      first = simp to_z-of_z at (c.has.ensures.first c.if-has.true);
      last = simp to_z-of_z at (c.has.ensures.last c.if-has.true);
    } in
    let exact = simp to_z-of_z at (c.tells.ensures tree along) in (
      λ told. (
        subst (λ o. IsSomeAnd o (LiesIn c.args.at.now)) (sym c.in-Some.is) lies,
        ap (outcome_of tree) same ∙ exact.0 told,
      ),
      λ both. exact.1 (sym (ap (outcome_of tree) same) ∙ both.1),
    )
