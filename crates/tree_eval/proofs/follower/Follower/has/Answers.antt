use Rattle.std.proofs.Common.{◌≡◌, ◌-ℤ◌, ◌≤ℤ◌, [], ◌∷◌, ◌++◌, sym, ap, ◌∙◌, arith, rules, FitsSigned, w64}
use Rattle.std.proofs.lemmas.Int.{ints}
use Rattle.plain_data.proofs.Options.{IfSome-some}
use Rattle.source_tree.specs.Walk.{outcome_of}
use Rattle.tree_eval.specs.Stretches.{IsStretch, found_at}
use Rattle.tree_eval.proofs.Rows.{along_at}
use Rattle.tree_eval.proofs.follower.Follower.has.Goals as goal

pub returns : goal.returns
returns c inside tree known =
    let short : FitsSigned w64 c.in-Some-split_last.value.now = search rules in
    let along = IfSome-some (IsStretch tree) c.args.self.now.stretch c.in-Some.stretch c.in-Some.is known in
    let from : c.in-Some.stretch.first ≤ℤ c.in-Some-split_last.value.now =
    omega (arith, ints, c.has.ensures.first inside) in
    let end : c.in-Some-split_last.value.now ≤ℤ c.in-Some.stretch.last =
    omega (arith, ints, c.has.ensures.last inside) in
    let to : (c.in-Some-split_last.value.now -ℤ c.in-Some.stretch.first)
    ≤ℤ (c.in-Some.stretch.last -ℤ c.in-Some.stretch.first) = omega (arith, ints) in
    let same : c.args.at.now ≡ c.in-Some-split_last.outer.now ++ c.in-Some-split_last.value.now ∷ [] =
    sym c.as_slice.ensures.value ∙ c.in-Some-split_last.ensures.cases.0 in (
      found_at c.in-Some.stretch.leaf (c.in-Some-split_last.value.now -ℤ c.in-Some.stretch.first),
      ap (outcome_of tree) same
          ∙ ap (λ o. outcome_of tree (o ++ c.in-Some-split_last.value.now ∷ [])) (sym (c.has.ensures.outer inside))
          ∙ along_at tree c.in-Some.stretch.outer c.in-Some.stretch.first
          (c.in-Some.stretch.last -ℤ c.in-Some.stretch.first) c.in-Some-split_last.value.now c.in-Some.stretch.leaf
          along from to,
    )
