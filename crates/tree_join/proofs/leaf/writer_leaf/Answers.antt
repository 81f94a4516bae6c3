use Rattle.std.proofs.Common.{◌≡◌, refl, ap, subst}
use Rattle.std.proofs.lemmas.List.Elements.{All-contains_itself}
use Rattle.tree_graphs.specs.Joint.{head_systems}
use Rattle.tree_order.specs.Reads.{pair_of}
use Rattle.tree_join.specs.Leaves.{AddsRefutations}
use Rattle.tree_order.specs.Positions.{IsPointAt}
use Rattle.tree_graphs.proofs.Heights.{height_writer}
use Rattle.tree_join.proofs.Between.{point_is}
use Rattle.tree_join.proofs.CandidateLeaves.{writer_tree}
use Rattle.tree_join.proofs.LeafFacts.{leaf_best}
use Rattle.source_tree.specs.declared.tree.Tree.TheVariants.{Writer}
use Rattle.tree_join.proofs.leaf.writer_leaf.Goals as goal

pub push_heads-requires : goal.push_heads-requires
push_heads-requires c =
    let state = c.args.state.now in
    let l = c.requires in (
      state.read.now,
      state.context.now,
      leaf_best state c.args.best.now c.args.excluded.now l,
      l.path.context_is,
      c.len-here.ensures,
    )

pub push_between-requires-clause-problems : goal.push_between-requires-clause-problems
push_between-requires-clause-problems c = All-contains_itself c.args.state.now.read.now.problems.now

pub point_of-requires : goal.point_of-requires
point_of-requires c = (leaf_best c.args.state.now c.args.best.now c.args.excluded.now c.requires).1

pub returns-clause-joined : goal.returns-clause-joined
returns-clause-joined c =
    let state = c.args.state.now in
    let best = c.args.best.now in
    let r = state.read.now in
    let context = state.context.now in
    let b = leaf_best state best c.args.excluded.now c.requires in
    let pair = pair_of best.candidate.now.writes in
    let place = c.point_of.result.now in
    let point : IsPointAt best place = c.point_of.ensures in
    let forms = c.in_ok-forms.forms in
    let forms_are : forms ≡ place = c.in_ok-forms.ensures in
    writer_tree r context pair place c.push_heads.new.proofs c.push_between.new.proofs
    (Writer best.candidate.now.writes.write.number forms c.push_between.new.proofs) b.0.candidate.pair
    (point_is r context best place b.0 point)
    (ap (λ forms. Writer best.candidate.now.writes.write.number forms c.push_between.new.proofs) forms_are)
    (subst (λ old. AddsRefutations context (head_systems pair place) old c.push_heads.new.proofs) c.new-proofs.ensures
    (c.in_ok-push_heads.ensures r context place b c.requires.path.context_is c.len-here.ensures point))
    (c.in_ok-push_between.ensures place point)

pub returns-clause-low : goal.returns-clause-low
returns-clause-low c = height_writer _ c.args.best.now.candidate.now.writes.write.number c.in_ok-forms.forms
    c.push_between.new.proofs refl
