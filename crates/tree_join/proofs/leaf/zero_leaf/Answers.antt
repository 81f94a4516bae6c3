use Rattle.std.proofs.Common.{refl, subst}
use Rattle.std.proofs.lemmas.List.Elements.{All-contains_itself}
use Rattle.tree_graphs.specs.Joint.{no_orders, write_systems_of}
use Rattle.tree_order.specs.Reads.{pairs_of}
use Rattle.tree_join.specs.Leaves.{AddsRefutations}
use Rattle.tree_graphs.proofs.Heights.{height_zero}
use Rattle.tree_join.proofs.CandidateLeaves.{zero_tree}
use Rattle.source_tree.specs.Systems.{every}
use Rattle.source_tree.specs.declared.tree.Tree.TheVariants.{Zero}
use Rattle.tree_join.proofs.leaf.zero_leaf.Goals as goal

pub push_without-requires-clause-problems : goal.push_without-requires-clause-problems
push_without-requires-clause-problems c = All-contains_itself c.args.state.now.read.now.problems.now

pub returns-clause-joined : goal.returns-clause-joined
returns-clause-joined c =
    let state = c.args.state.now in
    let r = state.read.now in
    let all = c.push_without.new.proofs in
    zero_tree r state.context.now all (Zero all) refl
    (subst (λ old. AddsRefutations state.context.now (λ cx. write_systems_of every (pairs_of r) cx no_orders) old all)
    c.new-proofs.ensures c.in_ok-push_without.ensures)

pub returns-clause-low : goal.returns-clause-low
returns-clause-low c = height_zero _ c.push_without.new.proofs refl
