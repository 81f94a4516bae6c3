use Rattle.std.proofs.Common.{◌≡◌, length, refl, sym, subst, arith}
use Rattle.std.specs.Prelude.{None, Some, slice_get}
use Rattle.tree_join.specs.Joining.{IsChoice, IsChoiceSoFar, IsEnd, IsLeft, IsPath}
use Rattle.tree_join.specs.Walking.{height}
use Rattle.tree_join.specs.declared.path.Next.TheVariants.{Choose}
use Rattle.tree_join.specs.declared.path.State.{State}
use Rattle.tree_join.specs.declared.path.Task.{Task}
use Rattle.tree_join.specs.declared.path.Walk.{Walk}
use Rattle.tree_join.specs.declared.path.Step.TheVariants.{Made, On}
use Rattle.tree_join.specs.Walking.{IsStateOf, IsUnderWay}
use Rattle.tree_join.proofs.NextCandidate.{choice_start}
use Rattle.tree_join.proofs.Moves.{state_path}
use Rattle.tree_join.proofs.PathSteps.{path_less}
use Rattle.tree_join.proofs.Turning.{leaf_made, walk_stays}
use Rattle.tree_join.proofs.Walks.{turns_some}
use Rattle.tree_order.specs.Reads.{IsJoinedTree}
use Rattle.tree_order.specs.Reads.{pair_of}
use Rattle.tree_order.specs.Refutations.{RefutesWrites}
use Rattle.tree_order.specs.Seen.{best_in, sightings_of}
use Rattle.int_polyhedra.specs.declared.system.Proof.TheVariants.{Sum}
use Rattle.tree_join.proofs.path.choose_on.Goals as goal

-- the path, where nothing is on its way
here : (task : Task) (walk : Walk) (state : State) → IsStateOf task walk state → IsUnderWay task walk (On Choose)
    → IsPath state 0 None
here task walk state is way =
    state_path task walk state 0 None is
    (path_less task.read.now task.candidates.now walk.context (best_in walk.seen) (sightings_of walk.seen) walk.left _ 0
    None (omega arith) way.1.0)

pub choose-requires-clause-path : goal.choose-requires-clause-path
choose-requires-clause-path c =
    here c.args.task.now c.args.walk.now c.state_of-state.result c.state_of-state.ensures c.requires

pub choose-requires-clause-rest : goal.choose-requires-clause-rest
choose-requires-clause-rest c =
    let s = c.state_of-state.result in
    subst (IsChoiceSoFar s s.left.now) (sym c.new.ensures) (choice_start s)

pub leaf-requires-clause-path : goal.leaf-requires-clause-path
leaf-requires-clause-path c =
    here c.args.task.now c.args.walk.now c.state_of-state.result c.state_of-state.ensures c.requires

pub leaf-requires-clause-end : goal.leaf-requires-clause-end
leaf-requires-clause-end c =
    let s = c.state_of-state.result in
    subst (IsEnd s) (sym c.as_slice.ensures) (subst (IsChoice s) c.in-End.is c.in_ok-choice.ensures)

pub returns-in-End : goal.returns-in-End
returns-in-End c =
    let task = c.args.task.now in
    let walk = c.args.walk.now in
    let s = c.state_of-state.ensures in
    let tree = c.in_ok-tree-in-End.tree in
    let joined = subst (λ r. IsJoinedTree r walk.context tree) s.read
    (subst (λ context. IsJoinedTree c.state_of-state.result.read.now context tree) s.context c.in_ok-tree-in-End.ensures.joined) in
    walk_stays task walk walk Choose (Made tree) c.requires.0 refl refl refl
    (leaf_made task.read.now walk.context tree joined c.in_ok-tree-in-End.ensures.low
    (omega (arith, c.requires.1.0.context_is.few)))
    (omega (arith, turns_some (height (length walk.left) Choose)))

-- the candidate that is told, as the walk has it
pub pass_by-requires-clause-left : goal.pass_by-requires-clause-left
pass_by-requires-clause-left c =
    let s = c.state_of-state.result in
    let h = subst (IsChoice s) c.in-Absent.is c.in_ok-choice.ensures in
    subst (IsLeft c.in-Absent.number) c.state_of-state.ensures.left h.1.1

pub pass_by-requires-clause-absent : goal.pass_by-requires-clause-absent
pass_by-requires-clause-absent c =
    let s = c.state_of-state.result in
    let is = c.state_of-state.ensures in
    let h = subst (IsChoice s) c.in-Absent.is c.in_ok-choice.ensures in (
      h.0,
      subst (λ cs. slice_get cs c.in-Absent.number ≡ Some h.0) is.candidates h.1.0,
      subst (λ context. RefutesWrites (pair_of h.0.writes) context h.0.writes.level (Sum c.in-Absent.terms)) is.context h.3,
      h.4,
    )

pub take-requires-clause-left : goal.take-requires-clause-left
take-requires-clause-left c =
    let s = c.state_of-state.result in
    let h = subst (IsChoice s) c.in-Take.is c.in_ok-choice.ensures in
    subst (IsLeft c.in-Take.number) c.state_of-state.ensures.left h.1.1

pub take-requires-clause-candidate : goal.take-requires-clause-candidate
take-requires-clause-candidate c =
    let s = c.state_of-state.result in
    let h = subst (IsChoice s) c.in-Take.is c.in_ok-choice.ensures in
    (h.0, subst (λ cs. slice_get cs c.in-Take.number ≡ Some h.0) c.state_of-state.ensures.candidates h.1.0)
