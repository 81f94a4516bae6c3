-- Of one level of the read the proofs come level by level of the best: after so many steps the first so many are
-- refuted. Each proof is asked anew of the leaf, so a step needs no more than that the leaf stands; nothing is kept
-- between two levels of the best but the proofs that were added.
use Rattle.std.proofs.Common.{◌≡◌, ◌++◌, map, subst, arith, take_all}
use Rattle.tree_graphs.specs.Joint.{orders_behind}
use Rattle.tree_order.specs.Reads.{read_in, write_in}
use Rattle.tree_join.proofs.Between.{point_is}
use Rattle.tree_join.proofs.Ends.{none_yet, push_next}
use Rattle.tree_join.proofs.LeafSystems.{order_rows_count, sum_pushed}
use Rattle.tree_join.proofs.LeafFacts.{leaf_best}
use Rattle.tree_graphs.specs.Asked.{write_of}
use Rattle.source_tree.specs.Checked.{AreRefuted}
use Rattle.source_tree.specs.Systems.{with_rows, with_write_at}
use Rattle.tree_join.proofs.leaf.push_level.Goals as goal
use Rattle.plain_data.proofs.Lists.{slice_get-some}

pub loop-q-init : goal.loop-q-init
loop-q-init c = record {
  refuted = λ place point cx before rows made level_is old. none_yet before c.args.proofs.now old;
  sums = λ all. all;
}

pub proof_between-requires-clause-asked : goal.proof_between-requires-clause-asked
proof_between-requires-clause-asked c =
    record { write = c.requires.write; below = omega (arith, c.loop-q-test.true, c.level_count-q-end.ensures) }

pub loop-q-preserved : goal.loop-q-preserved
loop-q-preserved c =
    let state = c.args.state.now in
    let best = c.args.best.now in
    let r = read_in state.read.now c.args.problem.now in
    let u = write_in c.args.problem.now in
    let w = write_of best.candidate.now.writes in
    let q = c.loop-q.q in
    record {
      refuted = λ place point cx before rows made level_is old.
          (let orders = orders_behind w place cx u in
          let deep = (point_is state.read.now state.context.now best place
          (leaf_best state best c.args.excluded.now c.requires.leaf).0 point).deep in
          let there = slice_get-some orders q
          (omega (arith, c.loop-q-test.true, c.level_count-q-end.ensures, order_rows_count w u place cx deep)) in
          push_next (λ order. with_rows (with_write_at r cx u) (rows ++ order)) orders q there.0 before c.loop-q.proofs
          c.push.new.self c.in_ok-proof_between.field-0 there.1 c.in_ok-push.ensures.ok
          (c.loop-q.invariant.refuted place point cx before rows made level_is old)
          (c.in_ok-proof_between.ensures.proof place point cx rows there.0 made level_is there.1));
      sums = λ all. sum_pushed c.loop-q.proofs c.push.new.self c.in_ok-proof_between.field-0 c.in_ok-push.ensures.ok
          c.in_ok-proof_between.ensures.sum (c.loop-q.invariant.sums all);
    }

pub returns : goal.returns
returns c place point = record {
  refuted = λ cx before rows made level_is old.
      (let state = c.args.state.now in
      let best = c.args.best.now in
      let r = read_in state.read.now c.args.problem.now in
      let u = write_in c.args.problem.now in
      let w = write_of best.candidate.now.writes in
      let orders = orders_behind w place cx u in
      let deep = (point_is state.read.now state.context.now best place
      (leaf_best state best c.args.excluded.now c.requires.leaf).0 point).deep in
      let last : c.loop-q.q ≡ c.level_count-q-end.result = omega arith in
      subst (λ xs. AreRefuted
      (before ++ map (λ order. with_rows (with_write_at r cx u) (rows ++ order)) xs) c.loop-q.proofs)
      (take_all c.loop-q.q orders (omega (arith, last, c.level_count-q-end.ensures, order_rows_count w u place cx deep)))
      (c.loop-q.invariant.refuted place point cx before rows made level_is old));
  sums = c.loop-q.invariant.sums;
}
