-- The proofs of a writer come level by level of the read: after so many steps the systems of the first so many levels
-- are refuted. One level has one proof, since no order row stands behind the writer's point, and level_count is the
-- number of levels that the systems go over.
use Rattle.std.proofs.Common.{List, ◌≡◌, ◌++◌, [], map, take, subst, arith, take_all}
use Rattle.std.specs.List.{flat_map}
use Rattle.tree_graphs.specs.Joint.{no_orders}
use Rattle.tree_order.specs.Reads.{read_in, write_in}
use Rattle.tree_join.proofs.Pairs.{pair_is}
use Rattle.tree_join.proofs.Ends.{flat_push, none_yet}
use Rattle.tree_join.proofs.LeafSystems.{more_refuted, sum_pushed}
use Rattle.tree_join.proofs.LevelCounts.{has_level, level_rows_count}
use Rattle.source_tree.specs.Checked.{AreRefuted}
use Rattle.source_tree.specs.Places.{before_rows}
use Rattle.source_tree.specs.Rows.{RowExpr}
use Rattle.source_tree.specs.Systems.{reader_place, with_rows, with_write_at, writer_place}
use Rattle.tree_join.proofs.leaf.push_writer_without.Goals as goal
use Rattle.plain_data.proofs.Lists.{slice_get-some}

pub loop-level-init : goal.loop-level-init
loop-level-init c = record {
  refuted = λ cx before made old. none_yet before c.args.proofs.now old;
  sums = λ all. all;
}

pub proof_without-requires-clause-write : goal.proof_without-requires-clause-write
proof_without-requires-clause-write c =
    let read = c.args.state.now.read.now in
    let problem = c.args.problem.now in
    record {
      pair = pair_is read problem c.requires.problem;
      has = has_level (read_in read problem) (write_in problem) c.loop-level.level
          (omega (arith, c.loop-level-test.true, c.level_count-level-end.ensures));
    }

pub loop-level-preserved : goal.loop-level-preserved
loop-level-preserved c =
    let r = read_in c.args.state.now.read.now c.args.problem.now in
    let u = write_in c.args.problem.now in
    let level = c.loop-level.level in
    let proof = c.in_ok-proof_without.field-0 in
    record {
      refuted = λ cx before made old.
          (let levels = before_rows u.number u.statement (writer_place cx u) r.number r.statement (reader_place r) in
          let there = slice_get-some levels level
          (omega (arith, c.loop-level-test.true, c.level_count-level-end.ensures, level_rows_count r u cx)) in
          let f = λ (p : List RowExpr). map (λ q. with_rows (with_write_at r cx u) (p ++ q)) (no_orders u) in
          flat_push f levels level there.0 before c.loop-level.proofs c.push.new.self there.1
          (c.loop-level.invariant.refuted cx before made old)
          (λ h. more_refuted (before ++ flat_map f (take level levels)) c.loop-level.proofs
          (with_rows (with_write_at r cx u) (there.0 ++ [])) proof c.push.new.self c.in_ok-push.ensures.ok h
          (c.in_ok-proof_without.ensures.proof cx there.0 made there.1)));
      sums = λ all. sum_pushed c.loop-level.proofs c.push.new.self proof c.in_ok-push.ensures.ok
          c.in_ok-proof_without.ensures.sum (c.loop-level.invariant.sums all);
    }

pub returns : goal.returns
returns c = record {
  refuted = λ cx before made old.
      (let r = read_in c.args.state.now.read.now c.args.problem.now in
      let u = write_in c.args.problem.now in
      let levels = before_rows u.number u.statement (writer_place cx u) r.number r.statement (reader_place r) in
      let f = λ (p : List RowExpr). map (λ q. with_rows (with_write_at r cx u) (p ++ q)) (no_orders u) in
      let last : c.loop-level.level ≡ c.level_count-level-end.result = omega arith in
      subst (λ xs. AreRefuted (before ++ flat_map f xs) c.loop-level.proofs)
      (take_all c.loop-level.level levels (omega (arith, last, c.level_count-level-end.ensures, level_rows_count r u cx)))
      (c.loop-level.invariant.refuted cx before made old));
  sums = c.loop-level.invariant.sums;
}
