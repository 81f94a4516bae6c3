-- Level by level the terms are those that refute a write of the candidate behind the best at that level. The loop keeps
-- that for the levels that are done, so at its end it holds for all levels at which the best stands before the
-- candidate. It isn't promised that a level whose cycle isn't found can't be refuted: then nothing is excluded.
use Rattle.std.proofs.Common.{◌≡◌, ◌+◌, length, sym, ap, ◌∙◌, subst, arith}
use Rattle.std.specs.Prelude.{IfSome, None, Some, nat_lt, slice_get}
use Rattle.std.proofs.lemmas.List.{length_push}
use Rattle.int_polyhedra.specs.declared.system.Proof.TheVariants.{Sum}
use Rattle.tree_join.proofs.LevelCounts.{few_before}
use Rattle.tree_order.specs.Candidates.{levels_before, IsCandidate}
use Rattle.tree_order.specs.Positions.{IsPointAt}
use Rattle.tree_order.specs.Reads.{pair_of}
use Rattle.tree_order.specs.Refutations.{IsPointIn, RefutesBetween}
use Rattle.tree_order.proofs.Absent.{path_from}
use Rattle.tree_join.proofs.Between.{few_levels, point_is}
use Rattle.tree_order.proofs.Outcomes.{same_point}
use Rattle.tree_join.proofs.LeafFacts.{each_pushed}
use Rattle.tree_order.specs.declared.candidates.Read.{Read}
use Rattle.tree_graphs.specs.Asked.{write_of}
use Rattle.tree_graphs.specs.Level.{common_of}
use Rattle.sanlp.specs.Order.{common_loops}
use Rattle.source_tree.specs.Systems.{Occurrence}
use Rattle.tree_join.proofs.path.exclusions.Goals as goal

pub point_of-point-requires : goal.point_of-point-requires
point_of-point-requires c = let a = c.requires.asked in a.1.1

pub loop-level-init : goal.loop-level-init
loop-level-init c = record {
  count = ap length c.new-sums.ensures;
  each = λ q ts r there. absurd
      (let e : None ≡ Some ts = sym (ap (λ sums. slice_get sums q) c.new-sums.ensures) ∙ there in cc);
}

pub exclusion-requires-clause-candidate : goal.exclusion-requires-clause-candidate
exclusion-requires-clause-candidate c = let a = c.requires.asked in (a.0, a.2)

pub exclusion-requires-clause-context : goal.exclusion-requires-clause-context
exclusion-requires-clause-context c = let a = c.requires.asked
    in path_from a.0 c.args.context.now 0 c.args.candidate.now a.2 a.3

pub exclusion-requires-clause-place : goal.exclusion-requires-clause-place
exclusion-requires-clause-place c =
    let a = c.requires.asked in (
      write_of c.args.best.now.candidate.now.writes,
      point_is a.0 c.args.context.now c.args.best.now c.as_slice-place.result.now a.1.0 (subst (IsPointAt c.args.best.now) (sym (c.as_slice-place.ensures ∙ c.in_ok-forms.ensures)) c.point_of-point.ensures),
    )

pub exclusion-requires-clause-level : goal.exclusion-requires-clause-level
exclusion-requires-clause-level c =
    let a = c.requires.asked in
    omega (
      arith,
      c.loop-level-test.true,
      c.level_count-level-end.ensures,
      few_before (write_of c.args.best.now.candidate.now.writes) (write_of c.args.candidate.now.writes)
          (few_levels a.0 c.args.best.now.candidate.now a.1.0.candidate),
    )

pub loop-level-preserved : goal.loop-level-preserved
loop-level-preserved c =
    let w = write_of c.args.best.now.candidate.now.writes in
    let candidate = c.args.candidate.now in
    let place = c.as_slice-place.result.now in
    let level = c.loop-level.level in
    let common_is = c.common_loops-common.ensures.value
    ∙ ap (λ loops. common_loops loops c.as_slice.result.now) c.as_slice-loops.ensures
    ∙ ap (λ loops. common_loops c.args.best.now.candidate.now.writes.write.statement.now.loops loops) c.as_slice.ensures
    in
    let told = subst
    (λ o. IfSome o
    (λ ts.
    (r : Read) (w : Occurrence) → IsCandidate r candidate → IsPointIn c.args.context.now w place
    → nat_lt level c.common_loops-common.result ≡ nat_lt level (common_of w (write_of candidate.writes))
    → RefutesBetween (pair_of candidate.writes) c.args.context.now candidate.writes.level w place level (Sum ts)))
    c.in-Some.is c.in_ok-found.ensures.some in
    record {
      count = ap length c.in_ok-push-in-Some.ensures.ok ∙ length_push c.loop-level.sums c.in-Some.terms
          ∙ ap (λ n. n + 1) c.loop-level.invariant.count;
      each = each_pushed c.args.context.now candidate w place level c.loop-level.sums c.push.new.self c.in-Some.terms
          c.in_ok-push-in-Some.ensures.ok c.loop-level.invariant.count c.loop-level.invariant.each
          (λ r is point. told r w is point (ap (nat_lt level) common_is));
    }

pub returns : goal.returns
returns c = λ r place e best is point level_is sums_is.
    let context = c.args.context.now in
    let w = write_of c.args.best.now.candidate.now.writes in
    let candidate = c.args.candidate.now in
    let own = c.as_slice-place.result.now in
    let same : own ≡ place = same_point c.args.best.now own place (subst (IsPointAt c.args.best.now) (sym (c.as_slice-place.ensures ∙ c.in_ok-forms.ensures)) c.point_of-point.ensures) point in
    let last : c.loop-level.level ≡ levels_before w (write_of candidate.writes) =
    omega (arith, c.level_count-level-end.ensures) in
    let own_in = point_is r context c.args.best.now own best.0 (subst (IsPointAt c.args.best.now) (sym (c.as_slice-place.ensures ∙ c.in_ok-forms.ensures)) c.point_of-point.ensures) in
    record {
      all = ap length sums_is ∙ c.loop-level.invariant.count ∙ last;
      each = λ q ts there.
          (subst (λ place. RefutesBetween (pair_of candidate.writes) context e.level w place q (Sum ts)) same
          (subst (λ p. RefutesBetween (pair_of candidate.writes) context p w own q (Sum ts)) (sym level_is)
          (c.loop-level.invariant.each q ts r (ap (λ sums. slice_get sums q) (sym sums_is) ∙ there) is own_in)));
    }
