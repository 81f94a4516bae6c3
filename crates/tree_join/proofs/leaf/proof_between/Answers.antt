-- The candidate that is asked is the best, is excluded or was seen, since none other is left. Each gives its proof,
-- which is told of the writer and level that are asked. A candidate that was seen has no point, or one that stands
-- before the best's by the order that the search has put together; it is found by its writer and level alone.
use Rattle.std.proofs.Common.{ℕ, ◌≡◌, ◌<◌, ◌*◌, false, length, refl, sym, ap, ◌∙◌, subst, arith}
use Rattle.std.specs.Prelude.{Option, IfSome, MatchOption, None, Some, slice_get}
use Rattle.std.specs.Option.{option_copied}
use Rattle.std.proofs.lemmas.Result.{IfOk-weaker}
use Rattle.std.proofs.lemmas.Option.{slice_get_read}
use Rattle.int_polyhedra.specs.declared.system.Proof.TheVariants.{Sum}
use Rattle.tree_join.specs.Joining.{IsPath}
use Rattle.tree_join.specs.declared.path.State.{State}
use Rattle.tree_order.specs.Seen.{absent_at, is_seen, sightings_of, IsOutcome}
use Rattle.tree_order.specs.declared.seen.Outcome.{Outcome}
use Rattle.tree_order.specs.declared.seen.Outcome.TheVariants as outcome
use Rattle.tree_join.proofs.Between.{point_is}
use Rattle.tree_join.proofs.Ends.{moved_between, nowhere, outcome_at}
use Rattle.tree_order.proofs.Outcomes.{Tells}
use Rattle.tree_join.proofs.LeafFacts.{before_asked, best_asked, excluded_level, excluded_refutes, leaf_best}
use Rattle.tree_order.specs.Reads.{pair_in}
use Rattle.tree_graphs.specs.Asked.{write_of}
use Rattle.tree_join.proofs.leaf.proof_between.Goals as goal

pub same_between-requires-clause-best : goal.same_between-requires-clause-best
same_between-requires-clause-best c =
    let state = c.args.state.now in
    let l = c.requires.leaf in (
      state.read.now,
      state.context.now,
      leaf_best state c.args.best.now c.args.excluded.now l,
      l.path.context_is,
      c.len-here.ensures,
    )

pub same_between-requires-clause-level : goal.same_between-requires-clause-level
same_between-requires-clause-level c =
    best_asked c.args.state.now c.args.best.now c.args.excluded.now (pair_in c.args.state.now.read.now c.args.problem.now) c.args.level
    c.args.q c.requires.leaf c.requires.asked (sym c.is_of.ensures ∙ c.if-is_of.true)

pub returns-then-is_of-clause-proof : goal.returns-then-is_of-clause-proof
returns-then-is_of-clause-proof c =
    let state = c.args.state.now in
    let best = c.args.best.now in
    let l = c.requires.leaf in
    let r = state.read.now in
    let pair = pair_in c.args.state.now.read.now c.args.problem.now in
    let b = leaf_best state best c.args.excluded.now l in
    IfOk-weaker c.same_between.result _ _
    (λ proof h place point.
    moved_between r state.context.now best.candidate.now pair (write_of best.candidate.now.writes) c.args.level c.args.q
    place proof b.0.candidate c.requires.asked.write.pair (sym c.is_of.ensures ∙ c.if-is_of.true)
    (h r state.context.now place b l.path.context_is c.len-here.ensures point)) c.same_between.ensures.proof

pub bounds-as_slice-q : goal.bounds-as_slice-q
bounds-as_slice-q c =
    let e = c.in-Some.found.now in
    let x = c.in-Some.ensures in
    omega (
      arith,
      ap length c.as_slice.ensures,
      excluded_level c.args.state.now c.args.best.now c.args.excluded.now (pair_in c.args.state.now.read.now c.args.problem.now) c.args.level
          c.args.q e x.1.1.0 c.requires.leaf c.requires.asked x.1.1.1 x.0,
    )

pub offset_bounds-as_slice-q : goal.offset_bounds-as_slice-q
offset_bounds-as_slice-q c =
    let e = c.in-Some.found.now in
    let x = c.in-Some.ensures in
    omega (
      arith,
      ap length c.as_slice.ensures,
      excluded_level c.args.state.now c.args.best.now c.args.excluded.now (pair_in c.args.state.now.read.now c.args.problem.now) c.args.level
          c.args.q e x.1.1.0 c.requires.leaf c.requires.asked x.1.1.1 x.0,
    )

pub returns-in-Some-clause-sum : goal.returns-in-Some-clause-sum
returns-in-Some-clause-sum c = (c.in_ok-from_slice.field-0, refl)

pub returns-in-Some-clause-proof : goal.returns-in-Some-clause-proof
returns-in-Some-clause-proof c = λ place point.
    let e = c.in-Some.found.now in
    let x = c.in-Some.ensures in
    let ts = c.index-as_slice-q.result in
    let sums = c.as_slice.result.now in
    let inside : c.args.q < length sums = omega (
      arith,
      ap length c.as_slice.ensures,
      excluded_level c.args.state.now c.args.best.now c.args.excluded.now (pair_in c.args.state.now.read.now c.args.problem.now) c.args.level
          c.args.q e x.1.1.0 c.requires.leaf c.requires.asked x.1.1.1 x.0,
    ) in
    excluded_refutes c.args.state.now c.args.best.now c.args.excluded.now (pair_in c.args.state.now.read.now c.args.problem.now) c.args.level
    c.args.q e x.1.1.0 place ts (Sum c.in_ok-from_slice.field-0) c.requires.leaf c.requires.asked
    x.1.1.1 x.0 x.1.0 point (ap (λ xs. slice_get xs c.args.q) (sym c.as_slice.ensures)
    ∙ slice_get_read sums (length sums) c.args.q ts refl inside c.index-as_slice-q.is)
    (ap Sum (c.in_ok-from_slice.ensures ∙ c.as_slice-terms.ensures))

-- what became of the candidate that was seen
told : (state : State) (u p : ℕ) (seen : Option Outcome) (out : Outcome) → IsPath state 0 None
    → IfSome seen (Tells u p (sightings_of state.seen.now) None) → seen ≡ Some out
    → IsOutcome state.read.now state.context.now (65536 * 896) (option_copied state.best) u p out
told state u p seen out path some is =
    outcome_at state u p out path (subst (λ o. IfSome o (Tells u p (sightings_of state.seen.now) None)) is some)

pub without-requires : goal.without-requires
without-requires c =
    let state = c.args.state.now in
    let o = told state c.args.problem.now.write.number c.args.level c.in_ok-seen.seen (outcome.Without c.in-Some-Without.absence)
    c.requires.leaf.path c.in_ok-seen.ensures.some (c.in-Some-Without.is ∙ ap Some c.in-Some-Without.field-0-is) in
    (state.read.now, state.context.now, o.1.0, c.requires.leaf.path.context_is, c.len-here.ensures)

pub returns-in-Some-Without-clause-proof : goal.returns-in-Some-Without-clause-proof
returns-in-Some-Without-clause-proof c =
    let state = c.args.state.now in
    let best = c.args.best.now in
    let l = c.requires.leaf in
    let r = state.read.now in
    let context = state.context.now in
    let pair = pair_in c.args.state.now.read.now c.args.problem.now in
    let at = absent_at c.in-Some-Without.absence.now in
    let o = told state c.args.problem.now.write.number c.args.level c.in_ok-seen.seen (outcome.Without c.in-Some-Without.absence)
    c.requires.leaf.path c.in_ok-seen.ensures.some (c.in-Some-Without.is ∙ ap Some c.in-Some-Without.field-0-is) in
    let b = leaf_best state best c.args.excluded.now l in
    IfOk-weaker c.without.result _ _
    (λ proof h place point.
    moved_between r context at.candidate.now pair
    (write_of best.candidate.now.writes) c.args.level c.args.q place proof o.1.0.candidate
    c.requires.asked.write.pair o.0
    (h r context (write_of best.candidate.now.writes) place c.args.q o.1.0 l.path.context_is c.len-here.ensures
    (point_is r context best place b.0 point)))
    c.without.ensures.after

pub between-requires : goal.between-requires
between-requires c =
    let state = c.args.state.now in
    let best = c.args.best.now in
    let l = c.requires.leaf in
    let o = subst (λ b. IsOutcome state.read.now state.context.now (65536 * 896) b c.args.problem.now.write.number c.args.level
    (outcome.Before c.in-Some-Before.at c.in-Some-Before.order)) l.best_is
    (told state c.args.problem.now.write.number c.args.level c.in_ok-seen.seen
    (outcome.Before c.in-Some-Before.at c.in-Some-Before.order) c.requires.leaf.path c.in_ok-seen.ensures.some
    (c.in-Some-Before.is ∙ ap Some c.in-Some-Before.field-0-is)) in (
      state.read.now,
      state.context.now,
      best,
      before_asked state best c.in-Some-Before.at.now c.args.excluded.now c.in-Some-Before.order
          (pair_in c.args.state.now.read.now c.args.problem.now) c.args.level c.args.q c.len-here.result l c.requires.asked c.len-here.ensures
          o.0 o.1.0 o.1.1,
    )

pub returns-in-Some-Before-clause-proof : goal.returns-in-Some-Before-clause-proof
returns-in-Some-Before-clause-proof c =
    let state = c.args.state.now in
    let best = c.args.best.now in
    let l = c.requires.leaf in
    let r = state.read.now in
    let pair = pair_in c.args.state.now.read.now c.args.problem.now in
    let at = c.in-Some-Before.at.now in
    let o = subst (λ b. IsOutcome state.read.now state.context.now (65536 * 896) b c.args.problem.now.write.number c.args.level
    (outcome.Before c.in-Some-Before.at c.in-Some-Before.order)) l.best_is
    (told state c.args.problem.now.write.number c.args.level c.in_ok-seen.seen
    (outcome.Before c.in-Some-Before.at c.in-Some-Before.order) c.requires.leaf.path c.in_ok-seen.ensures.some
    (c.in-Some-Before.is ∙ ap Some c.in-Some-Before.field-0-is)) in
    let asked = before_asked state best at c.args.excluded.now c.in-Some-Before.order pair c.args.level c.args.q
    c.len-here.result l c.requires.asked c.len-here.ensures o.0 o.1.0 o.1.1 in
    IfOk-weaker c.between.result _ _
    (λ proof h place point.
    moved_between r state.context.now at.candidate.now pair (write_of best.candidate.now.writes) c.args.level c.args.q
    place proof o.1.0.candidate c.requires.asked.write.pair o.0 (h r state.context.now best place asked point))
    c.between.ensures.proof

pub unreachable-requires : goal.unreachable-requires
unreachable-requires c =
    let state = c.args.state.now in
    let pair = pair_in c.args.state.now.read.now c.args.problem.now in
    let out = c.in_default.ensures in
    let none = subst (λ o. MatchOption o (is_seen pair.write.number c.args.level (sightings_of state.seen.now) ≡ false)
    (λ out. Unit {0})) c.in-None.is c.in_ok-seen.ensures.none in
    nowhere state c.args.best.now c.args.excluded.now pair c.args.level c.requires.leaf c.requires.asked.write.pair
    c.requires.asked.write.has (sym c.is_of.ensures ∙ c.if-is_of.false) out none
