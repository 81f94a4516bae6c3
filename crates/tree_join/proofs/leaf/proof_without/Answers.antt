use Rattle.std.proofs.Common.{ℕ, ◌≡◌, ◌*◌, false, ap, ◌∙◌, subst}
use Rattle.std.specs.Prelude.{Option, IfSome, MatchOption, None, Some}
use Rattle.std.specs.Option.{option_copied}
use Rattle.std.proofs.lemmas.Result.{IfOk-weaker}
use Rattle.tree_order.specs.Seen.{absent_at, is_seen, sightings_of, IsOutcome}
use Rattle.tree_order.specs.declared.seen.Outcome.{Outcome}
use Rattle.tree_order.specs.declared.seen.Outcome.TheVariants as outcome
use Rattle.tree_join.specs.Joining.{IsPath}
use Rattle.tree_join.specs.declared.path.State.{State}
use Rattle.tree_join.proofs.Ends.{moved_writes, nowhere_left, outcome_at}
use Rattle.tree_order.proofs.Outcomes.{Tells}
use Rattle.tree_order.specs.Reads.{pair_in}
use Rattle.tree_join.proofs.leaf.proof_without.Goals as goal

told : (state : State) (u p : ℕ) (seen : Option Outcome) (out : Outcome) → IsPath state 0 None
    → IfSome seen (Tells u p (sightings_of state.seen.now) None) → seen ≡ Some out
    → IsOutcome state.read.now state.context.now (65536 * 896) (option_copied state.best) u p out
told state u p seen out path some is =
    outcome_at state u p out path (subst (λ o. IfSome o (Tells u p (sightings_of state.seen.now) None)) is some)

pub without-requires : goal.without-requires
without-requires c =
    let state = c.args.state.now in
    let o = told state c.args.problem.now.write.number c.args.level c.in_ok-seen.seen (outcome.Without c.in-Without.absence)
    c.requires.end.path c.in_ok-seen.ensures.some (c.in-Some.is ∙ ap Some c.in-Without.is) in
    (state.read.now, state.context.now, o.1.0, c.requires.end.path.context_is, c.len-here.ensures)

pub returns-clause-proof : goal.returns-clause-proof
returns-clause-proof c =
    let state = c.args.state.now in
    let r = state.read.now in
    let pair = pair_in c.args.state.now.read.now c.args.problem.now in
    let at = absent_at c.in-Without.absence.now in
    let o = told state c.args.problem.now.write.number c.args.level c.in_ok-seen.seen (outcome.Without c.in-Without.absence)
    c.requires.end.path c.in_ok-seen.ensures.some (c.in-Some.is ∙ ap Some c.in-Without.is) in
    IfOk-weaker c.without.result _ _
    (λ proof h. moved_writes r state.context.now at.candidate.now pair c.args.level proof o.1.0.candidate
    c.requires.write.pair o.0
    (h r state.context.now o.1.0 c.requires.end.path.context_is c.len-here.ensures)) c.without.ensures.alone

pub unreachable-requires : goal.unreachable-requires
unreachable-requires c =
    let state = c.args.state.now in
    let pair = pair_in c.args.state.now.read.now c.args.problem.now in
    let none = subst (λ o. MatchOption o (is_seen pair.write.number c.args.level (sightings_of state.seen.now) ≡ false)
    (λ out. Unit {0})) c.in_default.is c.in_ok-seen.ensures.none in
    nowhere_left state pair c.args.level c.requires.end c.requires.write.pair c.requires.write.has none

pub unreachable-requires-in-Before : goal.unreachable-requires-in-Before
unreachable-requires-in-Before c =
    let state = c.args.state.now in
    let end = c.requires.end in
    let out = outcome.Before c.in-Before.field-0 c.in-Before.field-1 in
    subst (λ b. IsOutcome state.read.now state.context.now (65536 * 896) b c.args.problem.now.write.number c.args.level out)
    end.no_best
    (told state c.args.problem.now.write.number c.args.level c.in_ok-seen.seen out end.path c.in_ok-seen.ensures.some
    (c.in-Some.is ∙ ap Some c.in-Before.is))
