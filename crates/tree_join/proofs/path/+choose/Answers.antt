-- The numbers that are left are asked in their order. Those that were asked are excluded, which is kept as a part of
-- the numbers that are left: what was asked, followed by the rest, is all of them. Without a best nothing is excluded,
-- so the first one is taken or has no point. The first candidate that isn't excluded ends the search; at the end of the
-- numbers all are excluded.
use Rattle.std.proofs.Common.{◌≡◌, ◌<◌, ◌∷◌, [], ℕ, List, length, get_or, refl, ap, subst, rules, arith}
use Rattle.std.specs.Prelude.{IfSome, None, Some, slice_get}
use Rattle.std.specs.Option.{option_copied}
use Rattle.std.proofs.lemmas.List.{nil_from_length}
use Rattle.tree_order.specs.Absence.{IsContradicted}
use Rattle.tree_order.specs.Candidates.{IsCandidate}
use Rattle.tree_order.specs.declared.candidates.Candidate.{Candidate}
use Rattle.affine_core.specs.declared.form.Form.{Form}
use Rattle.tree_order.specs.Positions.{IsPointAt}
use Rattle.tree_order.specs.Reads.{pair_of}
use Rattle.tree_order.specs.declared.candidates.Read.{Read}
use Rattle.tree_graphs.specs.Asked.{write_of}
use Rattle.tree_join.specs.Leaves.{IsExcluded}
use Rattle.tree_join.specs.Joining.{IsBest, IsChoiceSoFar, IsPath}
use Rattle.tree_order.specs.declared.seen.Position.{Position}
use Rattle.tree_join.specs.declared.path.State.{State}
use Rattle.tree_join.specs.declared.leaf.Excluded.{Excluded}
use Rattle.tree_order.proofs.Absent.{path_from}
use Rattle.std.proofs.lemmas.Option.{slice_get-get_or}
use Rattle.tree_join.proofs.NextCandidate.{all_asked, next_below, one_absent, one_excluded, one_taken}
use Rattle.tree_join.proofs.Moves.{none_copied}
use Rattle.tree_join.proofs.path.+choose.Goals as goal
use Rattle.plain_data.proofs.Lists.{All-slice_get}

-- the number that is asked, and its candidate
module _ (state : State) (path : IsPath state 0 None) (all left : List ℕ) (number : ℕ) (out : List Excluded)
    (first : all ≡ number ∷ left) (h : IsChoiceSoFar state all out) where
  so_far : IsChoiceSoFar state (number ∷ left) out
  so_far = subst (λ xs. IsChoiceSoFar state xs out) first h

  below : number < length state.candidates.now
  below =
      next_below state.left.now so_far.0 left number (length state.candidates.now) so_far.1 path.left_are

  module _ (c : Candidate) where
    abbrev candidate : Candidate
    candidate = get_or state.candidates.now number c

    asked : slice_get state.candidates.now number ≡ Some candidate
    asked = slice_get-get_or state.candidates.now number c below

    is : IsCandidate state.read.now candidate
    is =
        All-slice_get (IsCandidate state.read.now) state.candidates.now number candidate path.candidates_are.each asked

best_here : (state : State) → IsPath state 0 None → (best : Position) → option_copied state.best ≡ Some best
    → IsBest state.read.now state.context.now best
best_here state path best e = subst (λ o. IfSome o (IsBest state.read.now state.context.now)) e path.best_is

pub returns-in_default : goal.returns-in_default
returns-in_default t c =
    let none : c.args.left.now ≡ [] = nil_from_length c.args.left.now c.in_default.ensures.cases in
    all_asked c.args.state.now c.args.out
    (subst (λ left. IsChoiceSoFar c.args.state.now left c.args.out) none c.requires.rest)

pub bounds-state-number : goal.bounds-state-number
bounds-state-number t c =
    below c.args.state.now c.requires.path c.args.left.now c.in-Some.left.now c.in-Some.number.now c.args.out
    (search rules) c.requires.rest

pub absence_of-requires-clause-candidate : goal.absence_of-requires-clause-candidate
absence_of-requires-clause-candidate t c = (
  c.args.state.now.read.now,
  is c.args.state.now c.requires.path c.args.left.now c.in-Some.left.now c.in-Some.number.now c.args.out
      (search rules) c.requires.rest c.index-state-number.result,
)

pub absence_of-requires-clause-context : goal.absence_of-requires-clause-context
absence_of-requires-clause-context t c =
    path_from c.args.state.now.read.now c.args.state.now.context.now 0
    (get_or c.args.state.now.candidates.now c.in-Some.number.now c.index-state-number.result)
    (is c.args.state.now c.requires.path c.args.left.now c.in-Some.left.now c.in-Some.number.now c.args.out
    (search rules) c.requires.rest c.index-state-number.result) c.requires.path.context_is

pub returns-in-Some-absent : goal.returns-in-Some-absent
returns-in-Some-absent t c =
    let state = c.args.state.now in
    let left = c.in-Some.left.now in
    let number = c.in-Some.number.now in
    let candidate = get_or state.candidates.now number c.index-state-number.result in
    let first : c.args.left.now ≡ number ∷ left = search rules in
    let none = none_copied state.best c.in_default-best.not-Some in
    let told = subst (λ o. IfSome o (IsContradicted state.context.now candidate.edges)) c.in-Some-absent.is
    c.in_ok-absent.ensures.some in
    one_absent state number left c.args.out candidate c.in-Some-absent.terms c.requires.path
    (is state c.requires.path c.args.left.now left number c.args.out first c.requires.rest c.index-state-number.result)
    (asked state c.requires.path c.args.left.now left number c.args.out first c.requires.rest
    c.index-state-number.result) none told
    (so_far state c.requires.path c.args.left.now left number c.args.out first c.requires.rest)

pub returns-in_default-best : goal.returns-in_default-best
returns-in_default-best t c =
    let state = c.args.state.now in
    let left = c.in-Some.left.now in
    let number = c.in-Some.number.now in
    let first : c.args.left.now ≡ number ∷ left = search rules in
    one_taken state number left c.args.out (get_or state.candidates.now number c.index-state-number.result)
    (asked state c.requires.path c.args.left.now left number c.args.out first c.requires.rest
    c.index-state-number.result)
    (so_far state c.requires.path c.args.left.now left number c.args.out first c.requires.rest)

pub exclusions-requires : goal.exclusions-requires
exclusions-requires t c =
    let state = c.args.state.now in
    record {
      asked = (
        state.read.now,
        best_here state c.requires.path c.in-Some-best.best.now (ap option_copied c.in-Some-best.is),
        is state c.requires.path c.args.left.now c.in-Some.left.now c.in-Some.number.now c.args.out (search rules)
            c.requires.rest c.index-state-number.result,
        c.requires.path.context_is,
      );
    }

pub choose-requires : goal.choose-requires
choose-requires t c =
    let state = c.args.state.now in
    let left = c.in-Some.left.now in
    let number = c.in-Some.number.now in
    let candidate = get_or state.candidates.now number c.index-state-number.result in
    let best = c.in-Some-best.best.now in
    let best_is = ap option_copied c.in-Some-best.is in
    let first : c.args.left.now ≡ number ∷ left = search rules in
    let candidate_is = is state c.requires.path c.args.left.now left number c.args.out first c.requires.rest
    c.index-state-number.result in
    let e : Excluded = record {
      writer = candidate.writes.write.number;
      level = candidate.writes.level;
      sums = c.in-Some-found.sums;
    } in
    let told = subst
    (λ o. IfSome o
    (λ sums.
    (r : Read) (place : List Form) (e : Excluded) → IsBest r state.context.now best → IsCandidate r candidate
    → IsPointAt best place → e.level ≡ candidate.writes.level → e.sums ≡ sums
    → IsExcluded state.context.now (write_of best.candidate.now.writes) place (pair_of candidate.writes) e))
    c.in-Some-found.is c.in_ok-found.ensures in (
      omega (arith, ap length first),
      (
        c.requires.path,
        one_excluded state number left c.args.out c.push.new.self e candidate best candidate_is
            (asked state c.requires.path c.args.left.now left number c.args.out first c.requires.rest
            c.index-state-number.result) best_is refl refl c.in_ok-push-in-Some-found.ensures.ok
            (λ place point. told state.read.now place e
            (best_here state c.requires.path best best_is) candidate_is point
            refl refl)
            (so_far state c.requires.path c.args.left.now left number c.args.out first c.requires.rest),
      ),
    )

pub returns-in-None : goal.returns-in-None
returns-in-None t c =
    let state = c.args.state.now in
    let left = c.in-Some.left.now in
    let number = c.in-Some.number.now in
    let first : c.args.left.now ≡ number ∷ left = search rules in
    one_taken state number left c.args.out (get_or state.candidates.now number c.index-state-number.result)
    (asked state c.requires.path c.args.left.now left number c.args.out first c.requires.rest
    c.index-state-number.result)
    (so_far state c.requires.path c.args.left.now left number c.args.out first c.requires.rest)
