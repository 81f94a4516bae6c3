-- The steps of the joining, one lemma for each.
--
-- A candidate that is chosen leaves the numbers that are left, which lowers the height by more than its tree and its
-- comparison can take. A candidate on its way ends as one that is seen, and then the next one is chosen; or it comes to
-- a point, which takes less to compare than the tree had over. So each step lowers the height.
use Rattle.std.proofs.Common.{◌≡◌, ◌+◌, ◌*◌, ◌^◌, ◌≤◌, ◌<◌, ℕ, List, [], ◌∷◌, ◌++◌, length, refl, sym, ap, ◌∙◌, subst, arith}
use Rattle.std.specs.Prelude.{Option, Some, None, IfSome, slice_get}
use Rattle.std.specs.List.{filter}
use Rattle.affine_core.specs.declared.form.Form.{Form}
use Rattle.int_polyhedra.specs.declared.system.Proof.{Proof}
use Rattle.int_polyhedra.specs.declared.system.Proof.TheVariants.{Sum}
use Rattle.int_polyhedra.specs.declared.system.Term.{Term}
use Rattle.tree_order.specs.Candidates.{IsCandidate}
use Rattle.tree_order.specs.Comparisons.{facts_had, HasNextLoop, IsComparison}
use Rattle.tree_graphs.specs.Heights.{height_of}
use Rattle.tree_order.specs.Positions.{own_sums, IsAt, IsEmptyAt, IsNode, IsPointAt}
use Rattle.tree_order.specs.Reads.{pair_of}
use Rattle.tree_order.specs.Refutations.{RefutesWrites}
use Rattle.tree_order.specs.Seen.{Sighting, absent_at, before, best_in, passed, sightings_of, without}
use Rattle.tree_order.specs.declared.candidates.Candidate.{Candidate}
use Rattle.tree_order.specs.declared.candidates.Read.{Read}
use Rattle.tree_order.specs.declared.compare.Compared.{Compared}
use Rattle.tree_order.specs.declared.compare.Comparison.{Comparison}
use Rattle.tree_order.specs.declared.compare.Comparison.TheVariants.{Earlier, Later, Open}
use Rattle.tree_order.specs.declared.compare.Pair.{Pair}
use Rattle.tree_order.specs.declared.order.Order.{Order}
use Rattle.tree_order.specs.declared.seen.Absence.{Absence}
use Rattle.tree_order.specs.declared.seen.Position.{Position}
use Rattle.tree_order.specs.declared.seen.Seen.{Seen}
use Rattle.tree_order.specs.declared.seen.Seen.TheVariants as seen
use Rattle.tree_join.proofs.LevelCounts.{few_before}
use Rattle.tree_graphs.proofs.Heights.{height_simple}
use Rattle.tree_order.proofs.Outcomes.{seen_after, seen_before, seen_first, seen_passed, seen_without}
use Rattle.tree_join.specs.Joining.{ArePair, IsBest, IsLeft, IsPathOf, IsStanding}
use Rattle.tree_join.specs.Walking.{height, tests_left, turns_left, AreFrames, GoesOn, IsReady, IsStep, IsUnderWay}
use Rattle.tree_join.specs.declared.path.Frame.{Frame}
use Rattle.tree_join.specs.declared.path.Next.{Next}
use Rattle.tree_join.specs.declared.path.Next.TheVariants.{Choose, Compare, Follow}
use Rattle.tree_join.specs.declared.path.Step.TheVariants.{On}
use Rattle.tree_join.specs.declared.path.Task.{Task}
use Rattle.tree_join.specs.declared.path.Walk.{Walk}
use Rattle.tree_join.proofs.Between.{few_levels}
use Rattle.tree_join.proofs.Moves.{absent_refutes, best_before, new_before, none_compared, none_left, ready_choose}
use Rattle.tree_join.proofs.Moves.{some_left}
use Rattle.tree_join.proofs.Sides.{is_at_from}
use Rattle.tree_join.proofs.PathStarts.{absent_is, start_is}
use Rattle.tree_join.proofs.PathSteps.{is_other, others_fewer, path_absent, path_before, path_context_less, path_first}
use Rattle.tree_join.proofs.PathSteps.{path_less, path_passed, path_taken, path_without}
use Rattle.tree_join.proofs.Turning.{same_ready, walk_on, walk_stays}
use Rattle.tree_join.proofs.Walks.{turns_less}
use Rattle.tree_graphs.specs.Asked.{write_of}
use Rattle.tree_graphs.specs.Level.{common_of}
use Rattle.plain_data.proofs.Lists.{All-slice_get}
use Rattle.tree_sums.specs.Parts.{weight}
use Rattle.sanlp.proofs.Precedence.{common_first}
use Rattle.source_tree.specs.declared.tree.Tree.TheVariants.{Zero}

module _ (task : Task) (walk new : Walk) where
  abbrev r : Read
  r = task.read.now

  abbrev cs : List Candidate
  cs = task.candidates.now

  abbrev best_now : Option Position
  best_now = best_in walk.seen

  abbrev sightings : List Sighting
  sightings = sightings_of walk.seen

  -- the next candidate is chosen
  choose_again : (more : List Seen) (last : Next) (best : Option Position) (told : List Sighting) (room : ℕ)
      → AreFrames r cs walk.context walk.seen walk.frames
      → new.context ≡ walk.context → new.seen ≡ walk.seen ++ more → new.frames ≡ walk.frames
      → best_in new.seen ≡ best → sightings_of new.seen ≡ told
      → IsPathOf r cs walk.context best told new.left room None → 70000 * length new.left ≤ room
      → 70000 * length new.left < height (length walk.left) last
      → GoesOn task (turns_left walk (On last)) new (On Choose)
  choose_again more last best told room frames context_is seen_is frames_are best_is told_is path le less =
      walk_on task walk new more last (On Choose) frames context_is seen_is frames_are
      (same_ready r cs walk.context new.context new.seen new.seen new.left new.left Choose context_is refl refl
      (ready_choose r cs walk.context new.seen best told new.left room best_is told_is le path))
      (turns_less (70000 * length new.left) (height (length walk.left) last) less)

  -- A candidate is chosen

  module _ (number : ℕ) (way : IsUnderWay task walk (On Choose)) (there : IsLeft number walk.left)
      (context_is : new.context ≡ walk.context)
      (left_is : new.left ≡ filter (is_other number) walk.left) (frames_are : new.frames ≡ walk.frames) where
    fewer : length new.left < length walk.left
    fewer = omega (arith, ap length left_is, others_fewer number walk.left there)

    candidate_at : (c : Candidate) → slice_get cs number ≡ Some c → IsCandidate r c
    candidate_at c found = All-slice_get (IsCandidate r) cs number c way.1.0.candidates_are.each found

    pub absent_on : (a : Absence) (c : Candidate) → slice_get cs number ≡ Some a.candidate.now
        → slice_get cs number ≡ Some c → a.rows ≡ own_sums 0 (length walk.context.rows)
        → RefutesWrites (pair_of c.writes) walk.context c.writes.level (Sum a.terms)
        → weight a.terms ≤ 2 ^ 48 → new.seen ≡ walk.seen ++ seen.Without a ∷ []
        → GoesOn task (turns_left walk (On Choose)) new (On Choose)
    absent_on a c found known rows_are refutes light seen_is =
        let d : Candidate = a.candidate.now in
        let at : Position = absent_at a in
        let is : IsCandidate r d = candidate_at d found in
        let path = way.1.0 in
        let own = path_context_less r.context.now.vars (70000 * length walk.left) 0 walk.context (omega arith)
        path.context_is in
        let node : IsNode walk.context d (Zero (Sum a.terms ∷ [])) (own_sums 0 (length walk.context.rows)) =
        absent_is r walk.context d (Zero (Sum a.terms ∷ [])) a.terms is own refl light
        (absent_refutes cs walk.context number c d a.terms known found refutes) in
        let at_is : IsAt r walk.context at =
        is_at_from r walk.context at d (Zero (Sum a.terms ∷ [])) (own_sums 0 (length walk.context.rows)) refl refl
        rows_are is node in
        let empty : IsEmptyAt at = (Sum a.terms ∷ [], refl) in
        let on = seen_without new.seen walk.seen a seen_is in
        choose_again (seen.Without a ∷ []) Choose best_now (without at ∷ sightings) (70000 * length walk.left) way.0
        context_is seen_is frames_are on.1 on.0
        (subst (λ left. IsPathOf r cs walk.context best_now (without at ∷ sightings) left (70000 * length walk.left) None)
        (sym left_is)
        (path_absent r cs walk.context best_now sightings walk.left (70000 * length walk.left) number at found there at_is
        empty path)) (omega (arith, fewer)) (omega (arith, fewer))

    pub taken_on : (at : Position) → slice_get cs number ≡ Some at.candidate.now → at.node.now ≡ at.candidate.now.tree
        → at.rows ≡ own_sums 0 (length r.context.now.rows) → new.seen ≡ walk.seen
        → GoesOn task (turns_left walk (On Choose)) new (On (Follow at))
    taken_on at found node_is rows_are seen_is =
        let d : Candidate = at.candidate.now in
        let is : IsCandidate r d = candidate_at d found in
        let path = way.1.0 in
        let node : IsNode walk.context d d.tree (own_sums 0 (length r.context.now.rows)) =
        start_is r walk.context path.starts.0 d path.read is path.context_is.vars_are path.starts.1 in
        let at_is : IsAt r walk.context at =
        is_at_from r walk.context at d d.tree (own_sums 0 (length r.context.now.rows)) refl node_is rows_are is node in
        let low : height_of at.node.now ≤ 65536 = omega (arith, ap height_of node_is, height_simple 65536 d.tree is.simple)
        in
        let less : height (length new.left) (Follow at) < height (length walk.left) Choose = omega (arith, fewer, low) in
        walk_stays task walk new Choose (On (Follow at)) way.0 context_is seen_is frames_are
        (same_ready r cs walk.context new.context walk.seen new.seen new.left new.left (Follow at) context_is seen_is refl (
          path_less r cs walk.context best_now sightings new.left (70000 * length walk.left)
              (height (length new.left) (Follow at)) (Some d) (omega (arith, less))
              (subst (λ left. IsPathOf r cs walk.context best_now sightings left (70000 * length walk.left) (Some d))
              (sym left_is)
              (path_taken r cs walk.context best_now sightings walk.left (70000 * length walk.left) number d found there path)),
          at_is,
        ))
        (turns_less (height (length new.left) (Follow at)) (height (length walk.left) Choose) less)

  -- A candidate on its way

  module _ (context_is : new.context ≡ walk.context) (left_is : new.left ≡ walk.left)
      (frames_are : new.frames ≡ walk.frames) where
    -- the path, with the numbers that are left now
    moved : (best : Option Position) (told : List Sighting) (room : ℕ) (way : Option Candidate)
        → IsPathOf r cs walk.context best told walk.left room way → IsPathOf r cs walk.context best told new.left room way
    moved best told room way =
        subst (λ left. IsPathOf r cs walk.context best told left room way) (sym left_is)

    same_count : length new.left ≡ length walk.left
    same_count = ap length left_is

    -- at a leaf of its tree
    module _ (first at : Position) (way : IsUnderWay task walk (On (Follow first)))
        (same : first.candidate.now ≡ at.candidate.now) (at_is : IsAt r walk.context at) where
      path : IsPathOf r cs walk.context best_now sightings walk.left (height (length walk.left) (Follow first))
          (Some at.candidate.now)
      path = subst (λ c. IsPathOf r cs walk.context best_now sightings walk.left
          (height (length walk.left) (Follow first)) (Some c)) same way.1.0

      pub zero_on : (a : Absence) → absent_at a ≡ at → new.seen ≡ walk.seen ++ seen.Without a ∷ []
          → GoesOn task (turns_left walk (On (Follow first))) new (On Choose)
      zero_on a at_same seen_is =
          let on = seen_without new.seen walk.seen a seen_is in
          let empty : IsEmptyAt at = subst IsEmptyAt at_same (Sum a.terms ∷ [], refl) in
          choose_again (seen.Without a ∷ []) (Follow first) best_now (without at ∷ sightings)
          (height (length walk.left) (Follow first)) way.0 context_is seen_is frames_are on.1
          (on.0 ∙ ap (λ at. without at ∷ sightings) at_same)
          (moved best_now (without at ∷ sightings) (height (length walk.left) (Follow first)) None
          (path_without r cs walk.context best_now sightings walk.left (height (length walk.left) (Follow first))
          at.candidate.now path at refl at_is empty))
          (omega (arith, same_count)) (omega (arith, same_count))

      pub first_on : (place : List Form) → IsPointAt at place → best_now ≡ None
          → new.seen ≡ walk.seen ++ seen.First at ∷ []
          → GoesOn task (turns_left walk (On (Follow first))) new (On Choose)
      first_on place point none seen_is =
          let on = seen_first new.seen walk.seen at seen_is in
          choose_again (seen.First at ∷ []) (Follow first) (Some at) sightings
          (height (length walk.left) (Follow first)) way.0 context_is seen_is frames_are on.1 on.0
          (moved (Some at) sightings (height (length walk.left) (Follow first)) None
          (path_first r cs walk.context best_now sightings walk.left (height (length walk.left) (Follow first))
          at.candidate.now path at refl (at_is, (place, point)) none))
          (omega (arith, same_count)) (omega (arith, same_count))

      pub compared_on : (b : Position) (pair : Pair) (c : Compared) → best_now ≡ Some b → ArePair walk.context b at pair
          → c.equal ≡ [] → c.upper ≡ None → c.lower ≡ None → new.seen ≡ walk.seen
          → GoesOn task (turns_left walk (On (Follow first))) new (On (Compare at pair (Open c)))
      compared_on b pair c b_is points none no_upper no_lower seen_is =
          let few : pair.common ≤ 6 = omega (
            arith,
            points.points.common,
            common_first (write_of b.candidate.now.writes).statement.loops
                (write_of at.candidate.now.writes).statement.loops,
            few_levels r b.candidate.now
                (subst (λ o. IfSome o (IsBest r walk.context)) b_is way.1.0.best_is).0.candidate,
          ) in
          let less : height (length new.left) (Compare at pair (Open c)) < height (length walk.left) (Follow first) =
          omega (arith, same_count, few) in
          walk_stays task walk new (Follow first) (On (Compare at pair (Open c))) way.0 context_is seen_is frames_are
          (same_ready r cs walk.context new.context walk.seen new.seen new.left new.left (Compare at pair (Open c))
          context_is seen_is refl (
            path_less r cs walk.context best_now sightings new.left (height (length walk.left) (Follow first))
                (height (length new.left) (Compare at pair (Open c))) (Some at.candidate.now) (omega (arith, less))
                (moved best_now sightings (height (length walk.left) (Follow first)) (Some at.candidate.now) path),
            (at_is, (b, b_is, points, none_compared walk.context pair c none no_upper no_lower)),
          ))
          (turns_less (height (length new.left) (Compare at pair (Open c))) (height (length walk.left) (Follow first)) less)

    -- its point is compared
    module _ (at : Position) (pair : Pair) where
      pub before_on : (order : Order) → IsUnderWay task walk (On (Compare at pair (Earlier order)))
          → new.seen ≡ walk.seen ++ seen.Before at order ∷ []
          → GoesOn task (turns_left walk (On (Compare at pair (Earlier order)))) new (On Choose)
      before_on order way seen_is =
          let last = Compare at pair (Earlier order) in
          let on = seen_before new.seen walk.seen at order seen_is in
          let h = way.1.1.1 in
          choose_again (seen.Before at order ∷ []) last best_now (before at order ∷ sightings)
          (height (length walk.left) last) way.0 context_is seen_is frames_are on.1 on.0
          (moved best_now (before at order ∷ sightings) (height (length walk.left) last) None
          (path_before r cs walk.context best_now sightings walk.left (height (length walk.left) last) at.candidate.now
          way.1.0 at h.0 order refl way.1.1.0 h.1 (new_before walk.context h.0 at pair order h.2 h.3)))
          (omega (arith, same_count)) (omega (arith, same_count))

      pub after_on : (order : Order) → IsUnderWay task walk (On (Compare at pair (Later order)))
          → new.seen ≡ walk.seen ++ seen.After at order ∷ []
          → GoesOn task (turns_left walk (On (Compare at pair (Later order)))) new (On Choose)
      after_on order way seen_is =
          let last = Compare at pair (Later order) in
          let h = way.1.1.1 in
          let b_best : IsBest r walk.context h.0 =
          subst (λ o. IfSome o (IsBest r walk.context)) h.1 way.1.0.best_is in
          choose_again (seen.After at order ∷ []) last (Some at) (passed h.0 order ∷ sightings)
          (height (length walk.left) last) way.0 context_is seen_is frames_are
          (seen_after new.seen walk.seen at order seen_is).1
          (seen_passed new.seen walk.seen at h.0 order seen_is h.1)
          (moved (Some at) (passed h.0 order ∷ sightings) (height (length walk.left) last) None
          (path_passed r cs walk.context best_now sightings walk.left (height (length walk.left) last) at.candidate.now
          way.1.0 at h.0 order refl (way.1.1.0, (pair.new.now, h.2.new_is)) h.1 b_best.0
          (best_before walk.context h.0 at pair order h.2 h.3)))
          (omega (arith, same_count)) (omega (arith, same_count))

      -- further than before
      pub compares_on : (c : Compared) (told : Comparison) → IsUnderWay task walk (On (Compare at pair (Open c)))
          → ((b : Position) → best_now ≡ Some b → ArePair walk.context b at pair
          → IsComparison walk.context (write_of b.candidate.now.writes) (write_of at.candidate.now.writes) pair told)
          → tests_left pair told ≤ tests_left pair (Open c) → new.seen ≡ walk.seen
          → IsReady r cs new.context new.seen new.left (Compare at pair told)
      compares_on c told way is le seen_is =
          let h = way.1.1.1 in
          let last = Compare at pair (Open c) in
          same_ready r cs walk.context new.context walk.seen new.seen new.left new.left (Compare at pair told) context_is
          seen_is refl (
            path_less r cs walk.context best_now sightings new.left (height (length walk.left) last)
                (height (length new.left) (Compare at pair told)) (Some at.candidate.now) (omega (arith, same_count, le))
                (moved best_now sightings (height (length walk.left) last) (Some at.candidate.now) way.1.0),
            (way.1.1.0, (h.0, h.1, h.2, is h.0 h.1 h.2)),
          )

      pub told_on : (c : Compared) (told : Comparison) → IsUnderWay task walk (On (Compare at pair (Open c)))
          → ((b : Position) → best_now ≡ Some b → ArePair walk.context b at pair
          → IsComparison walk.context (write_of b.candidate.now.writes) (write_of at.candidate.now.writes) pair told)
          → ((d : Compared) → told ≡ Open d → ⊥) → new.seen ≡ walk.seen
          → GoesOn task (turns_left walk (On (Compare at pair (Open c)))) new (On (Compare at pair told))
      told_on c told way is closed seen_is =
          let none : tests_left pair told ≡ 0 = none_left pair told closed in
          let some : 0 < tests_left pair (Open c) = some_left pair c (way.1.1.1.3.few) in
          let less : height (length new.left) (Compare at pair told) < height (length walk.left) (Compare at pair (Open c)) =
          omega (arith, same_count, none, some) in
          walk_stays task walk new (Compare at pair (Open c)) (On (Compare at pair told)) way.0 context_is seen_is frames_are
          (compares_on c told way is (omega (arith, none)) seen_is)
          (turns_less (height (length new.left) (Compare at pair told))
          (height (length walk.left) (Compare at pair (Open c))) less)
