-- A loop over one assignment whose turns are counted by themselves.
--
-- What the walk has left is the points of the run and then those of its frames. Where the walk is in such a loop and
-- the run is over, the later turns move from the loop's frame into the run: the frame then stands at the loop's last
-- value, of which nothing is left, so the points of both together stay the same. Nothing is said of loops with another
-- body: there the run stays over.
use Rattle.std.proofs.Common.{◌≡◌, ℕ, ℤ, pos, ◌+ℤ◌, ◌<ℤ◌, List, [], ◌∷◌, ◌++◌, map, refl, sym, ap, ◌∙◌, arith}
use Rattle.std.proofs.Common.{append-nil}
use Rattle.std.specs.Prelude.{IsTrue, ◌&&◌, true, false, is_some, MatchOption, Option, Some, None}
use Rattle.std.proofs.lemmas.Bool.{and_parts, and_from, false≢true}
use Rattle.std.proofs.lemmas.Int.{ints}
use Rattle.sanlp.specs.declared.nest.Node.{Node}
use Rattle.sanlp.specs.declared.nest.Node.TheVariants.{Assign}
use Rattle.sanlp.specs.declared.nest.Point.{Point}
use Rattle.sanlp.specs.Loops.{interval}
use Rattle.sanlp.specs.Size.{is_loop_value}
use Rattle.sanlp.specs.Trace.{all_points, trace_node, trace_step, turn_points}
use Rattle.sanlp.proofs.Folds.{fold_assign_at}
use Rattle.sanlp.proofs.Intervals.{interval_end, interval_step}
use Rattle.loop_walk.specs.declared.walk.Frame.{Frame}
use Rattle.loop_walk.specs.EnteredLoops.{turns_within}
use Rattle.loop_walk.specs.Runs.{assignment_points}
use Rattle.loop_walk.specs.Walking.{Valid, left, left_of_turns, turns_valid, valid}

pub run_step : (s : ℕ) (value next last : ℤ) (outer : List ℤ) → next ≡ value +ℤ pos 1 → value <ℤ last
    → assignment_points s (interval (value +ℤ pos 1) last) outer
    ≡ record { statement = s; at = outer ++ next ∷ [] } ∷ assignment_points s (interval (next +ℤ pos 1) last) outer
run_step s value next last outer is lt =
    ap (λ v. assignment_points s (interval v last) outer) (sym is)
    ∙ ap (λ vs. assignment_points s vs outer) (interval_step next last (omega (arith, ints)))

-- the turns of a loop over an assignment
turns_are_points : (s : ℕ) (body : List Node) (values at : List ℤ) → body ≡ Assign s ∷ []
    → turn_points (all_points (map trace_node body)) values at ≡ assignment_points s values at
turns_are_points s body values at is =
    ap (λ (parts : List Node). turn_points (all_points (map trace_node parts)) values at) is ∙ each values where
      each : (vs : List ℤ)
          → turn_points (all_points (map trace_node (Assign s ∷ []))) vs at ≡ assignment_points s vs at
      each [] = refl
      each (v ∷ vs) =
          ap (λ points. (points ++ []) ++ turn_points (all_points (map trace_node (Assign s ∷ []))) vs at)
          (fold_assign_at (List ℤ) (List Point) trace_step s (at ++ v ∷ []))
          ∙ ap (λ points. record { statement = s; at = at ++ v ∷ [] } ∷ points) (each vs)

module _ (f : Frame) (frames : List Frame) (body : List Node) (s : ℕ) (at : List ℤ) (is : body ≡ Assign s ∷ [])
    (done : (at : List ℤ) → left frames body at ≡ []) where
  pub turns_taken : (run : List Point) → run ≡ assignment_points s (interval (f.value +ℤ pos 1) f.last) at
      → run ++ left_of_turns (record f { value = f.last }) (left frames) body at
      ≡ left_of_turns f (left frames) body at
  turns_taken run is_run =
      ap (λ points. run ++ points) (
      ap (λ points. points ++ turn_points (all_points (map trace_node body)) (interval (f.last +ℤ pos 1) f.last) at)
      (done (at ++ f.last ∷ []))
      ∙ ap (λ vs. turn_points (all_points (map trace_node body)) vs at)
      (interval_end (f.last +ℤ pos 1) f.last (omega (arith, ints))))
      ∙ append-nil run ∙ is_run
      ∙ sym (turns_are_points s body (interval (f.value +ℤ pos 1) f.last) at is)
      ∙ ap (λ points. points ++ turn_points (all_points (map trace_node body)) (interval (f.value +ℤ pos 1) f.last) at)
      (sym (done (at ++ f.value ∷ [])))

  pub turns_taken_valid : (inside : Valid) → ((at : List ℤ) → IsTrue (valid frames body at))
      → IsTrue (turns_valid f inside body at)
      → IsTrue (turns_valid (record f { value = f.last }) (valid frames) body at)
  turns_taken_valid inside all h =
      let tests = and_parts _ (inside body (at ++ f.value ∷ [])) h in
      let turns =
      and_parts (is_loop_value f.value && is_loop_value f.last)
      (turns_within body at (interval (f.value +ℤ pos 1) f.last)) tests.0 in
      let limits = and_parts (is_loop_value f.value) (is_loop_value f.last) turns.0 in
      and_from _ _
      (and_from _ _ (and_from _ _ limits.1 limits.1)
      (ap (turns_within body at) (interval_end (f.last +ℤ pos 1) f.last (omega (arith, ints)))))
      (all (at ++ f.last ∷ []))

pub value_and_last_within : (f : Frame) (inside : Valid) (body : List Node) (at : List ℤ)
    → IsTrue (turns_valid f inside body at) → IsTrue (is_loop_value f.value) × IsTrue (is_loop_value f.last)
value_and_last_within f inside body at h =
    let tests = and_parts _ (inside body (at ++ f.value ∷ [])) h in
    let turns =
    and_parts (is_loop_value f.value && is_loop_value f.last)
    (turns_within body at (interval (f.value +ℤ pos 1) f.last)) tests.0 in
    and_parts (is_loop_value f.value) (is_loop_value f.last) turns.0

-- the points of a run and then those of the frames
module _ (result : Option Point) (before after others : List Point)
    (gives : MatchOption result ((before ≡ []) × (after ≡ [])) (λ point. before ≡ point ∷ after)) where
  pub run_gives : is_some result ≡ true
      → MatchOption result ((before ++ others ≡ []) × (after ++ others ≡ []))
      (λ point. before ++ others ≡ point ∷ (after ++ others))
  run_gives some = given result gives some where
    given : (o : Option Point) → MatchOption o ((before ≡ []) × (after ≡ [])) (λ point. before ≡ point ∷ after)
        → is_some o ≡ true
        → MatchOption o ((before ++ others ≡ []) × (after ++ others ≡ []))
        (λ point. before ++ others ≡ point ∷ (after ++ others))
    given None h some = absurd (false≢true some)
    given (Some point) h some = ap (λ points. points ++ others) h

  pub run_is_over : is_some result ≡ false → (before ≡ []) × (after ≡ [])
  run_is_over none = over result gives none where
    over : (o : Option Point) → MatchOption o ((before ≡ []) × (after ≡ [])) (λ point. before ≡ point ∷ after)
        → is_some o ≡ false → (before ≡ []) × (after ≡ [])
    over None h none = h
    over (Some point) h none = absurd (false≢true (sym none))

pub frames_give : (result : Option Point) (before run left_before left_after : List Point) → before ≡ []
    → MatchOption result ((left_before ≡ []) × (left_after ≡ []) × (run ≡ []))
    (λ point. left_before ≡ point ∷ (run ++ left_after))
    → MatchOption result ((before ++ left_before ≡ []) × (run ++ left_after ≡ []))
    (λ point. before ++ left_before ≡ point ∷ (run ++ left_after))
frames_give None before run left_before left_after none h =
    (ap (λ points. points ++ left_before) none ∙ h.0, ap (λ points. points ++ left_after) h.2 ∙ h.1)
frames_give (Some point) before run left_before left_after none h =
    ap (λ points. points ++ left_before) none ∙ h
