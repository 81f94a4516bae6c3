-- The trace run by run.
--
-- The runs of a body are those of its parts, one after the other, and the runs of a loop are those of its turns; a loop over
-- one assignment is one run, since each of its turns is one point of that statement. So by recursion over the nest the fires
-- in the runs are the processes of the trace's points (`parts_more`, `turn_more`, `one_run`). Read the other way: at the place
-- of a run the trace has as many points of its process (`run_here`). Nothing says that two runs beside each other are of two
-- processes, and a run may have no fire.
use Rattle.std.proofs.Common.{◌≡◌, ℕ, ◌+◌, ◌<◌, ◌≤◌, ℤ, pos, ◌+ℤ◌, ◌-ℤ◌, ◌≤ℤ◌, ◌<ℤ◌, Some, List, [], ◌∷◌, ◌++◌}
use Rattle.std.proofs.Common.{length, map, take, slice_get, get_or, replicate, refl, sym, ap, ◌∙◌, arith, append-nil}
use Rattle.std.proofs.lemmas.Grind.{flat_map-append}
use Rattle.std.proofs.lemmas.List.{append_assoc, get_or-replicate, get_or_default, length-append, length-map, length-replicate}
use Rattle.std.proofs.lemmas.List.{map-append, take_all, take_more}
use Rattle.std.proofs.lemmas.List.Concat.{get_or-flat_map}
use Rattle.std.proofs.lemmas.List.Folds.{length-flat_map-take}
use Rattle.std.proofs.lemmas.Option.{get_or_from_slice_get, slice_get-map}
use Rattle.std.specs.Option.{option_map}
use Rattle.loop_walk.proofs.SizeLaw.{length-counted}
use Rattle.fire_runs.specs.declared.runs.FireRun.{FireRun}
use Rattle.fire_runs.specs.Runs.{processes_in, processes_of}
use Rattle.plain_data.proofs.Lists.{slice_get-some}
use Rattle.sanlp.specs.Cells.{natural}
use Rattle.sanlp.specs.Loops.{interval}
use Rattle.sanlp.specs.Trace.{PointsAt, all_points, trace, trace_node, trace_step, turn_points}
use Rattle.sanlp.specs.declared.nest.Nest.{Nest}
use Rattle.sanlp.specs.declared.nest.Node.{Node}
use Rattle.sanlp.specs.declared.nest.Node.TheVariants.{Assign}
use Rattle.sanlp.specs.declared.nest.Point.{Point}
use Rattle.sanlp.proofs.Folds.{fold_assign_at}
use Rattle.sanlp.proofs.Intervals.{interval_end, interval_step}

abbrev fires : FireRun → List ℕ
fires run = replicate run.count run.process

abbrev process_of : Point → ℕ
process_of point = point.statement

-- Making runs

pub run_added : (runs : List FireRun) (run : FireRun) → processes_in (runs ++ run ∷ []) ≡ processes_in runs ++ fires run
run_added runs run =
    flat_map-append fires runs (run ∷ []) ∙ ap (λ xs. processes_in runs ++ xs) (append-nil (fires run))

points_added : (parts : List Node) (part : Node) (at : List ℤ)
    → all_points (map trace_node (parts ++ part ∷ [])) at ≡ all_points (map trace_node parts) at ++ trace_node part at
points_added parts part at =
    ap (λ (ps : List PointsAt). all_points ps at) (map-append trace_node parts (part ∷ []))
    ∙ flat_map-append (λ (p : PointsAt). p at) (map trace_node parts) (trace_node part ∷ [])
    ∙ ap (λ points. all_points (map trace_node parts) at ++ points) (append-nil (trace_node part at))

-- one part more
pub parts_more : (parts : List Node) (at : List ℤ) (i : ℕ) (part : Node) (old before now : List ℕ) → i < length parts
    → part ≡ get_or parts i part → before ≡ old ++ processes_of (all_points (map trace_node (take i parts)) at)
    → now ≡ before ++ processes_of (trace_node part at)
    → now ≡ old ++ processes_of (all_points (map trace_node (take (i + 1) parts)) at)
parts_more parts at i part old before now lt is e f =
    let some = all_points (map trace_node (take i parts)) at in
    let more : all_points (map trace_node (take (i + 1) parts)) at
    ≡ all_points (map trace_node (take i parts)) at ++ trace_node part at =
    ap (λ ps. all_points (map trace_node ps) at)
    (take_more parts i part lt ∙ ap (λ x. take i parts ++ x ∷ []) (sym is))
    ∙ points_added (take i parts) part at in
    f
    ∙ ap (λ fs. fs ++ processes_of (trace_node part at)) e
    ∙ append_assoc old (processes_of some) (processes_of (trace_node part at))
    ∙ ap (λ fs. old ++ fs) (sym (map-append process_of some (trace_node part at)) ∙ ap processes_of (sym more))

module _ (body : List Node) (at : List ℤ) (value last : ℤ) (before all : List ℕ)
    (gone : before ++ processes_of (turn_points (all_points (map trace_node body)) (interval value last) at)
    ≡ all) where
  -- one turn of a loop more
  pub turn_more : (now : List ℕ) → value ≤ℤ last
      → now ≡ before ++ processes_of (all_points (map trace_node body) (at ++ value ∷ []))
      → now ++ processes_of (turn_points (all_points (map trace_node body)) (interval (value +ℤ pos 1) last) at) ≡ all
  turn_more now le is =
      let points = all_points (map trace_node body) in
      let first = all_points (map trace_node body) (at ++ value ∷ []) in
      let later = turn_points (all_points (map trace_node body)) (interval (value +ℤ pos 1) last) at in
      ap (λ fs. fs ++ processes_of later) is
      ∙ append_assoc before (processes_of first) (processes_of later)
      ∙ ap (λ fs. before ++ fs) (sym (map-append process_of first later)
      ∙ ap (λ vs. processes_of (turn_points points vs at)) (sym (interval_step value last le)))
      ∙ gone

  pub turns_done : last <ℤ value → before ≡ all
  turns_done lt =
      sym (append-nil before)
      ∙ ap (λ vs. before ++ processes_of (turn_points (all_points (map trace_node body)) vs at))
      (sym (interval_end value last lt))
      ∙ gone

-- the turns of a loop over one assignment
pub one_run : (s : ℕ) (body : List Node) (first last : ℤ) (at : List ℤ) → body ≡ Assign s ∷ []
    → processes_of (turn_points (all_points (map trace_node body)) (interval first last) at)
    ≡ replicate (natural (last +ℤ pos 1 -ℤ first)) s
one_run s body first last at is =
    ap (λ (parts : List Node). processes_of (turn_points (all_points (map trace_node parts)) (interval first last) at))
    is
    ∙ each (interval first last)
    ∙ ap (λ n. replicate n s) (length-counted first (natural (last +ℤ pos 1 -ℤ first)))
  where
    each : (vs : List ℤ)
        → processes_of (turn_points (all_points (map trace_node (Assign s ∷ []))) vs at) ≡ replicate (length vs) s
    each [] = refl
    each (v ∷ vs) =
        ap (λ points. processes_of ((points ++ []) ++ turn_points (all_points (map trace_node (Assign s ∷ []))) vs at))
        (fold_assign_at (List ℤ) (List Point) trace_step s (at ++ v ∷ []))
        ∙ ap (λ ps. s ∷ ps) (each vs)

-- Reading runs

-- the run at an index below the length
abbrev pub run_at : List FireRun → ℕ → FireRun
run_at runs i = get_or runs i record { process = 0; count = 0 }

pub run_is : (runs : List FireRun) (i : ℕ) → i < length runs → run_at runs i ≡ get_or runs i (run_at runs i)
run_is runs i = get_or_default runs i _ _

-- how many fires come before a run
abbrev pub fires_before : List FireRun → ℕ → ℕ
fires_before runs i = length (processes_in (take i runs))

pub before_more : (runs : List FireRun) (i : ℕ) (run : FireRun) → i < length runs → run ≡ get_or runs i run
    → fires_before runs (i + 1) ≡ fires_before runs i + run.count
before_more runs i run lt is =
    let more : processes_in (take (i + 1) runs) ≡ processes_in (take i runs) ++ fires run =
    ap processes_in (take_more runs i run lt ∙ ap (λ x. take i runs ++ x ∷ []) (sym is))
    ∙ run_added (take i runs) run in
    ap length more
    ∙ length-append (processes_in (take i runs)) (fires run)
    ∙ ap (λ m. fires_before runs i + m) (length-replicate run.count run.process)

-- The trace has a point of this process at this time.
pub record IsFire (n : Nest) (p t : ℕ) : Type 0 where
  pub point : Point
  pub found : slice_get (trace n) t ≡ Some point
  pub same : point.statement ≡ p

pub run_here : (n : Nest) (runs : List FireRun) (i : ℕ) (run : FireRun) → processes_in runs ≡ processes_of (trace n)
    → i < length runs → run ≡ get_or runs i run → (k : ℕ) → k < run.count
    → IsFire n run.process (fires_before runs i + k)
run_here n runs i run e lt is k below =
    let many : length (fires (get_or runs i run)) ≡ run.count =
    ap (λ r. length (fires r)) (sym is) ∙ length-replicate run.count run.process in
    let within : fires_before runs i + k < length (trace n) =
    omega (
      arith,
      many,
      length-flat_map-take fires runs i run lt,
      ap length e,
      length-map (trace n) process_of,
    ) in
    let item = slice_get-some (trace n) (fires_before runs i + k) within in
    let told : get_or (processes_of (trace n)) (fires_before runs i + k) 0 ≡ item.0.statement =
    get_or_from_slice_get (processes_of (trace n)) (fires_before runs i + k) item.0.statement 0
    (slice_get-map process_of (trace n) (fires_before runs i + k) ∙ ap (option_map process_of) item.1) in
    let fired : get_or (processes_in runs) (fires_before runs i + k) 0 ≡ run.process =
    get_or-flat_map fires runs i k run 0 lt (omega (arith, many, below))
    ∙ ap (λ r. get_or (fires r) k 0) (sym is)
    ∙ get_or-replicate run.count k run.process 0 below in
    record {
      point = item.0;
      found = item.1;
      same = sym told ∙ ap (λ ps. get_or ps (fires_before runs i + k) 0) (sym e) ∙ fired;
    }

-- all fires are the trace
pub whole_trace : (n : Nest) (runs : List FireRun) (i : ℕ) → processes_in runs ≡ processes_of (trace n)
    → length runs ≤ i
    → fires_before runs i ≡ length (trace n)
whole_trace n runs i e le =
    ap (λ rs. length (processes_in rs)) (take_all i runs le) ∙ ap length e ∙ length-map (trace n) process_of

-- Points of one process in a row

-- the trace has as many points of process p from this time on
abbrev pub HasRun : Nest → ℕ → ℕ → ℕ → Type 0
HasRun n p t count = (k : ℕ) → k < count → IsFire n p (t + k)
