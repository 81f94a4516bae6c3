-- What the sequential schedule has after the first entries of the trace, and one entry more.
--
-- The invariant is that the schedule so far is that of the entries which are gone from the trace. By InTraceOrder the
-- process of the next entry then stands behind the events of its earlier points, so the length of a point that is found
-- in what it has left is that of this entry's point (PointEvents). With the process repeated so often the schedule is
-- that of one entry more, so with the points of a run it is that of as many entries more (`run_more`), and at the end of
-- the trace it is the sequential one. Whether the events can come in this order isn't asked here.
use Rattle.std.proofs.Common.{◌≡◌, ℕ, zero, suc, ◌+◌, ◌<◌, Some, List, ◌++◌, length, drop, replicate}
use Rattle.std.proofs.Common.{slice_get, sym, ap, ◌∙◌, subst, arith}
use Rattle.std.proofs.lemmas.Option.{slice_get_within}
use Rattle.channel_plan.specs.Plans.{turn_count}
use Rattle.fire_runs.proofs.TraceRuns.{HasRun, IsFire}
use Rattle.net_core.specs.declared.network.Network.{Network}
use Rattle.net_core.specs.Cuts.{cut_after, opening}
use Rattle.net_core.specs.Machine.{net_of}
use Rattle.net_core.proofs.Entries.{turn_of_entry}
use Rattle.process_derive.specs.Derived.{net}
use Rattle.process_derive.specs.Scripts.{point_events, script}
use Rattle.process_derive.proofs.Numbers.{count_processes, script_at}
use Rattle.sanlp.specs.declared.nest.Nest.{Nest}
use Rattle.sanlp.specs.declared.nest.Point.{Point}
use Rattle.sanlp.specs.Laws.{entries_of}
use Rattle.sanlp.specs.Trace.{trace}
use Rattle.sanlp.proofs.ReadCounts.{trace-statement}
use Rattle.witness_plan.specs.Records.{left_after}
use Rattle.witness_plan.specs.Sequential.{sequential_schedule}
use Rattle.witness_plan.specs.Steps.{point_length, with_points}
use Rattle.witness_plan.proofs.InTraceOrder.{stands, turns_before, until, until_more}
use Rattle.witness_plan.proofs.PointEvents.{events_before, point_found}

-- the schedule after the first t entries
abbrev pub sequenced : Nest → ℕ → List ℕ
sequenced n t = until (point_events n) (trace n) t

-- an entry is a turn of its process
pub turn_exists : (n : Nest) (t : ℕ) (p : Point) → slice_get (trace n) t ≡ Some p
    → turns_before (trace n) t p.statement < turn_count n p.statement
turn_exists n t p here =
    slice_get_within (entries_of (trace n) p.statement) (turns_before (trace n) t p.statement) _
    (turn_of_entry 0 (trace n) t p here)

-- One entry more

module _ (n : Nest) (t : ℕ) (q : Point) (here : slice_get (trace n) t ≡ Some q) (schedule : List ℕ)
    (before : schedule ≡ sequenced n t) (network : Network) (derived : network ≡ net n) where
  -- the turn of the entry
  abbrev turn : ℕ
  turn = turns_before (trace n) t q.statement

  -- the process has made the events of its earlier points
  stands_here : cut_after opening schedule q.statement ≡ length (events_before n q.statement turn)
  stands_here =
      ap (λ s. cut_after opening s q.statement) before
      ∙ stands (point_events n) (trace n) t q.statement (omega (arith, slice_get_within (trace n) t q here))

  script_is : (net_of network).script q.statement ≡ script n q.statement
  script_is = ap (λ x. (net_of x).script q.statement) derived ∙ script_at n q.statement (trace-statement n t q here)

  process_there : q.statement < length network.processes
  process_there =
      omega (
        arith,
        ap (λ (x : Network). length x.processes) derived,
        count_processes n,
        trace-statement n t q here,
      )

  found_here : point_length (left_after (net_of network) schedule q.statement)
      ≡ length (point_events n q.statement turn)
  found_here =
      ap (λ xs. point_length (drop (cut_after opening schedule q.statement) xs)) script_is
      ∙ ap (λ k. point_length (drop k (script n q.statement))) stands_here
      ∙ point_found n q.statement turn (turn_exists n t q here)

  point_more : schedule ++ replicate (point_length (left_after (net_of network) schedule q.statement)) q.statement
      ≡ sequenced n (suc t)
  point_more =
      ap (λ m. schedule ++ replicate m q.statement) found_here
      ∙ ap (λ s. s ++ replicate (length (point_events n q.statement turn)) q.statement) before
      ∙ sym (until_more (point_events n) (trace n) t q here)

-- Runs

-- the process of a run's fire
pub process_exists : (n : Nest) (p t : ℕ) → IsFire n p t → (schedule : List ℕ) → schedule ≡ sequenced n t
    → (network : Network) → network ≡ net n → p < length network.processes
process_exists n p t fire schedule before network derived =
    subst (λ (p : ℕ). p < length network.processes) fire.same
    (process_there n t fire.point fire.found schedule before network derived)

fire_more : (n : Nest) (p t : ℕ) → IsFire n p t → (schedule : List ℕ) → schedule ≡ sequenced n t
    → (network : Network) → network ≡ net n
    → schedule ++ replicate (point_length (left_after (net_of network) schedule p)) p ≡ sequenced n (suc t)
fire_more n p t fire schedule before network derived =
    subst (λ (p : ℕ).
    schedule ++ replicate (point_length (left_after (net_of network) schedule p)) p ≡ sequenced n (suc t)) fire.same
    (point_more n t fire.point fire.found schedule before network derived)

-- with the points of a run the schedule is that of as many entries more
pub run_more : (n : Nest) (p t count : ℕ) → HasRun n p t count → (schedule : List ℕ) → schedule ≡ sequenced n t
    → (network : Network) → network ≡ net n
    → with_points (net_of network) schedule p count ≡ sequenced n (t + count)
run_more n p t zero run schedule before network derived =
    let none : t ≡ t + 0 = omega arith in before ∙ ap (sequenced n) none
run_more n p t (suc count) run schedule before network derived =
    let next : suc (t + count) ≡ t + suc count = omega arith in
    fire_more n p (t + count) (run count (omega arith)) (with_points (net_of network) schedule p count)
    (run_more n p t count (λ k below. run k (omega arith)) schedule before network derived) network derived
    ∙ ap (sequenced n) next

-- the whole trace
pub sequenced_all : (n : Nest) (schedule : List ℕ) → schedule ≡ sequenced n (length (trace n))
    → schedule ≡ sequential_schedule n
unfolding sequential_schedule
sequenced_all n schedule all = all
