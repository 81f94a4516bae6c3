-- The greatest lengths of the queues, by the runs of the trace.
--
-- The invariant: with the runs that are gone, so many entries of the trace are gone, each process has had the turns that
-- they are of it, and each channel's queue has counted them (`turns_before`, `queues_at`). A run gives its process its next
-- turns, of which the first is the number of those before; its channels exist and are those of its process, and what is
-- counted of them is what its turns change (`queues_later`). Other processes' turns and other channels' queues stay. A run
-- without a fire is passed by: its process need not exist. At the end all entries are gone, and a queue's greatest length is
-- its channel's capacity (`capacities_are`): the schedule that the capacities are defined by is nowhere made.
use Rattle.std.proofs.Common.{◌≡◌, ◌+◌, ◌∙◌, List, ℕ, length, map, replicate, arith, sym, ap, refl, subst}
use Rattle.std.specs.Prelude.{IfOk}
use Rattle.std.specs.List.{range_with_len}
use Rattle.std.proofs.lemmas.List.{length-map, with_items_is}
use Rattle.std.proofs.lemmas.List.FromFn.{length-map-range_with_len}
use Rattle.channel_plan.specs.Plans.{plans_of}
use Rattle.network_numbers.specs.Links.{channels_at}
use Rattle.network_numbers.specs.Queues.{empty_queue}
use Rattle.fire_runs.specs.Runs.{processes_in}
use Rattle.network_numbers.proofs.RunPassed.{queue_at, queues_at}
use Rattle.fire_runs.proofs.TraceRuns.{before_more, fires_before, run_at, run_here, run_is, whole_trace}
use Rattle.network_numbers.proofs.WholeTrace.{capacities_are, linked_at, no_queues, no_turns}
use Rattle.network_numbers.proofs.WholeTrace.{process_exists, queues_later, turn_is, turns_later, turns_small}
use Rattle.network_numbers.proofs.lengths.capacities.Goals as goal
use Rattle.network_numbers.proofs.lengths.capacities.Goals.{then-count-gt0, else-count-gt0}
use Rattle.plan_numbers.specs.Numbers.{numbers_of}
use Rattle.process_derive.proofs.Bounds.{few_plans}
use Rattle.sanlp.specs.Trace.{trace}
use Rattle.witness_plan.proofs.InTraceOrder.{turns_before}

pub channels_of_processes-requires-clause-few : goal.channels_of_processes-requires-clause-few
channels_of_processes-requires-clause-few c =
    omega (
      arith,
      ap length c.requires.plans,
      length-map (plans_of c.args.nest.now) numbers_of,
      few_plans c.args.nest.now,
    )

pub loop-run-init : goal.loop-run-init
loop-run-init c =
    let n = c.args.nest.now in
    record {
      turns = no_turns n c.in_ok-turns.turns.items
          (c.in_ok-turns.ensures.items_if_clones_equal (λ y h. h) ∙ ap (λ k. replicate k 0) c.len-2.ensures);
      queues = no_queues n c.in_ok-queues.queues.items
          (c.in_ok-queues.ensures.items_if_clones_equal (λ y h. h)
          ∙ ap (λ m. replicate m empty_queue) (ap length c.requires.plans ∙ length-map (plans_of n) numbers_of));
    }

pub next_turns-first-requires-clause-exists : goal.next_turns-first-requires-clause-exists
next_turns-first-requires-clause-exists c =
    let n = c.args.nest.now in
    let runs = c.as_slice-run-items.result.now in
    let i = c.loop-run.run-index in
    let run = run_here n runs i (run_at runs i) (ap processes_in c.as_slice-run-items.ensures.value ∙ c.in_ok-runs.ensures)
    c.loop-run-test.true (run_is runs i c.loop-run-test.true) in
    omega (
      arith,
      ap length (c.deref_mut.ensures.value ∙ c.loop-run.invariant.turns)
          ∙ length-map-range_with_len (turns_before (trace n) (fires_before runs i)) 0 (length n.statements),
      process_exists n c.requires.size _ _ _ run c.if-count-gt0.true,
    )

pub next_turns-first-requires-clause-few : goal.next_turns-first-requires-clause-few
next_turns-first-requires-clause-few c =
    let n = c.args.nest.now in
    let run = run_here n c.as_slice-run-items.result.now c.loop-run.run-index
    (run_at c.as_slice-run-items.result.now c.loop-run.run-index)
    (ap processes_in c.as_slice-run-items.ensures.value ∙ c.in_ok-runs.ensures) c.loop-run-test.true
    (run_is c.as_slice-run-items.result.now c.loop-run.run-index c.loop-run-test.true) in
    turns_small n c.requires.size _ _ _ run c.if-count-gt0.true c.deref_mut.result.now
    (c.deref_mut.ensures.value ∙ c.loop-run.invariant.turns)

pub index-requires : goal.index-requires
index-requires c =
    let n = c.args.nest.now in
    let run = run_here n c.as_slice-run-items.result.now c.loop-run.run-index
    (run_at c.as_slice-run-items.result.now c.loop-run.run-index)
    (ap processes_in c.as_slice-run-items.ensures.value ∙ c.in_ok-runs.ensures) c.loop-run-test.true
    (run_is c.as_slice-run-items.result.now c.loop-run.run-index c.loop-run-test.true) in
    omega (
      arith,
      c.in_ok-channels.channels.ok.0,
      ap length c.in_ok-channels.ensures ∙ length-map-range_with_len (channels_at c.args.plans.now) 0 c.len.result,
      c.len.ensures,
      process_exists n c.requires.size _ _ _ run c.if-count-gt0.true,
    )

pub pass_run-requires-clause-few : goal.pass_run-requires-clause-few
pass_run-requires-clause-few c =
    let n = c.args.nest.now in
    let run = run_here n c.as_slice-run-items.result.now c.loop-run.run-index
    (run_at c.as_slice-run-items.result.now c.loop-run.run-index)
    (ap processes_in c.as_slice-run-items.ensures.value ∙ c.in_ok-runs.ensures) c.loop-run-test.true
    (run_is c.as_slice-run-items.result.now c.loop-run.run-index c.loop-run-test.true) in
    omega (
      arith,
      c.next_turns-first.ensures.turn,
      turns_small n c.requires.size _ _ _ run c.if-count-gt0.true c.deref_mut.result.now
          (c.deref_mut.ensures.value ∙ c.loop-run.invariant.turns),
    )

pub pass_run-requires-clause-channels : goal.pass_run-requires-clause-channels
pass_run-requires-clause-channels c =
    let n = c.args.nest.now in
    let one = run_at c.as_slice-run-items.result.now c.loop-run.run-index in
    let run = run_here n c.as_slice-run-items.result.now c.loop-run.run-index
    one
    (ap processes_in c.as_slice-run-items.ensures.value ∙ c.in_ok-runs.ensures) c.loop-run-test.true
    (run_is c.as_slice-run-items.result.now c.loop-run.run-index c.loop-run-test.true) in
    c.as_slice.ensures
    ∙ linked_at c.args.plans.now c.in_ok-channels.channels.items c.len.result one.process
    c.index.result.now c.in_ok-channels.ensures
    (omega (arith, c.len.ensures, process_exists n c.requires.size _ _ _ run c.if-count-gt0.true)) c.index.ensures

pub pass_run-requires-clause-queues : goal.pass_run-requires-clause-queues
pass_run-requires-clause-queues c =
    let n = c.args.nest.now in
    ap length (c.deref_mut-then-count-gt0.ensures.value ∙ c.loop-run.invariant.queues)
    ∙ length-map-range_with_len (queue_at n (fires_before c.as_slice-run-items.result.now c.loop-run.run-index)) 0
    (length (plans_of n))
    ∙ sym (ap length c.requires.plans ∙ length-map (plans_of n) numbers_of)

pub loop-run-preserved : goal.loop-run-preserved
loop-run-preserved c =
    let n = c.args.nest.now in
    let runs = c.as_slice-run-items.result.now in
    let i = c.loop-run.run-index in
    let one = run_at runs i in
    let t = fires_before runs i in
    let run = run_here n runs i one (ap processes_in c.as_slice-run-items.ensures.value ∙ c.in_ok-runs.ensures) c.loop-run-test.true
    (run_is runs i c.loop-run-test.true) in
    let more = before_more runs i one c.loop-run-test.true (run_is runs i c.loop-run-test.true) in
    elim c.if-count-gt0.branch [
      | then-count-gt0 w ↦
          let so_far = w.deref_mut.ensures.value ∙ c.loop-run.invariant.turns in
          let turns : w.next_turns-first.new.turns
          ≡ map (turns_before (trace n) (fires_before runs (i + 1))) (range_with_len 0 (length n.statements)) =
          w.next_turns-first.ensures.counted
          ∙ turns_later n c.requires.size _ _ _ run w.if-count-gt0.true w.deref_mut.result.now so_far
          ∙ ap (λ t. map (turns_before (trace n) t) (range_with_len 0 (length n.statements))) (sym more) in
          let queues : w.pass_run.new.queues ≡ queues_at n (fires_before runs (i + 1)) =
          queues_later n _ _ _ run c.args.plans.now w.deref.result.now c.as_slice-table.result.now
          w.next_turns-first.result w.deref_mut-then-count-gt0.result.now w.pass_run.new.queues
          c.requires.plans (w.deref.ensures.value ∙ c.in_ok-lists.ensures)
          (c.as_slice-table.ensures ∙ c.requires.sources)
          (w.next_turns-first.ensures.turn
          ∙ turn_is n c.requires.size _ _ _ run w.if-count-gt0.true w.deref_mut.result.now so_far)
          (w.deref_mut-then-count-gt0.ensures.value ∙ c.loop-run.invariant.queues) w.pass_run.ensures
          ∙ ap (queues_at n) (sym more) in
          record {
            turns = ap (λ v. v.items) w.turns-is
                ∙ with_items_is c.loop-run.turns w.next_turns-first.new.turns (omega (
                  arith,
                  c.loop-run.turns.ok.0,
                  ap length c.loop-run.invariant.turns
                      ∙ length-map-range_with_len (turns_before (trace n) t) 0 (length n.statements),
                  ap length turns
                      ∙ length-map-range_with_len (turns_before (trace n) (fires_before runs (i + 1))) 0
                      (length n.statements),
                ))
                ∙ turns;
            queues = ap (λ v. v.items) w.queues-is
                ∙ with_items_is c.loop-run.queues w.pass_run.new.queues (omega (
                  arith,
                  c.loop-run.queues.ok.0,
                  ap length c.loop-run.invariant.queues
                      ∙ length-map-range_with_len (queue_at n t) 0 (length (plans_of n)),
                  ap length queues
                      ∙ length-map-range_with_len (queue_at n (fires_before runs (i + 1))) 0 (length (plans_of n)),
                ))
                ∙ queues;
          }
      | else-count-gt0 w ↦
          let none : t ≡ fires_before runs (i + 1) = omega (arith, more, w.if-count-gt0.false) in
          record {
            turns = ap (λ v. v.items) w.turns-is ∙ c.loop-run.invariant.turns
                ∙ ap (λ t. map (turns_before (trace n) t) (range_with_len 0 (length n.statements))) none;
            queues = ap (λ v. v.items) w.queues-is ∙ c.loop-run.invariant.queues ∙ ap (queues_at n) none;
          }
    ]

pub returns : goal.returns
returns c =
    let n = c.args.nest.now in
    let whole : fires_before c.as_slice-run-items.result.now c.loop-run.run-index ≡ length (trace n) =
    whole_trace n c.as_slice-run-items.result.now c.loop-run.run-index
    (ap processes_in c.as_slice-run-items.ensures.value ∙ c.in_ok-runs.ensures) (omega (arith, c.loop-run-test.false)) in
    let all : c.deref-2.result.now ≡ queues_at n (length (trace n)) =
    c.deref-2.ensures.value ∙ c.loop-run.invariant.queues ∙ ap (queues_at n) whole in
    subst (λ (x : List ℕ). IfOk c.greatest_lengths.result (λ lengths. lengths.items ≡ x))
    (capacities_are n c.deref-2.result.now _ all refl) c.greatest_lengths.ensures
