use Rattle.std.proofs.Common.{◌≡◌, ◌∙◌, ◌+◌, length, arith, sym, ap}
use Rattle.std.proofs.lemmas.Result.{IfOk-weaker}
use Rattle.fire_runs.specs.Runs.{processes_in}
use Rattle.fire_runs.proofs.TraceRuns.{before_more, fires_before, run_at, run_here, run_is, whole_trace}
use Rattle.sanlp.specs.Trace.{trace}
use Rattle.witness_plan.specs.Sequential.{capacities, sequential_schedule}
use Rattle.witness_plan.specs.declared.schedules.Witness.{Witness}
use Rattle.witness_plan.proofs.TraceSteps.{process_exists, run_more, sequenced, sequenced_all}
use Rattle.witness_plan.proofs.schedules.sequential.Goals as goal

pub loop-run-init : goal.loop-run-init
loop-run-init c = record {
  schedule = c.in_ok-made.ensures.schedule;
  made = c.in_ok-made.ensures.run;
}

pub make_points-requires-clause-process : goal.make_points-requires-clause-process
make_points-requires-clause-process c = λ some.
    let n = c.args.nest.now in
    let runs = c.as_slice-run-items.result.now in
    let i = c.loop-run.run-index in
    let one = run_at runs i in
    let t = fires_before runs i in
    let run = run_here n runs i one (ap processes_in c.as_slice-run-items.ensures.value ∙ c.in_ok-runs.ensures)
    c.loop-run-test.true (run_is runs i c.loop-run-test.true) in
    let first : t + 0 ≡ t = omega arith in
    process_exists n one.process (t + 0) (run 0 some) c.loop-run.made.schedule.items
    (c.loop-run.invariant.schedule ∙ ap (sequenced n) (sym first)) c.args.network.now c.requires.network

pub loop-run-preserved : goal.loop-run-preserved
loop-run-preserved c =
    let n = c.args.nest.now in
    let runs = c.as_slice-run-items.result.now in
    let i = c.loop-run.run-index in
    let one = run_at runs i in
    let t = fires_before runs i in
    let run = run_here n runs i one (ap processes_in c.as_slice-run-items.ensures.value ∙ c.in_ok-runs.ensures)
    c.loop-run-test.true (run_is runs i c.loop-run-test.true) in
    record {
      schedule = c.in_ok-make_points.ensures.schedule
          ∙ run_more n one.process t one.count run c.loop-run.made.schedule.items c.loop-run.invariant.schedule
          c.args.network.now c.requires.network
          ∙ ap (sequenced n) (sym (before_more runs i one c.loop-run-test.true (run_is runs i c.loop-run-test.true)));
      made = c.in_ok-make_points.ensures.run;
    }

pub returns-clause-schedule : goal.returns-clause-schedule
returns-clause-schedule c =
    let n = c.args.nest.now in
    let whole : fires_before c.as_slice-run-items.result.now c.loop-run.run-index ≡ length (trace n) =
    whole_trace n c.as_slice-run-items.result.now c.loop-run.run-index
    (ap processes_in c.as_slice-run-items.ensures.value ∙ c.in_ok-runs.ensures)
    (omega (arith, c.loop-run-test.false)) in
    let all = sequenced_all n c.loop-run.made.schedule.items (c.loop-run.invariant.schedule ∙ ap (sequenced n) whole) in
    IfOk-weaker c.into_witness.result
    (λ (witness : Witness). witness.schedule ≡ c.loop-run.made.schedule.items)
    (λ (witness : Witness). witness.schedule ≡ sequential_schedule n)
    (λ witness same. same ∙ all) c.into_witness.ensures.schedule

pub returns-clause-capacities : goal.returns-clause-capacities
returns-clause-capacities c =
    let n = c.args.nest.now in
    let whole : fires_before c.as_slice-run-items.result.now c.loop-run.run-index ≡ length (trace n) =
    whole_trace n c.as_slice-run-items.result.now c.loop-run.run-index
    (ap processes_in c.as_slice-run-items.ensures.value ∙ c.in_ok-runs.ensures)
    (omega (arith, c.loop-run-test.false)) in
    let all = sequenced_all n c.loop-run.made.schedule.items (c.loop-run.invariant.schedule ∙ ap (sequenced n) whole) in
    let network = c.args.network.now in
    IfOk-weaker c.into_witness.result
    (λ (witness : Witness). witness.capacities ≡ capacities network c.loop-run.made.schedule.items)
    (λ (witness : Witness). witness.capacities ≡ capacities network (sequential_schedule n))
    (λ witness same. same ∙ ap (capacities network) all) c.into_witness.ensures.capacities
