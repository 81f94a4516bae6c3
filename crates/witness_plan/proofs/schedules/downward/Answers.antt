use Rattle.std.proofs.Common.{◌∙◌, sym, ap, arith}
use Rattle.net_core.specs.Cuts.{cut_after, opening}
use Rattle.net_core.specs.Machine.{net_of}
use Rattle.plain_data.proofs.Lists.{slice_get-some}
use Rattle.witness_plan.specs.Sequential.{capacities}
use Rattle.witness_plan.proofs.Descent.{descent_all, descent_more, descent_none, fewer_left, found_inside, found_there}
use Rattle.witness_plan.proofs.OwnChannels.{wired_own}
use Rattle.witness_plan.proofs.schedules.downward.Goals as goal

pub loop-process-init : goal.loop-process-init
loop-process-init c = record {
  recorder = c.in_ok-recorder.ensures.recorder;
  descent = descent_none (net_of c.args.wired.now.network.now) c.in_ok-recorder.recorder.schedule c.len-below.result
      c.in_ok-recorder.ensures.schedule c.len-below.ensures;
}

pub next_event-requires-clause-process : goal.next_event-requires-clause-process
next_event-requires-clause-process c =
    found_there (net_of c.args.wired.now.network.now) c.loop-process.recorder.schedule c.loop-process.below c.in-Some.process
    c.loop-process.invariant.descent (sym c.highest_ready.ensures ∙ c.in-Some.is)

pub make_event-requires-clause-process : goal.make_event-requires-clause-process
make_event-requires-clause-process c =
    found_there (net_of c.args.wired.now.network.now) c.loop-process.recorder.schedule c.loop-process.below c.in-Some.process
    c.loop-process.invariant.descent (sym c.highest_ready.ensures ∙ c.in-Some.is)

pub make_event-requires-clause-left : goal.make_event-requires-clause-left
make_event-requires-clause-left c =
    found_inside (net_of c.args.wired.now.network.now) c.loop-process.recorder.schedule c.loop-process.below c.in-Some.process
    c.loop-process.invariant.descent (sym c.highest_ready.ensures ∙ c.in-Some.is)

pub unreachable-requires : goal.unreachable-requires
unreachable-requires c =
    let n = net_of c.args.wired.now.network.now in
    let inside = found_inside n c.loop-process.recorder.schedule c.loop-process.below c.in-Some.process
    c.loop-process.invariant.descent (sym c.highest_ready.ensures ∙ c.in-Some.is) in
    let there = slice_get-some (n.script c.in-Some.process)
    (cut_after opening c.loop-process.recorder.schedule c.in-Some.process) inside in
    let none = c.in_default-next_event.ensures ∙ there.1 in
    cc

pub bound_after-below-requires-clause-own : goal.bound_after-below-requires-clause-own
bound_after-below-requires-clause-own c =
    wired_own (net_of c.args.wired.now.network.now) c.args.wired.now.wired c.in-Some.process
    (cut_after opening c.loop-process.recorder.schedule c.in-Some.process) c.in-Some-next_event.event.now
    (sym c.in-Some-next_event.ensures)

pub loop-process-smaller : goal.loop-process-smaller
loop-process-smaller c =
    let less = fewer_left (net_of c.args.wired.now.network.now) c.loop-process.recorder.schedule c.loop-process.below
    c.in-Some.process c.loop-process.invariant.descent (sym c.highest_ready.ensures ∙ c.in-Some.is)
    c.make_event.new.self.schedule c.in_ok-make_event.ensures.schedule in
    omega (arith, less)

pub loop-process-preserved : goal.loop-process-preserved
loop-process-preserved c = record {
  recorder = c.in_ok-make_event.ensures.recorder;
  descent = descent_more (net_of c.args.wired.now.network.now) c.loop-process.recorder.schedule c.loop-process.below
      c.in-Some.process c.loop-process.invariant.descent (sym c.highest_ready.ensures ∙ c.in-Some.is)
      c.make_event.new.self.schedule c.in_ok-make_event.ensures.schedule c.args.wired.now.wired c.in-Some-next_event.event.now
      c.bound_after-below.result (sym c.in-Some-next_event.ensures)
      c.bound_after-below.ensures.value c.bound_after-below.ensures.within;
}

pub returns-clause-schedule : goal.returns-clause-schedule
returns-clause-schedule c =
    c.into_witness.ensures.schedule
    ∙ descent_all (net_of c.args.wired.now.network.now) c.loop-process.recorder.schedule c.loop-process.below
    c.loop-process.invariant.descent (sym c.highest_ready.ensures ∙ c.in_default.is)

pub returns-clause-capacities : goal.returns-clause-capacities
returns-clause-capacities c =
    c.into_witness.ensures.capacities ∙ c.loop-process.invariant.recorder.greatest
    ∙ ap (capacities c.args.wired.now.network.now)
    (descent_all (net_of c.args.wired.now.network.now) c.loop-process.recorder.schedule c.loop-process.below
    c.loop-process.invariant.descent (sym c.highest_ready.ensures ∙ c.in_default.is))
