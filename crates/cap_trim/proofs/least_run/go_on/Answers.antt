use Rattle.std.proofs.Common.{length, sym, ap, ◌∙◌, subst}
use Rattle.std.proofs.Common.{arith}
use Rattle.net_core.specs.Cuts.{Cut, enabled_at}
use Rattle.net_core.specs.Machine.{net_of}
use Rattle.net_core.proofs.Positions.{enabled_inside}
use Rattle.witness_plan.proofs.Downward.{events_left, left_less}
use Rattle.witness_plan.proofs.OtherCapacities.{wired_at}
use Rattle.witness_plan.proofs.OwnChannels.{wired_own}
use Rattle.net_core.specs.Progress.{at_capacities, cut_of}
use Rattle.cap_trim.specs.LeastRuns.{LeadsTo}
use Rattle.cap_trim.proofs.LeastEnabled.{below_self, found_enabled, leads_more, leads_nowhere, least_after_kept, shut_after}
use Rattle.cap_trim.proofs.LeastEnabled.{shut_all}
use Rattle.cap_trim.proofs.least_run.go_on.Goals as goal

pub loop-process-init : goal.loop-process-init
loop-process-init c = record {
  progress = c.requires.progress;
  run = leads_nowhere (at_capacities (net_of c.args.network.now) c.args.capacities.now) (cut_of c.args.progress.now);
  shut = λ q lt. absurd (omega arith);
  within = omega arith;
}

pub make_event-event-requires-clause-process : goal.make_event-event-requires-clause-process
make_event-event-requires-clause-process c =
    let n = at_capacities (net_of c.args.network.now) c.args.capacities.now in
    let inv = c.loop-process.invariant in
    (found_enabled n (wired_at _ n.capacity c.requires.progress.wired) (cut_of c.loop-process.progress) c.loop-process.from
    inv.within inv.shut c.in-Some.process (sym c.least_enabled.ensures ∙ c.in-Some.is)).0

pub make_event-event-requires-clause-left : goal.make_event-event-requires-clause-left
make_event-event-requires-clause-left c =
    let n = at_capacities (net_of c.args.network.now) c.args.capacities.now in
    let inv = c.loop-process.invariant in
    let found = found_enabled n (wired_at _ n.capacity c.requires.progress.wired) (cut_of c.loop-process.progress)
    c.loop-process.from inv.within inv.shut c.in-Some.process (sym c.least_enabled.ensures ∙ c.in-Some.is) in
    enabled_inside n (cut_of c.loop-process.progress) c.in-Some.process found.1

pub least_after-from-requires : goal.least_after-from-requires
least_after-from-requires c = record {
  own = wired_own (net_of c.args.network.now) c.requires.progress.wired c.in-Some.process
      (cut_of c.loop-process.progress c.in-Some.process) c.make_event-event.result c.make_event-event.ensures.event;
}

pub loop-process-smaller : goal.loop-process-smaller
loop-process-smaller c =
    let n = at_capacities (net_of c.args.network.now) c.args.capacities.now in
    let k : Cut = cut_of c.loop-process.progress in
    let inv = c.loop-process.invariant in
    let found = found_enabled n (wired_at _ n.capacity c.requires.progress.wired) k c.loop-process.from inv.within inv.shut
    c.in-Some.process (sym c.least_enabled.ensures ∙ c.in-Some.is) in
    omega (
      arith,
      left_less (net_of c.args.network.now) k c.in-Some.process (length c.args.network.now.processes) found.0
          (enabled_inside n k c.in-Some.process found.1),
      ap (λ (j : Cut). events_left (net_of c.args.network.now) j (length c.args.network.now.processes))
          c.make_event-event.ensures.cut,
    )

pub loop-process-preserved : goal.loop-process-preserved
loop-process-preserved c =
    let m = net_of c.args.network.now in
    let n = at_capacities m c.args.capacities.now in
    let k : Cut = cut_of c.loop-process.progress in
    let p = c.in-Some.process in
    let inv = c.loop-process.invariant in
    let wired = wired_at m n.capacity c.requires.progress.wired in
    let is = sym c.least_enabled.ensures ∙ c.in-Some.is in
    let found = found_enabled n wired k c.loop-process.from inv.within inv.shut p is in
    let event = c.make_event-event.ensures in
    let low = least_after_kept m n.capacity p c.make_event-event.result in
    record {
      progress = event.progress;
      run = subst (λ (j : Cut). LeadsTo n (cut_of c.args.progress.now) j) (sym event.cut)
          (leads_more n (cut_of c.args.progress.now) k p inv.run found.1);
      shut = λ q lt. ap (λ (j : Cut). enabled_at n j q) event.cut
          ∙ shut_after n wired k c.loop-process.from inv.within inv.shut p c.make_event-event.result is event.event q
          (omega (arith, lt, low, c.least_after-from.ensures));
      within = omega (arith, below_self m p c.make_event-event.result, c.least_after-from.ensures, found.0);
    }

pub returns : goal.returns
returns c =
    let m = net_of c.args.network.now in
    let n = at_capacities m c.args.capacities.now in
    let inv = c.loop-process.invariant in
    record {
      progress = inv.progress;
      run = inv.run;
      stuck = shut_all n (wired_at m n.capacity c.requires.progress.wired) (cut_of c.loop-process.progress) c.loop-process.from
          inv.within inv.shut (sym c.least_enabled.ensures ∙ c.in_default.is);
    }
