use Rattle.std.proofs.Common.{length, slice_get, refl, sym, ap, ◌∙◌, arith, add-one}
use Rattle.script_blocks.proofs.Loops.{had_all, had_more, next_inside, next_item, one_longer}
use Rattle.net_core.specs.Machine.{net_of}
use Rattle.net_checker.specs.declared.tag_state.TagState.{TagState}
use Rattle.net_checker.specs.Entries.{entry_refusal}
use Rattle.net_checker.specs.TagStates.{cut_in}
use Rattle.net_checker.proofs.BlockSteps.{walked_by, walked_same}
use Rattle.net_checker.proofs.Walk.{walked_start, entry_wrong, at_end}
use Rattle.net_checker.proofs.entries.first_bad_entry.Goals as goal

pub loop-process-init : goal.loop-process-init
loop-process-init c = record {
  whole = c.into_iter-process-iterator.ensures.into_iter_gives ∙ c.iter-process-items.ensures.items;
  number = refl;
  walked = walked_start c.args.fitting.now.nest.now (net_of c.args.fitting.now.network.now) c.args.schedule.now
      c.in_ok-state.state
      c.in_ok-state.ensures.start c.in_ok-state.ensures.state;
}

pub overflow_add-entry : goal.overflow_add-entry
overflow_add-entry c =
    let loop = c.loop-process in
    omega (
      arith,
      loop.invariant.number,
      next_inside c.args.schedule.now loop.yielded loop.process-iterator loop.invariant.whole c.in-Some.process
          c.next.new.self c.in-Some.ensures.steps,
      c.iter-process-items.ensures.few,
    )

pub returns-then-not-branch : goal.returns-then-not-branch
returns-then-not-branch c =
    let fitting = c.args.fitting.now in
    let net = net_of fitting.network.now in
    let schedule = c.args.schedule.now in
    let loop = c.loop-process in
    let at = next_item schedule loop.yielded loop.process-iterator loop.invariant.whole c.in-Some.process
    c.next.new.self c.in-Some.ensures.steps in
    let same = c.in_ok-step_if_fine.ensures.unchanged c.if-not-branch.true in
    entry_wrong fitting.nest.now fitting.network.now schedule c.step_if_fine.new.state loop.entry
    (walked_same fitting.nest.now net schedule loop.state c.step_if_fine.new.state loop.entry loop.invariant.walked
    same)
    c.in-Some.process c.judge.result (ap (slice_get schedule) loop.invariant.number ∙ at) c.judge.ensures
    (λ fine. c.in_ok-step_if_fine.ensures.refused c.if-not-branch.true loop.entry
    (ap (λ (s : TagState). entry_refusal fitting.nest.now net (cut_in s) loop.entry c.in-Some.process) (sym same)
    ∙ fine))

pub loop-process-preserved : goal.loop-process-preserved
loop-process-preserved c =
    let fitting = c.args.fitting.now in
    let schedule = c.args.schedule.now in
    let loop = c.loop-process in
    let at = next_item schedule loop.yielded loop.process-iterator loop.invariant.whole c.in-Some.process
    c.next.new.self c.in-Some.ensures.steps in
    record {
      whole = had_more schedule loop.yielded loop.process-iterator loop.invariant.whole c.in-Some.process
          c.next.new.self c.in-Some.ensures.steps;
      number = omega (arith, loop.invariant.number, one_longer loop.yielded c.in-Some.process);
      walked = rw (add-one)
          (walked_by fitting.nest.now (net_of fitting.network.now) schedule loop.state c.step_if_fine.new.state
          loop.entry loop.invariant.walked c.in-Some.process (ap (slice_get schedule) loop.invariant.number ∙ at)
          (c.in_ok-step_if_fine.ensures.fine c.if-not-branch.false) c.in_ok-step_if_fine.ensures.state);
    }

pub returns : goal.returns
returns c =
    let fitting = c.args.fitting.now in
    let loop = c.loop-process in
    c.unended.ensures
    ∙ at_end fitting.nest.now fitting.network.now c.args.schedule.now loop.state loop.entry loop.invariant.walked
    (omega (
      arith,
      loop.invariant.number,
      ap length (had_all c.args.schedule.now loop.yielded loop.process-iterator loop.invariant.whole
          c.in-None.ensures.steps.0),
    ))
