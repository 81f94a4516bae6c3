use Rattle.std.proofs.Common.{get_or, sym, ap, ◌∙◌, arith, add-one}
use Rattle.std.proofs.lemmas.Option.{slice_get-get_or}
use Rattle.net_core.specs.Machine.{net_of}
use Rattle.net_checker.specs.declared.tag_state.TagState.{TagState}
use Rattle.net_checker.specs.Entries.{entry_refusal}
use Rattle.net_checker.specs.TagStates.{cut_in}
use Rattle.net_checker.proofs.BlockSteps.{walked_by, walked_same}
use Rattle.net_checker.proofs.Walk.{walked_start, entry_short, entry_wrong, at_end}
use Rattle.net_checker.proofs.entries.listed_refusal.Goals as goal

pub loop-entry-init : goal.loop-entry-init
loop-entry-init c =
    let fitting = c.args.fitting.now in
    walked_start fitting.nest.now (net_of fitting.network.now) c.args.schedule.now
    c.in_ok-state.state c.in_ok-state.ensures.start c.in_ok-state.ensures.state

pub overflow_cast-entry : goal.overflow_cast-entry
overflow_cast-entry c =
    let fitting = c.args.fitting.now in
    omega (
      arith,
      entry_short fitting.nest.now (net_of fitting.network.now) c.args.schedule.now
          c.loop-entry.state c.loop-entry.entry c.loop-entry.invariant,
    )

pub returns-then-not-branch : goal.returns-then-not-branch
returns-then-not-branch c =
    let fitting = c.args.fitting.now in
    let net = net_of fitting.network.now in
    let loop = c.loop-entry in
    let process = get_or c.args.schedule.now c.loop-entry.entry 0 in
    let same = c.in_ok-step_if_fine.ensures.unchanged c.if-not-branch.true in
    entry_wrong fitting.nest.now fitting.network.now c.args.schedule.now c.step_if_fine.new.state loop.entry
    (walked_same fitting.nest.now net c.args.schedule.now loop.state c.step_if_fine.new.state loop.entry
    loop.invariant
    same) process c.judge.result
    (slice_get-get_or c.args.schedule.now loop.entry 0 (omega arith)) c.judge.ensures
    (λ fine. c.in_ok-step_if_fine.ensures.refused c.if-not-branch.true loop.entry
    (ap (λ (s : TagState). entry_refusal fitting.nest.now net (cut_in s) loop.entry process) (sym same) ∙ fine))

pub loop-entry-preserved : goal.loop-entry-preserved
loop-entry-preserved c =
    let fitting = c.args.fitting.now in
    rw (add-one)
    (walked_by fitting.nest.now (net_of fitting.network.now) c.args.schedule.now c.loop-entry.state
    c.step_if_fine.new.state c.loop-entry.entry c.loop-entry.invariant _
    (slice_get-get_or c.args.schedule.now c.loop-entry.entry 0 (omega arith))
    (c.in_ok-step_if_fine.ensures.fine c.if-not-branch.false) c.in_ok-step_if_fine.ensures.state)

pub returns : goal.returns
returns c =
    let fitting = c.args.fitting.now in
    c.unended.ensures
    ∙ at_end fitting.nest.now fitting.network.now c.args.schedule.now
    c.loop-entry.state c.loop-entry.entry c.loop-entry.invariant (omega arith)
