use Rattle.std.proofs.Common.{◌≡◌, [], ◌∷◌, sym, ap}
use Rattle.std.proofs.lemmas.Result.{IfOk-weaker}
use Rattle.net_core.specs.Machine.{net_of}
use Rattle.script_blocks.specs.Expansion.{parts_expansion, repeated}
use Rattle.script_blocks.proofs.Repetitions.{repeated_none}
use Rattle.net_checker.proofs.BlockSteps.{leads_as, leads_copy, leads_nowhere, leads_part, leads_repeat}
use Rattle.net_checker.proofs.entries.+stepping.Goals as goal

pub step_over_copies-loop-init : goal.step_over_copies-loop-init
step_over_copies-loop-init t c = record {
  state = c.requires.state;
  leads = leads_nowhere c.args.fitting.now.nest.now (net_of c.args.fitting.now.network.now) (repeated 0
      (parts_expansion c.args.parts.now))
      c.args.state.now (repeated_none (parts_expansion c.args.parts.now));
}

pub step_over_copies-loop-preserved : goal.step_over_copies-loop-preserved
step_over_copies-loop-preserved t c = record {
  state = c.in_ok-step_over_parts.ensures.state;
  leads = leads_copy c.args.fitting.now.nest.now (net_of c.args.fitting.now.network.now) c.loop.counter
      (parts_expansion c.args.parts.now)
      c.args.state.now c.loop.state c.step_over_parts.new.state c.loop.invariant.leads
      (c.in_ok-step_over_parts.ensures.fine c.if-not-branch.false);
}

pub step_over_copies-returns-in-Some-clause-fine : goal.step_over_copies-returns-in-Some-clause-fine
step_over_copies-returns-in-Some-clause-fine t c =
    let n = c.args.fitting.now.nest.now in
    let net = net_of c.args.fitting.now.network.now in
    let count = c.args.count in
    let all = parts_expansion c.args.parts.now in
    let entry = c.in-Some.process ∷ [] in
    IfOk-weaker c.step_over_run.result _ _
    (λ fine leads yes.
    leads_as n net (repeated count entry) (repeated count all) c.args.state.now c.step_over_run.new.state
    (ap (repeated count) (sym c.in-Some.ensures)) (leads yes)) c.step_over_run.ensures.fine

pub step_over_part-returns-in-Repeat-clause-fine :
    goal.step_over_part-returns-in-Repeat-clause-fine
step_over_part-returns-in-Repeat-clause-fine t c =
    let fitting = c.args.fitting.now in
    let n = fitting.nest.now in
    let net = net_of fitting.network.now in
    let count = c.in-Repeat.count in
    let body = c.in-Repeat.body in
    let copies = repeated count (parts_expansion c.as_slice.result.now) in
    let same : copies ≡ repeated count (parts_expansion body.parts) =
    ap (λ parts. repeated count (parts_expansion parts)) c.as_slice.ensures in
    IfOk-weaker c.step_over_copies.result _ _
    (λ fine leads yes.
    leads_repeat n net count body c.args.part.now c.args.state.now c.step_over_copies.new.state c.in-Repeat.is
    (leads_as n net copies (repeated count (parts_expansion body.parts)) c.args.state.now
    c.step_over_copies.new.state same (leads yes))) c.step_over_copies.ensures.fine

pub step_over_parts-loop-part-preserved : goal.step_over_parts-loop-part-preserved
step_over_parts-loop-part-preserved t c = record {
  state = c.in_ok-step_over_part.ensures.state;
  leads = leads_part c.args.fitting.now.nest.now (net_of c.args.fitting.now.network.now) c.args.parts.now
      c.loop-part.part-index
      c.part-item.result c.args.state.now c.loop-part.state c.step_over_part.new.state c.loop-part-test.true
      c.part-item.is c.loop-part.invariant.leads (c.in_ok-step_over_part.ensures.fine c.if-not-branch.false);
}
