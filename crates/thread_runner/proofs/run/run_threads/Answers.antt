use Rattle.std.proofs.Common.{◌≡◌, ℤ, List, length, ap, sym, ◌∙◌, subst}
use Rattle.net_core.specs.Rooms.{Store}
use Rattle.thread_runner.specs.Runs.{HaveKept}
use Rattle.thread_runner.proofs.ArrayAnswers.{rooms_values, processes_are}
use Rattle.thread_runner.proofs.run.run_threads.Goals as goal

pub answer-requires-clause-processes : goal.answer-requires-clause-processes
answer-requires-clause-processes g c =
    let r = c.requires in
    let rooms = c.run_workers-rooms.result.0 in
    let many : length rooms.items ≡ length c.args.network.now.processes =
    sym rooms.ok.0 ∙ c.run_workers-rooms.ensures.len ∙ c.args.bench.rooms.ok.0 ∙ r.bench.rooms.number in
    ap length c.deref.ensures.value ∙ many ∙ processes_are c.args.nest.now c.args.network.now c.args.inputs.now r.sound

pub answer-requires-clause-values : goal.answer-requires-clause-values
answer-requires-clause-values g c =
    let r = c.requires in
    let nest = c.args.nest.now in
    let d = c.args.inputs.now in
    let rooms = c.run_workers-rooms.result.0 in
    let many : length rooms.items ≡ length c.args.network.now.processes =
    sym rooms.ok.0 ∙ c.run_workers-rooms.ensures.len ∙ c.args.bench.rooms.ok.0 ∙ r.bench.rooms.number in
    rooms_values nest c.args.network.now d r.sound c.deref.result.now (ap length c.deref.ensures.value ∙ many)
    (subst (λ (l : List (Store ℤ)). HaveKept nest d l) (sym c.deref.ensures.value)
    (c.run_workers-rooms.ensures.kept c.if-ran.true))

pub answer-requires-else-ran-clause-processes : goal.answer-requires-else-ran-clause-processes
answer-requires-else-ran-clause-processes g c =
    c.run_along.ensures.state.processes
    ∙ processes_are c.args.nest.now c.args.network.now c.args.inputs.now c.requires.sound
