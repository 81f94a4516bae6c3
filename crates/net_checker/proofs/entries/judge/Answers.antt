use Rattle.std.proofs.Common.{Some, ap, sym, ◌∙◌, arith}
use Rattle.net_core.specs.Machine.{net_of}
use Rattle.net_core.specs.declared.network.Event.TheVariants.{Fire}
use Rattle.net_core.proofs.Ready.{process_there}
use Rattle.net_checker.proofs.FireVerdicts.{enabled_there, few_references, fire_judged}
use Rattle.sanlp.proofs.NestFacts.{few_statements}
use Rattle.net_checker.specs.TagStates.{cut_in, state_of}
use Rattle.net_checker.proofs.entries.judge.Goals as goal

pub reads_before-first_read-requires : goal.reads_before-first_read-requires
reads_before-first_read-requires c =
    let fitting = c.args.fitting.now in
    omega (
      arith,
      enabled_there fitting.nest.now fitting.network.now (state_of (net_of fitting.network.now) c.args.state.now)
          c.args.process c.in-Fire.refs c.args.fitting.now.shape (c.next.ensures ∙ ap Some c.in-Fire.is),
    )

pub judge_fire-requires : goal.judge_fire-requires
judge_fire-requires c =
    let fitting = c.args.fitting.now in
    let is = c.next.ensures ∙ ap Some c.in-Fire.is in
    let few = few_references fitting.nest.now fitting.network.now
    (state_of (net_of fitting.network.now) c.args.state.now) c.args.process c.in-Fire.refs c.args.fitting.now.shape is in
    let there = enabled_there fitting.nest.now fitting.network.now
    (state_of (net_of fitting.network.now) c.args.state.now) c.args.process c.in-Fire.refs c.args.fitting.now.shape is in
    omega (arith, c.reads_before-first_read.ensures.small, few_statements fitting.nest.now)

pub turn-turn-requires-clause-process : goal.turn-turn-requires-clause-process
turn-turn-requires-clause-process c =
    process_there (net_of c.args.fitting.now.network.now) c.args.fitting.now.shape.shaped.wired c.args.process
    (cut_in c.args.state.now c.args.process) (Fire c.in-Fire.refs) (c.next.ensures ∙ ap Some c.in-Fire.is)

pub slots-requires-clause-process : goal.slots-requires-clause-process
slots-requires-clause-process c =
    process_there (net_of c.args.fitting.now.network.now) c.args.fitting.now.shape.shaped.wired c.args.process
    (cut_in c.args.state.now c.args.process) (Fire c.in-Fire.refs) (c.next.ensures ∙ ap Some c.in-Fire.is)

pub returns-in-Fire : goal.returns-in-Fire
returns-in-Fire c =
    let fitting = c.args.fitting.now in
    let s = state_of (net_of fitting.network.now) c.args.state.now in
    c.judge_fire.ensures
    ∙ fire_judged fitting.nest.now fitting.network.now c.args.fitting.now.shape s c.requires.state.counted
    c.requires.state.named
    fitting.points.now.of c.args.table.now.of c.args.process c.args.entry _ _ _ c.in-Fire.refs fitting.points_of_nest
    c.requires.table c.slots.ensures c.turn-turn.ensures c.reads_before-first_read.ensures.value
    (sym c.is_enabled.ensures ∙ c.if-not-is_enabled.false) (c.next.ensures ∙ ap Some c.in-Fire.is)
