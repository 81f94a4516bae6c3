use Rattle.std.proofs.Common.{Some, refl, ap, sym, ◌∙◌, arith}
use Rattle.sanlp.specs.Points.{points_of}
use Rattle.sanlp.proofs.NestFacts.{few_statements}
use Rattle.net_core.specs.Machine.{net_of}
use Rattle.net_core.proofs.Positions.{enabled_as_cut}
use Rattle.net_core.specs.Cuts.{can_come_at}
use Rattle.net_checker.specs.TagStates.{cut_in, state_of}
use Rattle.net_checker.proofs.TagSteps.{none_enabled}
use Rattle.net_checker.proofs.Walk.{enabled_where_none}
use Rattle.net_checker.proofs.BlockSteps.{fire_enabled, leads_by_event, leads_by_step}
use Rattle.net_checker.proofs.FireVerdicts.{enabled_there, few_references, fire_judged}
use Rattle.net_checker.proofs.entries.step_if_fine.Goals as goal

pub can_get-requires-clause-next : goal.can_get-requires-clause-next
can_get-requires-clause-next c = sym c.in-Some-Get.ensures ∙ ap Some c.in-Some-Get.field-0-is

pub step_get-requires-clause-enabled : goal.step_get-requires-clause-enabled
step_get-requires-clause-enabled c = sym c.can_get.ensures ∙ c.if-not-can_get.false

pub step_get-requires-clause-next : goal.step_get-requires-clause-next
step_get-requires-clause-next c = sym c.in-Some-Get.ensures ∙ ap Some c.in-Some-Get.field-0-is

pub can_put-requires-clause-next : goal.can_put-requires-clause-next
can_put-requires-clause-next c = sym c.in-Some-Put.ensures ∙ ap Some c.in-Some-Put.field-0-is

pub step_put-requires-clause-enabled : goal.step_put-requires-clause-enabled
step_put-requires-clause-enabled c = sym c.can_put.ensures ∙ c.if-not-can_put.false

pub step_put-requires-clause-next : goal.step_put-requires-clause-next
step_put-requires-clause-next c = sym c.in-Some-Put.ensures ∙ ap Some c.in-Some-Put.field-0-is

pub reads_before-first_read-requires : goal.reads_before-first_read-requires
reads_before-first_read-requires c =
    let fitting = c.args.fitting.now in
    omega (
      arith,
      enabled_there fitting.nest.now fitting.network.now (state_of (net_of fitting.network.now) c.args.state.now)
          c.args.process c.in-Some-Fire.refs c.args.fitting.now.shape
          (sym c.in-Some-Fire.ensures ∙ ap Some c.in-Some-Fire.field-0-is),
    )

pub names_are_wanted-requires : goal.names_are_wanted-requires
names_are_wanted-requires c =
    let fitting = c.args.fitting.now in
    let is = sym c.in-Some-Fire.ensures ∙ ap Some c.in-Some-Fire.field-0-is in
    let few = few_references fitting.nest.now fitting.network.now
    (state_of (net_of fitting.network.now) c.args.state.now) c.args.process c.in-Some-Fire.refs
    c.args.fitting.now.shape is in
    let there = enabled_there fitting.nest.now fitting.network.now
    (state_of (net_of fitting.network.now) c.args.state.now) c.args.process c.in-Some-Fire.refs
    c.args.fitting.now.shape is in
    omega (arith, c.reads_before-first_read.ensures.small, few_statements fitting.nest.now)

pub step_fire-requires-clause-next : goal.step_fire-requires-clause-next
step_fire-requires-clause-next c = (
  c.in-Some-Fire.refs,
  sym c.in-Some-Fire.ensures ∙ ap Some c.in-Some-Fire.field-0-is,
)

pub returns-in_ok-step_get-in-Some-Get-clause-fine : goal.returns-in_ok-step_get-in-Some-Get-clause-fine
returns-in_ok-step_get-in-Some-Get-clause-fine c = λ _.
    let fitting = c.args.fitting.now in
    leads_by_event fitting.nest.now (net_of fitting.network.now) c.args.process _ c.args.state.now
    c.step_get.new.self c.requires.state (sym c.can_get.ensures ∙ c.if-not-can_get.false)
    (sym c.in-Some-Get.ensures ∙ ap Some c.in-Some-Get.field-0-is) (λ i. refl)
    c.in_ok-step_get-in-Some-Get.ensures.run

pub returns-in_ok-step_put-in-Some-Put-clause-fine : goal.returns-in_ok-step_put-in-Some-Put-clause-fine
returns-in_ok-step_put-in-Some-Put-clause-fine c = λ _.
    let fitting = c.args.fitting.now in
    leads_by_event fitting.nest.now (net_of fitting.network.now) c.args.process _ c.args.state.now
    c.step_put.new.self c.requires.state (sym c.can_put.ensures ∙ c.if-not-can_put.false)
    (sym c.in-Some-Put.ensures ∙ ap Some c.in-Some-Put.field-0-is) (λ i. refl)
    c.in_ok-step_put-in-Some-Put.ensures.run

pub returns-else-not-names_are_wanted-clause-fine : goal.returns-else-not-names_are_wanted-clause-fine
returns-else-not-names_are_wanted-clause-fine c = λ _.
    let fitting = c.args.fitting.now in
    let n = fitting.nest.now in
    let net = net_of fitting.network.now in
    let s = state_of net c.args.state.now in
    let is = sym c.in-Some-Fire.ensures ∙ ap Some c.in-Some-Fire.field-0-is in
    let on = fire_enabled net c.args.state.now c.requires.state c.args.process c.in-Some-Fire.refs is in
    leads_by_step n net c.args.process c.args.state.now c.step_fire.new.self on
    (λ entry. sym (fire_judged n fitting.network.now c.args.fitting.now.shape s c.requires.state.counted
    c.requires.state.named (points_of n) c.args.table.now.of c.args.process entry _ _ _ c.in-Some-Fire.refs refl
    c.requires.table c.slots-slots.ensures c.turn-turn.ensures c.reads_before-first_read.ensures.value on is)
    ∙ (c.names_are_wanted.ensures (points_of n) entry).0 c.if-not-names_are_wanted.false)
    c.step_fire.ensures.run

pub returns-then-process-len-clause-refused : goal.returns-then-process-len-clause-refused
returns-then-process-len-clause-refused c = λ _ entry fine.
    let fitting = c.args.fitting.now in
    let net = net_of fitting.network.now in
    let s = c.args.state.now in
    let off = none_enabled net s c.requires.state c.args.process (omega arith) in
    let on = enabled_where_none fitting.nest.now net (state_of net s) c.requires.state.counted c.args.process entry
    fine
    in
    cc

pub returns-then-not-can_get-clause-refused : goal.returns-then-not-can_get-clause-refused
returns-then-not-can_get-clause-refused c = λ _ entry fine.
    let fitting = c.args.fitting.now in
    let net = net_of fitting.network.now in
    let off = sym c.can_get.ensures ∙ c.if-not-can_get.true in
    let on = enabled_where_none fitting.nest.now net (state_of net c.args.state.now) c.requires.state.counted
    c.args.process entry fine in
    cc

pub returns-then-not-can_put-clause-refused : goal.returns-then-not-can_put-clause-refused
returns-then-not-can_put-clause-refused c = λ _ entry fine.
    let fitting = c.args.fitting.now in
    let net = net_of fitting.network.now in
    let off = sym c.can_put.ensures ∙ c.if-not-can_put.true in
    let on = enabled_where_none fitting.nest.now net (state_of net c.args.state.now) c.requires.state.counted
    c.args.process entry fine in
    cc

pub returns-then-not-names_are_wanted-clause-refused : goal.returns-then-not-names_are_wanted-clause-refused
returns-then-not-names_are_wanted-clause-refused c = λ _ entry fine.
    let fitting = c.args.fitting.now in
    let n = fitting.nest.now in
    let net = net_of fitting.network.now in
    let s = state_of net c.args.state.now in
    let is = sym c.in-Some-Fire.ensures ∙ ap Some c.in-Some-Fire.field-0-is in
    let on = fire_enabled net c.args.state.now c.requires.state c.args.process c.in-Some-Fire.refs is in
    let wanted = (c.names_are_wanted.ensures (points_of n) entry).1
    (fire_judged n fitting.network.now c.args.fitting.now.shape s c.requires.state.counted
    c.requires.state.named (points_of n) c.args.table.now.of c.args.process entry _ _ _ c.in-Some-Fire.refs refl
    c.requires.table c.slots-slots.ensures c.turn-turn.ensures c.reads_before-first_read.ensures.value on is ∙ fine) in
    let not = c.if-not-names_are_wanted.true in
    cc

pub returns-in-None-clause-refused : goal.returns-in-None-clause-refused
returns-in-None-clause-refused c = λ _ entry fine.
    let fitting = c.args.fitting.now in
    let net = net_of fitting.network.now in
    let s = c.args.state.now in
    let off = enabled_as_cut net (state_of net s) c.requires.state.counted c.args.process
    ∙ ap (can_come_at net (cut_in s)) (sym c.in-None.ensures) in
    let on = enabled_where_none fitting.nest.now net (state_of net s) c.requires.state.counted c.args.process entry
    fine
    in
    cc
