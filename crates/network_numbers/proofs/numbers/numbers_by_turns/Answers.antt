use Rattle.std.proofs.Common.{length, ap, ap₂, ◌∙◌, arith}
use Rattle.std.proofs.lemmas.List.FromFn.{length-map-range_with_len}
use Rattle.channel_plan.specs.Plans.{plans_of, turn_count}
use Rattle.channel_plan.proofs.Nests.{turns_are}
use Rattle.network_numbers.specs.PlanNumbers.{channels_by_plans, event_total, processes_by_plans, slots_in}
use Rattle.network_numbers.proofs.TextNumbers.{events_told, numbers_told, slots_told}
use Rattle.network_numbers.proofs.numbers.numbers_by_turns.Goals as goal
use Rattle.process_derive.specs.Derived.{net}
use Rattle.process_derive.proofs.Holds.{slots_within}
use Rattle.process_derive.proofs.Numbers.{numbers_fit}
use Rattle.sanlp.proofs.NestFacts.{few_statements}
use Rattle.witness_plan.specs.Sequential.{capacities, sequential_schedule}

pub process_numbers-requires-clause-few : goal.process_numbers-requires-clause-few
process_numbers-requires-clause-few c =
    let n = c.args.nest.now in
    omega (
      arith,
      ap length (c.requires.turns ∙ turns_are n),
      length-map-range_with_len (turn_count n) 0 (length n.statements),
      few_statements n,
    )

pub process_numbers-requires-clause-slots : goal.process_numbers-requires-clause-slots
process_numbers-requires-clause-slots c = λ p.
    omega (
      arith,
      ap (λ plans. slots_in plans p) (c.as_slice-plans.ensures ∙ c.in_ok-channels.ensures),
      slots_told (plans_of c.args.nest.now) p,
      slots_within c.args.nest.now p c.requires.size,
    )

pub event_total-requires : goal.event_total-requires
event_total-requires c =
    let n = c.args.nest.now in
    omega (
      arith,
      ap (event_total c.args.turns.now) (c.as_slice-plans.ensures ∙ c.in_ok-channels.ensures),
      events_told n c.args.turns.now c.requires.turns,
      (numbers_fit n c.requires.size).events,
    )

pub returns : goal.returns
returns c =
    let n = c.args.nest.now in
    let planned = c.as_slice-plans.ensures ∙ c.in_ok-channels.ensures in
    let lengths = c.deref.ensures.value ∙ c.in_ok-capacities.ensures in
    numbers_told n c.args.turns.now (capacities (net n) (sequential_schedule n)) c.requires.turns _ _ _
    (c.in_ok-process_numbers.ensures ∙ ap (λ plans. processes_by_plans plans c.args.turns.now) planned)
    (c.in_ok-channel_numbers.ensures ∙ ap₂ channels_by_plans planned lengths)
    (c.event_total.ensures ∙ ap (event_total c.args.turns.now) planned)
