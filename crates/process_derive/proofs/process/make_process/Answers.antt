use Rattle.std.proofs.Common.{◌∙◌, ap, sym, subst, arith, length}
use Rattle.std.specs.Prelude.{None, [], slice_index_or}
use Rattle.process_derive.specs.Scripts.{slots_of}
use Rattle.process_derive.specs.Uses.{OnlyBelow}
use Rattle.process_derive.proofs.Bounds.{few_plans}
use Rattle.process_derive.proofs.ScriptNames.{short_script}
use Rattle.process_derive.proofs.Holds.{slots_within}
use Rattle.process_derive.proofs.Scripts.{few_fires, few_sources_read, script_same, sources_exist, sources_there, uses_fit}
use Rattle.process_derive.proofs.process.make_process.Goals as goal

pub incoming_channels-requires-clause-few : goal.incoming_channels-requires-clause-few
incoming_channels-requires-clause-few c = omega (arith, ap length c.requires.plans, few_plans c.args.nest.now)

pub outgoing_channels-requires : goal.outgoing_channels-requires
outgoing_channels-requires c = omega (arith, ap length c.requires.plans, few_plans c.args.nest.now)

pub incoming_channels-requires-clause-slots : goal.incoming_channels-requires-clause-slots
incoming_channels-requires-clause-slots c =
    omega (
      arith,
      ap (λ ps. slots_of ps c.args.number) c.requires.plans,
      slots_within c.args.nest.now c.args.number c.requires.size,
    )

pub slot_count-requires : goal.slot_count-requires
slot_count-requires c =
    omega (
      arith,
      ap (λ ps. slots_of ps c.args.number) c.requires.plans,
      slots_within c.args.nest.now c.args.number c.requires.size,
    )

pub script_of-requires-clause-few : goal.script_of-requires-clause-few
script_of-requires-clause-few c =
    few_sources_read c.args.nest.now c.args.number c.args.sources.now c.requires.sources

pub script_of-requires-clause-fires : goal.script_of-requires-clause-fires
script_of-requires-clause-fires c =
    few_fires c.args.nest.now c.args.number c.args.fires c.requires.size c.requires.fires

pub script_of-requires-clause-there : goal.script_of-requires-clause-there
script_of-requires-clause-there c = λ k there.
    sources_there c.args.nest.now c.args.number k c.args.fires c.args.sources.now c.requires.sources c.requires.fires
    there

pub script_of-requires-clause-exist : goal.script_of-requires-clause-exist
script_of-requires-clause-exist c = λ k f.
    subst (λ m. OnlyBelow m (slice_index_or (slice_index_or c.args.sources.now k []) f None)) (sym c.len.ensures)
    (sources_exist c.args.nest.now c.args.number k f c.args.sources.now c.requires.sources)

pub script_of-requires-clause-fit : goal.script_of-requires-clause-fit
script_of-requires-clause-fit c = λ k f.
    uses_fit c.args.nest.now c.args.number k f c.args.plans.now c.as_slice.result.now c.args.sources.now
    c.requires.size c.requires.plans (c.as_slice.ensures.value ∙ c.in_ok-incoming.ensures)

pub script-requires : goal.script-requires
script-requires c =
    let made = c.in_ok-events.ensures
    ∙ script_same c.args.nest.now c.args.number c.args.fires c.args.plans.now c.as_slice.result.now c.args.sources.now
    c.as_slice-2.result.now
    c.requires.plans (c.as_slice.ensures.value ∙ c.in_ok-incoming.ensures) c.requires.sources
    (c.as_slice-2.ensures.value ∙ c.in_ok-outgoing.ensures) c.requires.fires in
    omega (arith, ap length made, short_script c.args.nest.now c.args.number c.requires.size c.requires.exists)

pub returns : goal.returns
returns c =
    let slots = c.slot_count.ensures ∙ ap (λ ps. slots_of ps c.args.number) c.requires.plans in
    let events = c.in_ok-script.ensures ∙ c.in_ok-events.ensures
    ∙ script_same c.args.nest.now c.args.number c.args.fires c.args.plans.now c.as_slice.result.now c.args.sources.now
    c.as_slice-2.result.now
    c.requires.plans (c.as_slice.ensures.value ∙ c.in_ok-incoming.ensures) c.requires.sources
    (c.as_slice-2.ensures.value ∙ c.in_ok-outgoing.ensures) c.requires.fires in
    cc
