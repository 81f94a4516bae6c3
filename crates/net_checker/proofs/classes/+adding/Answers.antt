use Rattle.std.proofs.Common.{◌++◌, ◌∷◌, [], length, rules, refl, sym, ap, ◌∙◌, arith, take_all}
use Rattle.std.proofs.lemmas.Result.{on_ok_weaker}
use Rattle.script_blocks.specs.declared.blocks.BlockPart.TheViews.{the_lemmas}
use Rattle.script_blocks.specs.Expansion.{part_expansion, parts_expansion, repeated}
use Rattle.script_blocks.proofs.Expansions.{expansion_item, expansion_repeat}
use Rattle.script_blocks.proofs.Repetitions.{repeated_none}
use Rattle.net_core.specs.Machine.{net_of}
use Rattle.net_checker.specs.SlotRows.{slots_in}
use Rattle.net_checker.proofs.BlockUses.{before_copy, before_part, collected_at, copy_passed, none_passed, part_passed}
use Rattle.net_checker.proofs.BlockUses.{place_as}
use Rattle.net_checker.proofs.classes.+adding.Goals as goal

pub add_parts-loop-part-init : goal.add_parts-loop-part-init
add_parts-loop-part-init t c = λ place.
    collected_at (net_of c.args.fitting.now.network.now) c.args.process place.first_gets place.first_uses
    c.args.gets.now
    c.args.uses.now (slots_in c.args.slots.now) _ _ (none_passed place.before [] refl) place.collected

pub add_parts-add_part-requires : goal.add_parts-add_part-requires
add_parts-add_part-requires t c = (
  search (rules, the_lemmas),
  before_part (net_of c.args.fitting.now.network.now) c.args.process c.args.parts.now c.loop-part.part-index
      c.part-item.result c.args.gets.now c.loop-part.gets c.args.uses.now c.loop-part.uses
      (slots_in c.args.slots.now) (slots_in c.loop-part.slots) c.loop-part-test.true c.part-item.is
      c.requires (c.loop-part.invariant c.requires),
)

pub add_parts-loop-part-preserved : goal.add_parts-loop-part-preserved
add_parts-loop-part-preserved t c = λ place.
    collected_at (net_of c.args.fitting.now.network.now) c.args.process place.first_gets place.first_uses
    c.add_part.new.gets
    c.add_part.new.uses (slots_in c.add_part.new.slots) _ _
    (part_passed place.before c.args.parts.now c.loop-part.part-index c.part-item.result c.loop-part-test.true
    c.part-item.is)
    (c.in_ok-add_part.ensures
    (before_part (net_of c.args.fitting.now.network.now) c.args.process c.args.parts.now c.loop-part.part-index
    c.part-item.result c.args.gets.now c.loop-part.gets c.args.uses.now c.loop-part.uses
    (slots_in c.args.slots.now) (slots_in c.loop-part.slots) c.loop-part-test.true c.part-item.is place
    (c.loop-part.invariant place)))

pub add_parts-returns : goal.add_parts-returns
add_parts-returns t c = λ place.
    collected_at (net_of c.args.fitting.now.network.now) c.args.process place.first_gets place.first_uses
    c.loop-part.gets c.loop-part.uses (slots_in c.loop-part.slots) _ _
    (ap (λ parts. length (place.before ++ parts_expansion parts))
    (take_all c.loop-part.part-index c.args.parts.now (omega (arith, c.loop-part-test.false))))
    (c.loop-part.invariant place)

pub add_copies-loop-init : goal.add_copies-loop-init
add_copies-loop-init t c = λ place.
    collected_at (net_of c.args.fitting.now.network.now) c.args.process place.first_gets place.first_uses
    c.args.gets.now
    c.args.uses.now (slots_in c.args.slots.now) _ _
    (none_passed place.before (repeated 0 (parts_expansion c.args.parts.now))
    (repeated_none (parts_expansion c.args.parts.now))) place.collected

pub add_copies-add_parts-requires : goal.add_copies-add_parts-requires
add_copies-add_parts-requires t c = (
  search (rules, the_lemmas),
  before_copy (net_of c.args.fitting.now.network.now) c.args.process c.args.count c.loop.counter
      (parts_expansion c.args.parts.now) c.args.gets.now c.loop.gets c.args.uses.now c.loop.uses
      (slots_in c.args.slots.now) (slots_in c.loop.slots) c.loop-test.true
      c.requires (c.loop.invariant c.requires),
)

pub add_copies-loop-preserved : goal.add_copies-loop-preserved
add_copies-loop-preserved t c = λ place.
    collected_at (net_of c.args.fitting.now.network.now) c.args.process place.first_gets place.first_uses
    c.add_parts.new.gets
    c.add_parts.new.uses (slots_in c.add_parts.new.slots) _ _
    (copy_passed place.before c.loop.counter (parts_expansion c.args.parts.now))
    (c.in_ok-add_parts.ensures
    (before_copy (net_of c.args.fitting.now.network.now) c.args.process c.args.count c.loop.counter
    (parts_expansion c.args.parts.now) c.args.gets.now c.loop.gets c.args.uses.now c.loop.uses
    (slots_in c.args.slots.now) (slots_in c.loop.slots) c.loop-test.true place (c.loop.invariant place)))

pub add_part-add_event-requires : goal.add_part-add_event-requires
add_part-add_event-requires t c =
    place_as (net_of c.args.fitting.now.network.now) c.args.process (part_expansion c.args.part.now)
    (c.in-Item.event ∷ [])
    c.args.gets.now c.args.uses.now (slots_in c.args.slots.now)
    (ap part_expansion c.in-Item.is ∙ expansion_item c.in-Item.event) c.requires

pub add_part-returns-in-Item : goal.add_part-returns-in-Item
add_part-returns-in-Item t c =
    let same = ap part_expansion c.in-Item.is ∙ expansion_item c.in-Item.event in
    on_ok_weaker c.add_event.result
    (λ collects place.
    collected_at (net_of c.args.fitting.now.network.now) c.args.process place.first_gets place.first_uses
    c.add_event.new.gets
    c.add_event.new.uses (slots_in c.add_event.new.slots) _ _ (ap (λ es. length (place.before ++ es)) (sym same))
    (collects
    (place_as (net_of c.args.fitting.now.network.now) c.args.process (part_expansion c.args.part.now)
    (c.in-Item.event ∷ [])
    c.args.gets.now c.args.uses.now (slots_in c.args.slots.now) same place))) c.add_event.ensures

pub add_part-add_copies-requires : goal.add_part-add_copies-requires
add_part-add_copies-requires t c = (
  search (rules, the_lemmas),
  place_as (net_of c.args.fitting.now.network.now) c.args.process (part_expansion c.args.part.now)
      (repeated c.in-Repeat.count (parts_expansion c.as_slice-parts.result.now))
      c.args.gets.now c.args.uses.now (slots_in c.args.slots.now)
      (ap part_expansion c.in-Repeat.is ∙ expansion_repeat c.in-Repeat.count c.in-Repeat.body
      ∙ ap (λ parts. repeated c.in-Repeat.count (parts_expansion parts)) (sym c.as_slice-parts.ensures))
      c.requires,
)

pub add_part-returns-in-Repeat : goal.add_part-returns-in-Repeat
add_part-returns-in-Repeat t c =
    let same =
    ap part_expansion c.in-Repeat.is ∙ expansion_repeat c.in-Repeat.count c.in-Repeat.body
    ∙ ap (λ parts. repeated c.in-Repeat.count (parts_expansion parts)) (sym c.as_slice-parts.ensures) in
    on_ok_weaker c.add_copies.result
    (λ collects place.
    collected_at (net_of c.args.fitting.now.network.now) c.args.process place.first_gets place.first_uses
    c.add_copies.new.gets
    c.add_copies.new.uses (slots_in c.add_copies.new.slots) _ _ (ap (λ es. length (place.before ++ es)) (sym same))
    (collects
    (place_as (net_of c.args.fitting.now.network.now) c.args.process (part_expansion c.args.part.now)
    (repeated c.in-Repeat.count (parts_expansion c.as_slice-parts.result.now))
    c.args.gets.now c.args.uses.now (slots_in c.args.slots.now) same place))) c.add_copies.ensures
