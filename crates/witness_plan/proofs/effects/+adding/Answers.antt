use Rattle.std.proofs.Common.{◌≡◌, ◌∷◌, [], ◌++◌, ◌+◌, length, map, sym, ap, ◌∙◌, arith, length-append}
use Rattle.std.proofs.lemmas.List.{length-map}
use Rattle.std.proofs.lemmas.Result.{on_ok_weaker}
use Rattle.script_blocks.specs.Expansion.{part_expansion, parts_expansion, repeated}
use Rattle.script_blocks.proofs.Expansions.{expansion_item, expansion_repeat}
use Rattle.script_blocks.proofs.Repetitions.{repeated_none, repeated_once}
use Rattle.witness_plan.specs.Effects.{effect_of}
use Rattle.witness_plan.proofs.EffectLists.{copy_added, effects_as, effects_none, first_copied, part_added}
use Rattle.witness_plan.proofs.effects.+adding.Goals as goal

pub add_parts-loop-part-preserved : goal.add_parts-loop-part-preserved
add_parts-loop-part-preserved t c =
    part_added c.args.effects.now.items c.loop-part.effects.items c.add_part.new.effects.items c.args.parts.now
    c.loop-part.part-index c.part-item.result c.loop-part-test.true c.part-item.is c.loop-part.invariant
    c.in_ok-add_part.ensures

pub add_copies-returns-then-count-eq0 : goal.add_copies-returns-then-count-eq0
add_copies-returns-then-count-eq0 t c =
    let es = parts_expansion c.args.parts.now in
    effects_none c.args.effects.now.items (repeated c.args.count es)
    (ap (λ count. repeated count es) c.if-count-eq0.true ∙ repeated_none es)

pub add_copies-loop-init : goal.add_copies-loop-init
add_copies-loop-init t c = record {
  some = omega arith;
  fits = omega (arith, c.len-end.ensures, c.add_parts.new.effects.ok.0);
  copies = c.in_ok-add_parts.ensures
      ∙ ap (λ es. c.args.effects.now.items ++ map effect_of es) (sym (repeated_once (parts_expansion c.args.parts.now)));
}

pub add_copies-extend_from_within-requires-clause-in_bounds :
    goal.add_copies-extend_from_within-requires-clause-in_bounds
add_copies-extend_from_within-requires-clause-in_bounds t c =
    omega (arith, c.loop.invariant.fits, c.loop.effects.ok.0)

pub add_copies-loop-preserved : goal.add_copies-loop-preserved
add_copies-loop-preserved t c =
    let first = c.args.effects.now.items in
    let es = parts_expansion c.args.parts.now in
    let old = c.loop.effects.items in
    let begins : c.len-start.result ≡ length first = omega (arith, c.len-start.ensures, c.args.effects.now.ok.0) in
    let ends : c.len-end.result ≡ c.len-start.result + length es =
    omega (
      arith,
      begins,
      c.len-end.ensures,
      c.add_parts.new.effects.ok.0,
      ap length c.in_ok-add_parts.ensures,
      length-append first (map effect_of es),
      length-map es effect_of,
    ) in
    let added = first_copied first old c.extend_from_within.new.self.items c.loop.counter es c.len-start.result
    c.len-end.result c.loop.invariant.some c.loop.invariant.copies begins ends c.in_ok-extend_from_within.ensures.items in
    record {
      some = omega arith;
      fits = omega (arith, c.loop.invariant.fits, ap length added, length-append old (map effect_of es));
      copies = copy_added first old c.extend_from_within.new.self.items c.loop.counter es c.loop.invariant.copies added;
    }

pub add_part-returns-in_ok-push-in-Item : goal.add_part-returns-in_ok-push-in-Item
add_part-returns-in_ok-push-in-Item t c =
    let same = ap part_expansion c.in-Item.is ∙ expansion_item c.in-Item.event in
    effects_as c.args.effects.now.items c.push.new.self.items (c.in-Item.event ∷ []) (part_expansion c.args.part.now)
    (sym same)
    (c.in_ok-push-in-Item.ensures.items ∙ ap (λ effect. c.args.effects.now.items ++ effect ∷ []) c.effect_of.ensures)

pub add_part-returns-in-Repeat : goal.add_part-returns-in-Repeat
add_part-returns-in-Repeat t c =
    let same =
    ap part_expansion c.in-Repeat.is ∙ expansion_repeat c.in-Repeat.count c.in-Repeat.body
    ∙ ap (λ parts. repeated c.in-Repeat.count (parts_expansion parts)) (sym c.as_slice.ensures) in
    on_ok_weaker c.add_copies.result
    (effects_as c.args.effects.now.items c.add_copies.new.effects.items
    (repeated c.in-Repeat.count (parts_expansion c.as_slice.result.now)) (part_expansion c.args.part.now) (sym same))
    c.add_copies.ensures
