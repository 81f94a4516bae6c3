use Rattle.std.proofs.Common.{ap, ap₂, ◌∙◌, sym, arith}
use Rattle.std.specs.List.{flat_map}
use Rattle.script_blocks.specs.Expansion.{parts_expansion}
use Rattle.net_text.specs.NetworkText.{slot_got}
use Rattle.net_text.specs.Ranges.{joined, range_of}
use Rattle.net_text.proofs.Spans.{range_more, range_of_none, range_of_repeat}
use Rattle.net_text.proofs.counts.+slots.Goals as goal

pub slots_of_part-returns-then-count-eq0 : goal.slots_of_part-returns-then-count-eq0
slots_of_part-returns-then-count-eq0 t c =
    range_of_none (slot_got c.args.channel) c.in-Repeat.body c.args.part.now c.in-Repeat.count c.in-Repeat.is
    (omega arith)

pub slots_of_part-returns-else-count-eq0 : goal.slots_of_part-returns-else-count-eq0
slots_of_part-returns-else-count-eq0 t c =
    c.slots_of_parts.ensures
    ∙ ap (λ ps. range_of (flat_map (slot_got c.args.channel) (parts_expansion ps))) c.as_slice.ensures
    ∙ range_of_repeat (slot_got c.args.channel) c.in-Repeat.body c.args.part.now c.in-Repeat.count c.in-Repeat.is
    (omega arith)

pub slots_of_parts-loop-part-preserved : goal.slots_of_parts-loop-part-preserved
slots_of_parts-loop-part-preserved t c =
    c.joined-range.ensures ∙ ap₂ joined c.loop-part.invariant c.slots_of_part.ensures
    ∙ sym (range_more (slot_got c.args.channel) c.args.parts.now c.loop-part.part-index c.part-item.result
    c.loop-part-test.true c.part-item.is)
