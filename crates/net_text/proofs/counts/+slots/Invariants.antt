use Rattle.std.proofs.Common.{◌≡◌, take}
use Rattle.std.specs.List.{flat_map}
use Rattle.script_blocks.specs.Expansion.{parts_expansion}
use Rattle.net_text.specs.NetworkText.{slot_got}
use Rattle.net_text.specs.Ranges.{range_of}
use Rattle.net_text.proofs.counts.+slots.Given as goal

abbrev pub invariant-slots_of_parts-loop-part : goal.invariant-slots_of_parts-loop-part
invariant-slots_of_parts-loop-part l =
    l.range ≡ range_of (flat_map (slot_got l.channel) (parts_expansion (take l.part-index l.parts)))
