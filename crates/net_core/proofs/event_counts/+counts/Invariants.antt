use Rattle.std.proofs.Common.{◌≡◌, count_by, min, take}
use Rattle.net_core.specs.Kinds.{is_of_kind}
use Rattle.script_blocks.specs.Expansion.{parts_expansion}
use Rattle.net_core.proofs.event_counts.+counts.Given as goal

abbrev pub invariant-count_in_parts-loop-part : goal.invariant-count_in_parts-loop-part
invariant-count_in_parts-loop-part l =
    l.count ≡ min (count_by (is_of_kind l.kind) (parts_expansion (take l.part-index l.parts))) 18446744073709551615
