use Rattle.std.proofs.Common.{◌≡◌, ◌<◌, ◌+◌, ◌*◌, ℕ, length, slice_index, count_by, take}
use Rattle.net_core.specs.Shape.{is_put}
use Rattle.script_blocks.specs.Expansion.{parts_expansion}
use Rattle.net_core.proofs.opening.+puts.Given as goal

abbrev pub invariant-count_puts_of_parts-loop-part : goal.invariant-count_puts_of_parts-loop-part
invariant-count_puts_of_parts-loop-part l =
    (c : ℕ) → c < length l.counts
    → slice_index l.counts c
    ≡ slice_index l.initial.counts c + l.times * count_by (is_put c) (parts_expansion (take l.part-index l.parts))
