use Rattle.std.proofs.Common.{◌≡◌, length, min, take}
use Rattle.script_blocks.specs.Expansion.{parts_expansion}
use Rattle.script_blocks.proofs.blocks.+length.Given as goal

abbrev pub invariant-capped_len-loop-part : goal.invariant-capped_len-loop-part
invariant-capped_len-loop-part g l =
    l.length ≡ min (length (parts_expansion (take l.part-index l.parts))) 4611686018427387905
