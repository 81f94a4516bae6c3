use Rattle.std.proofs.Common.{◌≡◌, ◌+◌, ◌++◌, drop, length}
use Rattle.repeat_sequencer.specs.Instructions.{parts_code}
use Rattle.repeat_sequencer.proofs.sequencer.+code.Given as goal

abbrev pub invariant-add_parts-loop-part : goal.invariant-add_parts-loop-part
invariant-add_parts-loop-part g l =
    (l.later + l.part-index ≡ length l.parts)
    × (l.code ++ parts_code (drop l.part-index l.parts) l.level (length l.code) l.ends
    ≡ l.initial.code ++ parts_code l.parts l.level (length l.initial.code) l.ends)
