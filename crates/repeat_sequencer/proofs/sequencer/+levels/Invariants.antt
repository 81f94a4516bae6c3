use Rattle.std.proofs.Common.{◌≡◌, take}
use Rattle.script_blocks.specs.Nesting.{parts_nesting}
use Rattle.repeat_sequencer.proofs.sequencer.+levels.Given as goal

abbrev pub invariant-levels_of-loop-part : goal.invariant-levels_of-loop-part
invariant-levels_of-loop-part g l = l.levels ≡ parts_nesting (take l.part-index l.parts)
