use Rattle.std.proofs.Common.{◌≡◌, map, take}
use Rattle.script_blocks.specs.Nesting.{greatest}
use Rattle.sequencer_text.specs.Tables.{turns_behind}
use Rattle.sequencer_text.proofs.tables.greatest_turn_count.Given as goal

-- the greatest so far
abbrev pub invariant-loop-instruction : goal.invariant-loop-instruction
invariant-loop-instruction g l = l.most ≡ greatest (map turns_behind (take l.instruction-index l.instructions))
