use Rattle.std.proofs.Common.{◌≡◌, map, take}
use Rattle.script_blocks.specs.Nesting.{greatest}
use Rattle.sequencer_text.specs.Tables.{ends_behind}
use Rattle.sequencer_text.proofs.tables.greatest_end_count.Given as goal

-- the greatest so far
abbrev pub invariant-loop-instruction : goal.invariant-loop-instruction
invariant-loop-instruction g l = l.most ≡ greatest (map ends_behind (take l.instruction-index l.instructions))
