use Rattle.std.proofs.Common.{◌≡◌, map, take}
use Rattle.script_blocks.specs.Nesting.{greatest}
use Rattle.unit_text.specs.Limits.{gain_instructions}
use Rattle.unit_text.proofs.unit.longest_of.Given as goal

-- the greatest so far
abbrev pub invariant-loop-counter : goal.invariant-loop-counter
invariant-loop-counter l = l.most ≡ greatest (map gain_instructions (take l.counter-index l.loops))
