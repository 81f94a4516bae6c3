use Rattle.std.proofs.Common.{◌≡◌, map, take}
use Rattle.script_blocks.specs.Nesting.{greatest}
use Rattle.port_text.specs.Limits.{get_instructions}
use Rattle.port_text.proofs.unit.longest_get.Given as goal

-- the greatest so far
abbrev pub invariant-loop-control : goal.invariant-loop-control
invariant-loop-control l = l.most ≡ greatest (map get_instructions (take l.control-index l.controls))
