use Rattle.std.proofs.Common.{◌≡◌, map, take}
use Rattle.script_blocks.specs.Nesting.{greatest}
use Rattle.sequencer_text.proofs.tables.turns_of.Given as goal

abbrev pub invariant-loop-end : goal.invariant-loop-end
invariant-loop-end l = l.most ≡ greatest (map (λ end. end.count) (take l.end-index l.ends))
