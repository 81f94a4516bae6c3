use Rattle.std.proofs.Common.{◌≡◌, ◌-◌, ◌++◌}
use Rattle.script_blocks.specs.Expansion.{repeated}
use Rattle.script_blocks.proofs.folding.repetitions.Given as goal

abbrev pub invariant-loop-times : goal.invariant-loop-times
invariant-loop-times l = l.first ++ l.labels ≡ repeated l.times l.first ++ l.rest

abbrev pub decreases-loop-times : goal.decreases-loop-times
decreases-loop-times l = l.most - l.times
