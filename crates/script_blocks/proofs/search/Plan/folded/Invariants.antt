use Rattle.std.proofs.Common.{◌-◌, length}
use Rattle.script_blocks.proofs.search.Plan.folded.Given as goal

abbrev pub decreases-loop-at : goal.decreases-loop-at
decreases-loop-at l = length l.symbols - l.at
