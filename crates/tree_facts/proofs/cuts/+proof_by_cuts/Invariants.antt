use Rattle.std.proofs.Common.{length}
use Rattle.tree_facts.proofs.cuts.+proof_by_cuts.Given as goal

abbrev pub decreases-proof_by_cuts : goal.decreases-proof_by_cuts
decreases-proof_by_cuts l = length l.cuts.now
