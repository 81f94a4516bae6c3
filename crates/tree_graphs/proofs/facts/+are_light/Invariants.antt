use Rattle.std.proofs.Common.{length}
use Rattle.tree_graphs.proofs.facts.+are_light.Given as goal

abbrev pub decreases-are_light : goal.decreases-are_light
decreases-are_light l = length l.terms.now
