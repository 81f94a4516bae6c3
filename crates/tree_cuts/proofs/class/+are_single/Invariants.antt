use Rattle.std.proofs.Common.{length}
use Rattle.tree_cuts.proofs.class.+are_single.Given as goal

abbrev pub decreases-are_single : goal.decreases-are_single
decreases-are_single l = length l.forms.now
