use Rattle.std.proofs.Common.{length}
use Rattle.tree_eval.proofs.walk.+append_mapped.Given as goal

abbrev pub decreases-append_mapped : goal.decreases-append_mapped
decreases-append_mapped l = length l.forms.now
