use Rattle.std.proofs.Common.{length}
use Rattle.tree_bounds.proofs.forms.+all_have_values.Given as goal

abbrev pub decreases-all_have_values : goal.decreases-all_have_values
decreases-all_have_values l = length l.place.now
