use Rattle.std.proofs.Common.{length}
use Rattle.net_maker.proofs.ranges.+forms_fit.Given as goal

abbrev pub decreases-forms_fit : goal.decreases-forms_fit
decreases-forms_fit l = length l.forms.now
