use Rattle.std.proofs.Common.{length}
use Rattle.last_writer.proofs.class.+are_shifts.Given as goal

abbrev pub decreases-are_shifts : goal.decreases-are_shifts
decreases-are_shifts l = length l.forms.now
