use Rattle.std.proofs.Common.{length}
use Rattle.last_writer.proofs.class.+are_differences.Given as goal

abbrev pub decreases-are_differences : goal.decreases-are_differences
decreases-are_differences l = length l.rows.now
