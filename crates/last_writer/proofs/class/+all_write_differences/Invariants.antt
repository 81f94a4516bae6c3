use Rattle.std.proofs.Common.{length}
use Rattle.last_writer.proofs.class.+all_write_differences.Given as goal

abbrev pub decreases-all_write_differences : goal.decreases-all_write_differences
decreases-all_write_differences l = length l.statements.now
