use Rattle.std.proofs.Common.{length}
use Rattle.last_writer.proofs.class.+are_bits.Given as goal

abbrev pub decreases-are_bits : goal.decreases-are_bits
decreases-are_bits l = length l.coefs.now
