use Rattle.std.proofs.Common.{length}
use Rattle.last_writer.proofs.class.+are_trits.Given as goal

abbrev pub decreases-are_trits : goal.decreases-are_trits
decreases-are_trits l = length l.coefs.now
