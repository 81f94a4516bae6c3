use Rattle.std.proofs.Common.{length}
use Rattle.deps_text.proofs.writing.+write_dependences.Given as goal

abbrev pub decreases-write_dependences : goal.decreases-write_dependences
decreases-write_dependences g l = length l.dependences.now
