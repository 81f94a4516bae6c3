use Rattle.std.proofs.Common.{vec_len}
use Rattle.thread_runner.proofs.workers.+start.Given as goal

abbrev pub decreases-start : goal.decreases-start
decreases-start g l = vec_len l.rooms
