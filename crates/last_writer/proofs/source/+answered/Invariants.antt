use Rattle.std.proofs.Common.{◌+◌, ◌*◌, ◌-◌, length}
use Rattle.last_writer.proofs.source.+answered.Given as goal

abbrev pub decreases-answered : goal.decreases-answered
decreases-answered l = 2 * (length l.w.now.tests.now - length l.w.now.answers.now) + 1

abbrev pub decreases-answered_next : goal.decreases-answered_next
decreases-answered_next l = 2 * (length l.w.now.tests.now - length l.w.now.answers.now)
