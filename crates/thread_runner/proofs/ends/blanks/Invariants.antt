use Rattle.thread_runner.specs.Made.{AreBlank}
use Rattle.thread_runner.proofs.ends.blanks.Given as goal

abbrev pub invariant-loop : goal.invariant-loop
invariant-loop l = AreBlank l.counter l.channels l.ends.items
