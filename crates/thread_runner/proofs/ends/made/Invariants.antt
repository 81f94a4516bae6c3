use Rattle.thread_runner.specs.Made.{AreMade}
use Rattle.thread_runner.proofs.ends.made.Given as goal

abbrev pub invariant-loop-at : goal.invariant-loop-at
invariant-loop-at g l = AreMade l.nest l.network l.inputs l.at l.ends.items
