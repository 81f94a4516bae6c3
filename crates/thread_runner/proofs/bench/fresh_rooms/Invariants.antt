use Rattle.thread_runner.specs.Benches.{AreFreshRooms}
use Rattle.thread_runner.proofs.bench.fresh_rooms.Given as goal

abbrev pub invariant-loop-process : goal.invariant-loop-process
invariant-loop-process l = AreFreshRooms l.network l.process l.rooms.items
