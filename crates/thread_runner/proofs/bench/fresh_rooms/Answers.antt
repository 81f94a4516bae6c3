use Rattle.thread_runner.proofs.BenchLists.{fresh_more}
use Rattle.thread_runner.proofs.bench.fresh_rooms.Goals as goal

pub loop-process-preserved : goal.loop-process-preserved
loop-process-preserved c =
    fresh_more c.args.network.now c.loop-process.process c.loop-process.rooms.items c.push.new.self.items
    c.in_ok-new.field-0 c.loop-process.invariant c.in_ok-push.ensures.items c.in_ok-new.ensures
