use Rattle.net_core.proofs.Alike.{copied_more}
use Rattle.net_core.proofs.copies.copy_processes.Goals as goal

pub loop-process-preserved : goal.loop-process-preserved
loop-process-preserved c =
    copied_more c.args.processes.now c.loop-process.copies.items c.push.new.self.items c.loop-process.process-index
    c.process-item.result
    (record { slots = c.process-item.result.slots; script = c.in_ok-share.field-0 })
    c.loop-process-test.true c.process-item.is c.loop-process.invariant c.in_ok-push.ensures.items
    (λ i. record { slots = c.process-item.result.slots; script = c.in_ok-share.ensures i })
