use Rattle.std.proofs.Common.{arith}
use Rattle.net_core.proofs.EventTotals.{events_more, events_within}
use Rattle.net_core.proofs.event_counts.event_count.Goals as goal

pub overflow_add-count : goal.overflow_add-count
overflow_add-count c =
    let within =
    events_within c.args.network.now c.as_slice-process-items.result.now c.loop-process.process-index
    c.process-item.result c.as_slice-process-items.ensures c.loop-process-test.true c.process-item.is c.requires in
    omega (arith, within, c.loop-process.invariant, c.len-count.ensures)

pub loop-process-preserved : goal.loop-process-preserved
loop-process-preserved c =
    let more =
    events_more c.args.network.now c.as_slice-process-items.result.now c.loop-process.process-index
    c.process-item.result c.as_slice-process-items.ensures c.loop-process-test.true c.process-item.is in
    omega (arith, more, c.loop-process.invariant, c.len-count.ensures)
