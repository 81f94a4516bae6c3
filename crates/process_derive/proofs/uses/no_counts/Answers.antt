use Rattle.std.proofs.Common.{arith}
use Rattle.process_derive.proofs.Points.{first_counts}
use Rattle.process_derive.proofs.uses.no_counts.Goals as goal

pub returns : goal.returns
returns c =
    first_counts c.args.sources.now c.args.processes c.loop.counts.items c.loop.counter c.loop.invariant
    (omega arith)
