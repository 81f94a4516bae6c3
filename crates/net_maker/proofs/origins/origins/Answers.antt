use Rattle.std.proofs.Common.{arith}
use Rattle.net_maker.proofs.ReadNumbers.{origins_whole}
use Rattle.net_maker.proofs.origins.origins.Goals as goal

pub returns : goal.returns
returns c =
    origins_whole c.args.nest.now c.loop-statement.statement c.loop-statement.sources
    (omega (arith, c.len-statement-end.ensures)) c.loop-statement.invariant.origins
