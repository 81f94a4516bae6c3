use Rattle.std.proofs.Common.{arith}
use Rattle.network_numbers.proofs.EntryCounts.{part}
use Rattle.network_numbers.proofs.entry.sources_from.Goals as goal

pub returns : goal.returns
returns c = part c.args.sources.now c.args.first c.args.count _ _ (omega arith) (omega arith)
