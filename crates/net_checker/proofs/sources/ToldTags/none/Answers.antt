use Rattle.std.proofs.Common.{arith}
use Rattle.net_checker.proofs.sources.ToldTags.none.Goals as goal

pub returns : goal.returns
returns c points tree vectors turn i at lt is = absurd (omega (arith, lt))
