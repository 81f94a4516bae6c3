use Rattle.sanlp.proofs.LoopBounds.{bounded_above as law}
use Rattle.sanlp.proofs.law.loops_are_bounded_above.Goals as goal

pub returns : goal.returns
returns c = law c.args.nest.now
