use Rattle.sanlp.proofs.Enumerates.{enumerates_domains}
use Rattle.source_check.proofs.Exactness.{checked_is_exact as law}
use Rattle.source_check.proofs.law.checked_is_exact.Goals as goal

pub returns : goal.returns
returns c = λ checked. law c.args.nest.now c.args.statement c.args.read c.args.tree.now
    (enumerates_domains c.args.nest.now) checked
