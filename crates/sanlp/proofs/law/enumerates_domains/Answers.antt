use Rattle.sanlp.proofs.Enumerates.{enumerates_domains as law}
use Rattle.sanlp.proofs.law.enumerates_domains.Goals as goal

pub returns : goal.returns
returns c = law c.args.nest.now
