use Rattle.sanlp.proofs.Contiguous.{text_is_contiguous as law}
use Rattle.sanlp.proofs.law.text_is_contiguous.Goals as goal

pub returns : goal.returns
returns c = law c.args.nest.now
