use Rattle.sanlp.proofs.Greatest.{is_last_writer as law}
use Rattle.sanlp.proofs.law.is_last_writer.Goals as goal

pub returns : goal.returns
returns c = law c.args.nest.now _
