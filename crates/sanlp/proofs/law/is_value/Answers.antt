use Rattle.sanlp.proofs.LastWriter.{value_at_is as law}
use Rattle.sanlp.proofs.law.is_value.Goals as goal

pub returns : goal.returns
returns c = law c.args.nest.now c.args.inputs.now _
