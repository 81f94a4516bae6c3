use Rattle.process_derive.proofs.Numbers.{numbers_fit}
use Rattle.process_derive.proofs.law.numbers_fit.Goals as goal

pub returns : goal.returns
returns c = numbers_fit c.args.nest.now c.requires
