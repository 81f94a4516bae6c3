use Rattle.deps_text.proofs.DependenceRange.{all_can_be_told}
use Rattle.deps_text.proofs.law.dependences_can_be_told.Goals as goal

pub returns : goal.returns
returns c = all_can_be_told c.args.nest.now
