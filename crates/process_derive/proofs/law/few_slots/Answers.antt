use Rattle.process_derive.proofs.NetworkShape.{has_few_slots}
use Rattle.process_derive.proofs.law.few_slots.Goals as goal

pub returns : goal.returns
returns c = has_few_slots c.args.nest.now
