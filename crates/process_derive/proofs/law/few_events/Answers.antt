use Rattle.process_derive.proofs.Numbers.{has_few_events}
use Rattle.process_derive.proofs.law.few_events.Goals as goal

pub returns : goal.returns
returns c = has_few_events c.args.nest.now
