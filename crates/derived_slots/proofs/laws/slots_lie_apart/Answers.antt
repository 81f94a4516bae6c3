use Rattle.derived_slots.proofs.Apart.{apart_in}
use Rattle.derived_slots.proofs.laws.slots_lie_apart.Goals as goal

pub returns : goal.returns
returns c n same = apart_in c.args.nest.now n same
