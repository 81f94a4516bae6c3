use Rattle.reorder_slots.proofs.Laws.{keeps_until_used}
use Rattle.reorder_slots.proofs.law.keeps_until_used.Goals as goal

pub returns : goal.returns
returns c = keeps_until_used c.args.uses.now
