use Rattle.sanlp.proofs.TextOrders.{orders_compose as law}
use Rattle.sanlp.proofs.law.orders_compose.Goals as goal

pub returns : goal.returns
returns c = law c.args.nest.now
