use Rattle.loop_lex.proofs.Order.{in_order}
use Rattle.loop_lex.proofs.law.tokens_are_in_order.Goals as goal

pub returns : goal.returns
returns c = in_order
