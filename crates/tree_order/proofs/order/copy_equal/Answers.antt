use Rattle.std.proofs.Common.{◌∙◌}
use Rattle.std.proofs.lemmas.List.{take_all}
use Rattle.tree_order.proofs.order.copy_equal.Goals as goal

pub returns : goal.returns
returns c = c.loop-one.invariant ∙ take_all c.loop-one.one-index c.args.equal.now c.loop-one-test.false
