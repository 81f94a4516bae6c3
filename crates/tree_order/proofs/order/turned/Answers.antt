use Rattle.std.proofs.Common.{ap, ◌∙◌}
use Rattle.std.proofs.lemmas.List.{take_all}
use Rattle.tree_order.specs.Orders.{turned_equal}
use Rattle.tree_order.proofs.order.turned.Goals as goal

pub returns : goal.returns
returns c = c.loop-one.invariant
    ∙ ap turned_equal (take_all c.loop-one.one-index c.args.equal.now c.loop-one-test.false)
