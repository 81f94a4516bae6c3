use Rattle.std.proofs.Common.{◌∙◌}
use Rattle.std.proofs.lemmas.List.{take_all}
use Rattle.tree_order.proofs.carry.copy_rows.Goals as goal

pub returns : goal.returns
returns c = c.loop-terms.invariant ∙ take_all c.loop-terms.terms-index c.args.rows.now c.loop-terms-test.false
