use Rattle.std.proofs.Common.{true, false}
use Rattle.rtl_answers.proofs.Designs.{judged_with}
use Rattle.rtl_answers.proofs.answer.answer_to.Goals as goal

pub returns-then-order : goal.returns-then-order
returns-then-order c =
    let order = c.args.order.now in
    judged_with true order.clocks order.ports order.policy order.params c.args.bundle.now c.count_clocks.result
    c.if-order.true c.count_clocks.ensures

pub returns-else-order : goal.returns-else-order
returns-else-order c =
    let order = c.args.order.now in
    judged_with false order.clocks order.ports order.policy order.params c.args.bundle.now c.design_network.result
    c.if-order.false c.design_network.ensures
