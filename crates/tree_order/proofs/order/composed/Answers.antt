use Rattle.std.proofs.Common.{◌++◌, ap, ◌∙◌}
use Rattle.tree_order.specs.Orders.{equal_both}
use Rattle.tree_order.proofs.OrderChains.{composes}
use Rattle.tree_order.proofs.order.composed.Goals as goal

pub returns : goal.returns
returns c =
    let first = c.args.first.now in
    let second = c.args.second.now in
    composes first second (record { equal = c.push_equal.new.equal; strict = c.in_ok-strict.strict })
    (c.in_ok-push_equal.ensures
    ∙ ap (λ old. old ++ equal_both c.as_slice.result.now c.as_slice-2.result.now) c.new-equal.ensures
    ∙ ap (λ equal. equal_both equal c.as_slice-2.result.now) c.as_slice.ensures
    ∙ ap (equal_both first.equal) c.as_slice-2.ensures)
    c.in_ok-strict.ensures
