use Rattle.std.proofs.lemmas.Result.{IfOk-weaker}
use Rattle.stride_trees.proofs.TestNodes.{no_is_checked}
use Rattle.stride_trees.proofs.tests.no_leaf.Goals as goal

pub returns : goal.returns
returns c =
    IfOk-weaker c.zero_leaf.result _ _
    (λ tree is. no_is_checked c.args.s.now c.args.division.now c.args.here c.order_row_count-more.result
    c.in_ok-proof.proof tree
    c.requires.strided c.requires.test c.order_row_count-more.ensures.value is c.in_ok-proof.ensures)
    c.zero_leaf.ensures
