use Rattle.std.proofs.Common.{length, sym}
use Rattle.int_polyhedra.proofs.Variables.{product_over}
use Rattle.tree_facts.proofs.sums.with_row.Goals as goal

pub add-requires : goal.add-requires
add-requires c =
    sym (product_over (length c.args.sum.now.coefs) _ c.args.row.now c.in_ok-more.more c.requires
    c.in_ok-more.ensures.exact)
