use Rattle.std.proofs.Common.{◌∙◌, sym}
use Rattle.int_polyhedra.specs.Chain.{rows_of}
use Rattle.int_polyhedra.proofs.Variables.{over_at, product_over}
use Rattle.int_polyhedra.proofs.steps.add_term.Goals as goal

pub add-requires : goal.add-requires
add-requires c =
    c.requires.sum
    ∙ sym (product_over c.args.vars _ c.in-Ok.row.now c.in_ok-more.more
    (over_at c.args.vars (rows_of c.args.rows.now) c.args.term.now.row c.in-Ok.row.now c.requires.rows
    c.in-Ok.ensures) c.in_ok-more.ensures.exact)
