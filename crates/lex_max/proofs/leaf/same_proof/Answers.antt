use Rattle.std.proofs.Common.{◌+◌, arith}
use Rattle.std.proofs.lemmas.Result.{IfOk-weaker}
use Rattle.tree_graphs.proofs.ProblemBounds.{few_levels}
use Rattle.lex_max.proofs.LeafProofs.{is_same, many_at}
use Rattle.lex_max.proofs.leaf.same_proof.Goals as goal

pub level_row-row-requires-clause-level : goal.level_row-row-requires-clause-level
level_row-row-requires-clause-level c = few_levels c.args.w.now

pub overflow_add-row : goal.overflow_add-row
overflow_add-row c = omega (arith, c.level_row-row.ensures, c.requires.here, few_levels c.args.w.now)

pub terms_of-requires : goal.terms_of-requires
terms_of-requires c =
    let r = c.requires.certs in
    many_at c.args.w.now r.0 r.1 r.2 c.args.here c.args.order.now r.3
    (omega (arith, c.requires.level, c.args.w.now.loops))

pub returns : goal.returns
returns c =
    IfOk-weaker c.sum_with_row.result _ _
    (λ proof is cx context place k.
    is_same c.args.w.now cx context place c.args.here c.args.order.now k (c.level_row-row.result + 1)
    c.terms_of.result.now proof c.requires.level c.terms_of.ensures (omega (arith, c.level_row-row.ensures)) is)
    c.sum_with_row.ensures
