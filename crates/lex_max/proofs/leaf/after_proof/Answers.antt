use Rattle.std.proofs.Common.{◌+◌, arith}
use Rattle.std.proofs.lemmas.Result.{IfOk-weaker}
use Rattle.lex_max.proofs.LeafProofs.{is_above, is_at, is_below, level_common, many_above, many_at}
use Rattle.lex_max.proofs.leaf.after_proof.Goals as goal

pub terms_of-requires : goal.terms_of-requires
terms_of-requires c =
    let r = c.requires.certs in
    many_above c.args.w.now r.0 r.1 r.2 c.args.here c.args.order.now r.3 c.args.level c.if-level-w.true

pub returns-then-level-w : goal.returns-then-level-w
returns-then-level-w c =
    IfOk-weaker c.sum_with_row.result _ _
    (λ proof is cx context place k.
    is_above c.args.w.now cx context place c.args.here c.args.order.now k c.args.level c.level_row-above.result
    c.terms_of.result.now proof c.requires.level c.if-level-w.true c.terms_of.ensures c.level_row-above.ensures is)
    c.sum_with_row.ensures

pub terms_of-terms-requires : goal.terms_of-terms-requires
terms_of-terms-requires c =
    let r = c.requires.certs in
    many_at c.args.w.now r.0 r.1 r.2 c.args.here c.args.order.now r.3
    (level_common c.args.w.now c.args.level c.requires.level c.if-level-w.false)

pub returns-then-level-w-2 : goal.returns-then-level-w-2
returns-then-level-w-2 c =
    IfOk-weaker c.sum_with_row-then-level-w-2.result _ _
    (λ proof is cx context place k.
    is_at c.args.w.now cx context place c.args.here c.args.order.now k c.args.level c.level_row-row.result
    c.terms_of-terms.result.now proof c.requires.level c.if-level-w-2.true c.terms_of-terms.ensures
    c.level_row-row.ensures is)
    c.sum_with_row-then-level-w-2.ensures

pub returns : goal.returns
returns c =
    IfOk-weaker c.sum_with_row-2.result _ _
    (λ proof is cx context place k.
    is_below c.args.w.now cx context place c.args.here c.args.order.now k c.args.level
    (c.level_row-row.result + 1) c.terms_of-terms.result.now proof c.requires.level
    (omega (arith, c.if-level-w.false, c.if-level-w-2.false)) c.terms_of-terms.ensures
    (omega (arith, c.level_row-row.ensures)) is)
    c.sum_with_row-2.ensures
