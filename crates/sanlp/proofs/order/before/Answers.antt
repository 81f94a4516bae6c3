use Rattle.std.proofs.Common.{refl, sym, ap, ◌∙◌, Less, Equal, Greater}
use Rattle.sanlp.specs.Order.{common_loops}
use Rattle.sanlp.proofs.Precedence.{points_decided}
use Rattle.sanlp.proofs.order.before.Goals as goal

pub returns-in-Less : goal.returns-in-Less
returns-in-Less c =
    let is =
    points_decided c.args.nest.now c.args.a.now c.args.b.now c.statement-first.result.now c.statement-second.result.now
    c.statement-first.ensures.value c.statement-second.ensures.value c.requires.first.1 c.requires.second.1
    c.common_loops-common.result
    (c.common_loops-common.ensures.value ∙ ap (λ ks. common_loops ks c.as_slice-2.result.now) c.as_slice.ensures
    ∙ ap (common_loops c.statement-first.result.now.loops) c.as_slice-2.ensures)
    c.as_slice-3.result.now c.as_slice-4.result.now c.as_slice-3.ensures.value c.as_slice-4.ensures.value Less
    (sym c.in-Less.is ∙ c.cmp.ensures) in
    (λ t. is, λ p. refl)

pub returns-in-Equal : goal.returns-in-Equal
returns-in-Equal c =
    let is =
    points_decided c.args.nest.now c.args.a.now c.args.b.now c.statement-first.result.now c.statement-second.result.now
    c.statement-first.ensures.value c.statement-second.ensures.value c.requires.first.1 c.requires.second.1
    c.common_loops-common.result
    (c.common_loops-common.ensures.value ∙ ap (λ ks. common_loops ks c.as_slice-2.result.now) c.as_slice.ensures
    ∙ ap (common_loops c.statement-first.result.now.loops) c.as_slice-2.ensures)
    c.as_slice-3.result.now c.as_slice-4.result.now c.as_slice-3.ensures.value c.as_slice-4.ensures.value Equal
    (sym c.in-Equal.is ∙ c.cmp.ensures) in
    (is.1, is.0)

pub returns-in-Greater : goal.returns-in-Greater
returns-in-Greater c =
    let is =
    points_decided c.args.nest.now c.args.a.now c.args.b.now c.statement-first.result.now c.statement-second.result.now
    c.statement-first.ensures.value c.statement-second.ensures.value c.requires.first.1 c.requires.second.1
    c.common_loops-common.result
    (c.common_loops-common.ensures.value ∙ ap (λ ks. common_loops ks c.as_slice-2.result.now) c.as_slice.ensures
    ∙ ap (common_loops c.statement-first.result.now.loops) c.as_slice-2.ensures)
    c.as_slice-3.result.now c.as_slice-4.result.now c.as_slice-3.ensures.value c.as_slice-4.ensures.value Greater
    (sym c.in-Greater.is ∙ c.cmp.ensures) in
    (λ t. cc, λ p. absurd (is p))
