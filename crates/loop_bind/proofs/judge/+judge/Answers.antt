use Rattle.std.proofs.Common.{◌∙◌, ap, refl}
use Rattle.loop_bind.specs.Judging.{seen_from, findings_of, judged}
use Rattle.loop_bind.specs.Names.{value_named}
use Rattle.loop_bind.specs.Reasons.{least_from}
use Rattle.loop_bind.proofs.JudgeLemmas.{access_form, access_least, binary_least, neg_least, min_least, max_least}
use Rattle.loop_bind.proofs.judge.+judge.Goals as goal

pub judge-returns-in-Access-clause-form : goal.judge-returns-in-Access-clause-form
judge-returns-in-Access-clause-form t c =
    let place = c.args.place in
    let scope = c.args.scope.now in
    c.find_form.ensures.form
    ∙ access_form place scope c.args.operand.now c.args.least.now c.in-Access.name c.in-Access.subscripts
    c.is_empty.result (seen_from place (value_named scope c.in-Access.name.text))
    c.in-Access.is c.is_empty.ensures refl

pub judge-returns-in-Access-clause-least : goal.judge-returns-in-Access-clause-least
judge-returns-in-Access-clause-least t c =
    let place = c.args.place in
    let scope = c.args.scope.now in
    access_least place scope c.args.operand.now c.args.least.now c.in-Access.name c.in-Access.subscripts
    c.is_empty.result (seen_from place (value_named scope c.in-Access.name.text))
    c.in-Access.is c.is_empty.ensures refl c.judge_all.new.least c.find_form.new.least
    (c.judge_all.ensures
    ∙ ap (λ list.
    least_from c.args.least.now (findings_of place scope list)) c.as_slice.ensures) c.find_form.ensures.least

pub judge-returns-in-Binary-clause-least : goal.judge-returns-in-Binary-clause-least
judge-returns-in-Binary-clause-least t c =
    let p = c.args.place in
    let scope = c.args.scope.now in
    binary_least p scope c.args.operand.now c.args.least.now c.in-Binary.sign c.in-Binary.token c.in-Binary.left
    c.in-Binary.right c.judge-left.result c.judge-right.result
    c.judge-left.new.least c.judge-right.new.least c.combine.new.least c.in-Binary.is
    (c.judge-left.ensures.form ∙ ap (λ o. (judged p scope o).form) c.get.ensures)
    (c.judge-right.ensures.form ∙ ap (λ o. (judged p scope o).form) c.get-in-Binary.ensures)
    (c.judge-left.ensures.least ∙ ap (λ o. least_from c.args.least.now (judged p scope o).findings) c.get.ensures)
    (c.judge-right.ensures.least
    ∙ ap (λ o. least_from c.judge-left.new.least (judged p scope o).findings) c.get-in-Binary.ensures)
    c.combine.ensures.least

pub judge-returns-in-Neg-clause-least : goal.judge-returns-in-Neg-clause-least
judge-returns-in-Neg-clause-least t c =
    let p = c.args.place in
    let scope = c.args.scope.now in
    neg_least p scope c.args.operand.now c.args.least.now c.in-Neg.token c.in-Neg.inner c.judge-form.result
    c.judge-form.new.least c.negate.new.least c.in-Neg.is
    (c.judge-form.ensures.form ∙ ap (λ o. (judged p scope o).form) c.get-in-Neg.ensures)
    (c.judge-form.ensures.least
    ∙ ap (λ o. least_from c.args.least.now (judged p scope o).findings) c.get-in-Neg.ensures)
    c.negate.ensures.least

pub judge-returns-in-Min-clause-least : goal.judge-returns-in-Min-clause-least
judge-returns-in-Min-clause-least t c =
    let p = c.args.place in
    let scope = c.args.scope.now in
    min_least p scope c.args.operand.now c.args.least.now c.in-Min.token c.in-Min.list c.judge_all-in-Min.new.least
    c.note.new.least c.in-Min.is
    (c.judge_all-in-Min.ensures
    ∙ ap (λ list. least_from c.args.least.now (findings_of p scope list)) c.as_slice-in-Min.ensures) c.note.ensures

pub judge-returns-in-Max-clause-least : goal.judge-returns-in-Max-clause-least
judge-returns-in-Max-clause-least t c =
    let p = c.args.place in
    let scope = c.args.scope.now in
    max_least p scope c.args.operand.now c.args.least.now c.in-Max.token c.in-Max.list c.judge_all-in-Max.new.least
    c.note-in-Max.new.least c.in-Max.is
    (c.judge_all-in-Max.ensures
    ∙ ap (λ list.
    least_from c.args.least.now (findings_of p scope list)) c.as_slice-in-Max.ensures) c.note-in-Max.ensures
