use Rattle.std.proofs.lemmas.Result.{err_from_is_err_and}
use Rattle.rtl_answers.proofs.Planned.{planned_refusal_of_bundle, planned_work}
use Rattle.rtl_answers.proofs.call.answer_for.Goals as goal

pub returns-in_err-bundle : goal.returns-in_err-bundle
returns-in_err-bundle g c =
    let stop = err_from_is_err_and c.from_residual.result c.from_residual.ensures.1 in
    rw (stop.1, stop.2) (planned_refusal_of_bundle c.args.order.now _ _ c.in_err-bundle.ensures)

pub returns : goal.returns
returns g c =
    planned_work c.args.order.now _ c.in_ok-bundle.bundle c.answer_to.result c.in_ok-bundle.ensures
    (rw c.deref.ensures.value at c.answer_to.ensures)
