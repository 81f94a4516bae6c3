use Rattle.std.proofs.Common.{◌∙◌, ap, length}
use Rattle.std.proofs.lemmas.Result.{err_from_is_err_and}
use Rattle.array_data.specs.Answer.{answer_text}
use Rattle.command_answers.specs.Run.{run_text}
use Rattle.command_answers.proofs.ArrayCounts.{length-arrays}
use Rattle.command_answers.proofs.Runs.{runs_to_text, unprepared}
use Rattle.command_answers.proofs.run.run_by_interpreter.Goals as goal

pub returns-in_err-nest : goal.returns-in_err-nest
returns-in_err-nest c =
    let stop = err_from_is_err_and c.from_residual.result c.from_residual.ensures.1 in
    rw (stop.1, stop.2) (unprepared run_text c.args.params.now c.args.bundle.now _ c.in_err-nest.ensures)

pub invariant_of-result : goal.invariant_of-result
invariant_of-result c =
    record { whole = ap length c.in_ok-arrays.ensures.meaning ∙ length-arrays c.in_ok-nest.nest c.in_ok-nest.inputs }

pub returns : goal.returns
returns c =
    runs_to_text run_text c.args.params.now c.args.bundle.now c.in_ok-nest.nest c.in_ok-nest.inputs _
    c.in_ok-nest.ensures
    (ap (answer_text c.in_ok-nest.nest.arrays) c.in_ok-arrays.ensures.meaning)
