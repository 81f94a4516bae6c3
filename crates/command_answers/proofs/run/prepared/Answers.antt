use Rattle.std.proofs.lemmas.Result.{err_from_is_err_and}
use Rattle.command_answers.specs.Run.{source_refused}
use Rattle.command_answers.specs.Steps.{IsPrepared}
use Rattle.command_answers.proofs.Runs.{prepared_from}
use Rattle.command_answers.proofs.Stops.{without_nest}
use Rattle.command_answers.proofs.run.prepared.Goals as goal

pub returns-in_err-nest : goal.returns-in_err-nest
returns-in_err-nest c =
    let stop = err_from_is_err_and c.from_residual.result c.from_residual.ensures.1 in
    rw (stop.1, stop.2)
    (without_nest (IsPrepared c.args.params.now c.args.bundle.now) c.args.params.now c.args.bundle.now
    c.parts_of-parts.result.source.now _ (λ refusal gives text. source_refused refusal gives)
    c.parts_of-parts.ensures.source c.in_err-nest.ensures)

pub returns : goal.returns
returns c =
    prepared_from c.args.params.now c.args.bundle.now c.parts_of-parts.result.source.now
    c.parts_of-parts.result.array_data.now c.in_ok-nest.nest c.with_inputs.result
    c.parts_of-parts.ensures.source c.parts_of-parts.ensures.between c.in_ok-nest.ensures c.with_inputs.ensures
