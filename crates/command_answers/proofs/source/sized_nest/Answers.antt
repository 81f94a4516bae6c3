use Rattle.std.proofs.lemmas.Result.{err_from_is_err_and}
use Rattle.command_answers.specs.Source.{within_size}
use Rattle.command_answers.proofs.Sources.{sized_without_nest, sized_without_size}
use Rattle.command_answers.proofs.source.sized_nest.Goals as goal

pub returns-in_err-nest : goal.returns-in_err-nest
returns-in_err-nest c =
    let stop = err_from_is_err_and c.from_residual.result c.from_residual.ensures.1 in
    rw (stop.1, stop.2) (sized_without_nest c.args.source.now c.args.params.now _ c.in_err-nest.ensures)

pub returns-in_err-size_of : goal.returns-in_err-size_of
returns-in_err-size_of c =
    let stop = err_from_is_err_and c.from_residual-in_err-size_of.result c.from_residual-in_err-size_of.ensures.1 in
    rw (stop.1, stop.2) (sized_without_size c.args.source.now c.args.params.now c.in_ok-nest.nest _ c.in_ok-nest.ensures
    c.in_err-size_of.ensures)

pub returns : goal.returns
returns c = (
  within_size c.in_ok-nest.nest c.in_ok-size_of.field-0 c.in_ok-nest.ensures c.in_ok-size_of.ensures.0,
  c.in_ok-size_of.ensures.1,
)
