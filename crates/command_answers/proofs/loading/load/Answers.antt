use Rattle.std.proofs.Common.{arith, ◌≤◌, ◌∙◌}
use Rattle.std.proofs.lemmas.Result.{err_from_is_err_and}
use Rattle.command_answers.specs.Load.{load_limit}
use Rattle.command_answers.proofs.Loads.{loads_too_many, loads_without_size, loads_summed}
use Rattle.command_answers.proofs.loading.load.Goals as goal

pub returns-then-rows-gt-LOAD_LIMIT : goal.returns-then-rows-gt-LOAD_LIMIT
returns-then-rows-gt-LOAD_LIMIT g c =
    loads_too_many c.args.policy c.args.rows c.too_many_rows.result
    (omega (arith, c.if-rows-gt-LOAD_LIMIT.true)) c.too_many_rows.ensures

pub returns-in_err-size_of : goal.returns-in_err-size_of
returns-in_err-size_of g c =
    let stop = err_from_is_err_and c.from_residual-in_err-size_of.result c.from_residual-in_err-size_of.ensures.1 in
    let few : c.args.rows ≤ load_limit = omega (arith, c.if-rows-gt-LOAD_LIMIT.false) in
    rw (stop.1, stop.2)
    (loads_without_size c.args.policy c.args.rows c.in_ok-nest.nest _ few c.in_ok-nest.ensures c.in_err-size_of.ensures)

pub returns : goal.returns
returns g c =
    let few : c.args.rows ≤ load_limit = omega (arith, c.if-rows-gt-LOAD_LIMIT.false) in
    loads_summed c.args.policy c.args.rows c.in_ok-nest.nest c.in_ok-size_of.field-0 c.in_ok-inputs.inputs
    c.in_ok-run.run'.network c.in_ok-run.run'.arrays.arrays c.summary_of.result
    few c.in_ok-nest.ensures c.in_ok-size_of.ensures.0 c.in_ok-inputs.ensures.cells c.in_ok-run.ensures.network
    c.in_ok-run.ensures.arrays
    (c.summary_of.ensures.points ∙ c.in_ok-run.ensures.entries) c.summary_of.ensures.channels c.summary_of.ensures.events
    c.summary_of.ensures.sum
