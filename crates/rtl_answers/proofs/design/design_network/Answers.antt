use Rattle.std.proofs.lemmas.Result.{err_from_is_err_and}
use Rattle.command_answers.proofs.Stops.{without_nest}
use Rattle.rtl_answers.specs.Answering.{as_reply}
use Rattle.rtl_answers.specs.Designing.{Designs, source_refused}
use Rattle.rtl_answers.proofs.Designs.{designs_of}
use Rattle.rtl_answers.proofs.design.design_network.Goals as goal

pub returns-in_err-nest : goal.returns-in_err-nest
returns-in_err-nest c =
    let stop = err_from_is_err_and c.from_residual.result c.from_residual.ensures.1 in
    rw (stop.1, stop.2)
    (without_nest
    (λ answer. Designs c.args.ports c.args.policy c.args.params.now c.args.bundle.now (as_reply answer))
    c.args.params.now c.args.bundle.now c.parts_of-parts.result.source.now _ source_refused
    c.parts_of-parts.ensures.source c.in_err-nest.ensures)

pub returns : goal.returns
returns c =
    designs_of c.args.ports c.args.policy c.args.params.now c.args.bundle.now c.parts_of-parts.result.source.now
    c.in_ok-nest.nest c.design_for.result c.parts_of-parts.ensures.source c.in_ok-nest.ensures.0 c.design_for.ensures
