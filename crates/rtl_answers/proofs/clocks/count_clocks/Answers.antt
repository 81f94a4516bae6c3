use Rattle.std.proofs.Common.{ap}
use Rattle.std.proofs.lemmas.Result.{err_from_is_err_and}
use Rattle.command_answers.specs.Printing.{Prints, source_refused}
use Rattle.command_answers.proofs.Stops.{without_nest}
use Rattle.command_answers.proofs.TextAnswers.{prints_text}
use Rattle.rtl_answers.specs.Answering.{as_reply}
use Rattle.rtl_answers.specs.Clocking.{clocks_lines, clocks_text}
use Rattle.rtl_answers.proofs.clocks.count_clocks.Goals as goal

pub returns-in_err-nest : goal.returns-in_err-nest
returns-in_err-nest c =
    let stop = err_from_is_err_and c.from_residual.result c.from_residual.ensures.1 in
    rw (stop.1, stop.2)
    (without_nest
    (λ answer. Prints (clocks_text c.args.ports c.args.policy) c.args.params.now c.args.bundle.now (as_reply answer))
    c.args.params.now c.args.bundle.now c.parts_of-parts.result.source.now _ source_refused
    c.parts_of-parts.ensures.source c.in_err-nest.ensures)

pub returns : goal.returns
returns c =
    prints_text (clocks_text c.args.ports c.args.policy) c.args.params.now c.args.bundle.now c.parts_of-parts.result.source.now _
    c.in_ok-nest.nest c.parts_of-parts.ensures.source c.in_ok-nest.ensures.0 (ap clocks_lines c.in_ok-told.ensures)
