use Rattle.std.proofs.lemmas.Result.{err_from_is_err_and}
use Rattle.std.proofs.Common.{Ok, refl, sym, subst}
use Rattle.command_answers.specs.Printing.{Prints, network_text, source_refused}
use Rattle.command_answers.specs.Replies.{Reply}
use Rattle.command_answers.specs.Replying.{as_reply}
use Rattle.command_answers.proofs.TextAnswers.{prints_text}
use Rattle.command_answers.proofs.Stops.{without_nest}
use Rattle.command_answers.proofs.printing.print_network.Goals as goal

pub returns-in_err-nest : goal.returns-in_err-nest
returns-in_err-nest c =
    let stop = err_from_is_err_and c.from_residual.result c.from_residual.ensures.1 in
    rw (stop.1, stop.2)
    (without_nest
    (λ answer. Prints (network_text c.args.policy) c.args.params.now c.args.bundle.now (as_reply answer))
    c.args.params.now c.args.bundle.now c.parts_of-parts.result.source.now _ source_refused
    c.parts_of-parts.ensures.source c.in_err-nest.ensures)

pub returns : goal.returns
returns c =
    subst (λ (reply : Reply). Prints (network_text c.args.policy) c.args.params.now c.args.bundle.now (Ok reply))
    (sym c.in_ok-answer.ensures)
    (prints_text (network_text c.args.policy) c.args.params.now c.args.bundle.now c.parts_of-parts.result.source.now _
    c.in_ok-nest.nest c.parts_of-parts.ensures.source c.in_ok-nest.ensures.0 refl)
