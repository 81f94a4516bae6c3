use Rattle.std.proofs.Common.{ℕ, List, Ok, sym, subst}
use Rattle.std.proofs.lemmas.Result.{err_from_is_err_and}
use Rattle.trace_text.specs.TraceText.{trace_text}
use Rattle.command_answers.specs.Replies.{done}
use Rattle.command_answers.specs.Replying.{as_reply}
use Rattle.command_answers.specs.Tracing.{Traces, source_refused, traced}
use Rattle.command_answers.proofs.Stops.{nest_is, without_nest}
use Rattle.command_answers.proofs.tracing.trace_network.Goals as goal

pub returns-in_err-nest : goal.returns-in_err-nest
returns-in_err-nest g c =
    let stop = err_from_is_err_and c.from_residual.result c.from_residual.ensures.1 in
    rw (stop.1, stop.2)
    (without_nest (λ answer. Traces c.args.policy c.args.params.now c.args.bundle.now (as_reply answer))
    c.args.params.now c.args.bundle.now c.parts_of-parts.result.source.now _ source_refused
    c.parts_of-parts.ensures.source c.in_err-nest.ensures)

pub returns : goal.returns
returns g c =
    subst (λ (run : List ℕ). Traces c.args.policy c.args.params.now c.args.bundle.now (Ok (done (trace_text run))))
    (sym c.from_vec.ensures)
    (traced c.in_ok-nest.nest _
    (nest_is c.args.params.now c.args.bundle.now c.parts_of-parts.result.source.now (Ok c.in_ok-nest.nest)
    c.parts_of-parts.ensures.source c.in_ok-nest.ensures.0)
    c.in_ok-run.ensures)
