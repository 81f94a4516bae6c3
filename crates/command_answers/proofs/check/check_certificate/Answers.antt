use Rattle.std.proofs.Common.{sym}
use Rattle.std.proofs.lemmas.Result.{err_from_is_err_and}
use Rattle.cert_text.specs.FoldedCerts.{whole_cert}
use Rattle.command_answers.specs.Checking.{Checks, part_missing, source_refused}
use Rattle.command_answers.specs.Replying.{as_reply}
use Rattle.command_answers.proofs.CheckAnswers.{checks_judged, checks_unread}
use Rattle.command_answers.proofs.Stops.{without_nest}
use Rattle.command_answers.proofs.check.check_certificate.Goals as goal

pub returns-in_default : goal.returns-in_default
returns-in_default c = part_missing (sym (rw c.in_default.is at c.parts_of-parts.ensures.certificate))

pub returns-in_err-nest : goal.returns-in_err-nest
returns-in_err-nest c =
    let stop = err_from_is_err_and c.from_residual.result c.from_residual.ensures.1 in
    rw (stop.1, stop.2)
    (without_nest (λ answer. Checks c.args.params.now c.args.bundle.now (as_reply answer))
    c.args.params.now c.args.bundle.now c.parts_of-parts.result.source.now _
    (λ refusal gives. source_refused c.in-Some.part.now refusal
    (sym (rw c.in-Some.is at c.parts_of-parts.ensures.certificate)) gives)
    c.parts_of-parts.ensures.source c.in_err-nest.ensures)

pub verdict_on-requires-clause-numbers : goal.verdict_on-requires-clause-numbers
verdict_on-requires-clause-numbers c = c.in-Ok.ensures.few

pub returns-in-Ok : goal.returns-in-Ok
returns-in-Ok c =
    checks_judged c.args.params.now c.args.bundle.now c.parts_of-parts.result.source.now c.in-Some.part.now
    c.in_ok-nest.nest c.in-Ok.network (whole_cert c.in-Ok.cert) _ c.parts_of-parts.ensures.source
    (sym (rw c.in-Some.is at c.parts_of-parts.ensures.certificate)) c.in_ok-nest.ensures.0 c.in-Ok.ensures.exact
    c.in_ok-verdict-in-Ok.ensures

pub returns : goal.returns
returns c =
    checks_unread c.args.params.now c.args.bundle.now c.parts_of-parts.result.source.now c.in-Some.part.now
    c.in_ok-nest.nest c.in-Err.error c.unread.result c.parts_of-parts.ensures.source
    (sym (rw c.in-Some.is at c.parts_of-parts.ensures.certificate)) c.in_ok-nest.ensures.0
    c.in-Err.ensures.exact c.unread.ensures
