use Rattle.std.proofs.lemmas.Result.{err_from_is_err_and}
use Rattle.compaan_top.specs.CertOutcomes.{PrintsCertificate, source_refused}
use Rattle.command_answers.specs.Replying.{JudgesTexts}
use Rattle.compaan_top.proofs.CertificateAnswers.{prints_certificate}
use Rattle.command_answers.proofs.Stops.{without_nest}
use Rattle.compaan_top.proofs.certifying.print_certificate.Goals as goal

pub returns-in_err-nest : goal.returns-in_err-nest
returns-in_err-nest c =
    let stop = err_from_is_err_and c.from_residual.result c.from_residual.ensures.1 in
    rw (stop.1, stop.2)
    (without_nest (JudgesTexts (PrintsCertificate c.args.policy c.args.params.now c.args.bundle.now))
    c.args.params.now c.args.bundle.now c.parts_of-parts.result.source.now _ source_refused
    c.parts_of-parts.ensures.source c.in_err-nest.ensures)

pub returns : goal.returns
returns c = λ text is.
    prints_certificate c.args.policy c.args.params.now c.args.bundle.now c.parts_of-parts.result.source.now text
    c.in_ok-nest.nest _ _ c.parts_of-parts.ensures.source c.in_ok-nest.ensures.0
    c.in_ok-network.ensures.network c.in_ok-network.ensures.certificate is
