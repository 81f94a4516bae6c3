use Rattle.command_answers.specs.Replies.{done}
use Rattle.call_endings.proofs.Endings.{answer_cut_short, answer_written, stopped}
use Rattle.compaan_top.specs.Commands.{read_by}
use Rattle.compaan_top.specs.Outcome.{IsOutcome}
use Rattle.compaan_top.proofs.call.finish_certificate.Goals as goal

pub returns-in-Ok-write_cert : goal.returns-in-Ok-write_cert
returns-in-Ok-write_cert g c = λ wanted input planned.
    let p = rw c.in-Ok.is at planned in
    let w = c.in-Ok-write_cert.ensures.text in
    answer_written (IsOutcome wanted) (read_by wanted) input _ _ _ (done w.0) p.0 (p.1 w.0 w.1) w.2
    c.in-Ok-write_cert.ensures.quiet

pub returns-in-Ok : goal.returns-in-Ok
returns-in-Ok g c = λ wanted input planned.
    let p = rw c.in-Ok.is at planned in
    let w = c.in-Err-write_cert.ensures.text in
    answer_cut_short (IsOutcome wanted) (read_by wanted) input _ _ _ (done w.0) p.0 (p.1 w.0 w.1) w.3
    c.in-Err-write_cert.ensures.cause

pub returns : goal.returns
returns g c = λ wanted input planned.
    stopped (IsOutcome wanted) (read_by wanted) input _ _ _ (rw c.in-Err.is at planned) c.tell_stop.ensures
