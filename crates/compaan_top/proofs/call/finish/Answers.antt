use Rattle.command_answers.specs.Replying.{reply_of}
use Rattle.call_endings.proofs.Endings.{answer_cut_short, answer_written, stopped}
use Rattle.compaan_top.specs.Commands.{read_by}
use Rattle.compaan_top.specs.Outcome.{IsOutcome}
use Rattle.compaan_top.proofs.call.finish.Goals as goal

pub returns-in-Ok-write_text : goal.returns-in-Ok-write_text
returns-in-Ok-write_text g c = λ wanted input planned.
    let p = rw c.in-Ok.is at planned in
    rw c.status_of.ensures
    (answer_written (IsOutcome wanted) (read_by wanted) input _ _ _
    (reply_of c.in-Ok.answer) p.0 p.1 c.in-Ok-write_text.ensures.ok c.in-Ok-write_text.ensures.quiet)

pub returns-in-Ok : goal.returns-in-Ok
returns-in-Ok g c = λ wanted input planned.
    let p = rw c.in-Ok.is at planned in
    answer_cut_short (IsOutcome wanted) (read_by wanted) input _ _ _ (reply_of c.in-Ok.answer) p.0 p.1
    c.in-Err-write_text.ensures.front c.in-Err-write_text.ensures.cause

pub returns : goal.returns
returns g c = λ wanted input planned.
    stopped (IsOutcome wanted) (read_by wanted) input _ _ _ (rw c.in-Err.is at planned) c.tell_stop.ensures
