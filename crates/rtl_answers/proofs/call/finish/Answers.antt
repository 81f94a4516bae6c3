use Rattle.std.proofs.Common.{Some}
use Rattle.call_endings.specs.Reads.{source_alone}
use Rattle.call_endings.proofs.Endings.{answer_cut_short, answer_written, stopped}
use Rattle.rtl_answers.specs.Answering.{reply_of}
use Rattle.rtl_answers.specs.Calls.{IsDesignOutcome}
use Rattle.rtl_answers.proofs.call.finish.Goals as goal

pub returns-in-Ok-write_answer : goal.returns-in-Ok-write_answer
returns-in-Ok-write_answer g c = λ order input planned.
    let p = rw c.in-Ok.is at planned in
    answer_written (IsDesignOutcome (Some order)) source_alone input _ _ _ (reply_of c.in-Ok.answer) p.0 p.1
    c.in-Ok-write_answer.ensures.ok c.in-Ok-write_answer.ensures.quiet

pub returns-in-Ok : goal.returns-in-Ok
returns-in-Ok g c = λ order input planned.
    let p = rw c.in-Ok.is at planned in
    answer_cut_short (IsDesignOutcome (Some order)) source_alone input _ _ _ (reply_of c.in-Ok.answer) p.0 p.1
    c.in-Err-write_answer.ensures.front c.in-Err-write_answer.ensures.cause

pub returns : goal.returns
returns g c = λ order input planned.
    stopped (IsDesignOutcome (Some order)) source_alone input _ _ _ (rw c.in-Err.is at planned) c.tell_stop.ensures
