use Rattle.rtl_answers.proofs.Planned.{ends_at_usage, ends_ordered, ends_without_memory}
use Rattle.rtl_answers.proofs.call.carry_out.Goals as goal

pub returns-in-Ok : goal.returns-in-Ok
returns-in-Ok g c =
    ends_ordered _ c.in-Ok.order _ _ _ _ c.in-Ok.ensures (c.finish.ensures c.in-Ok.order _ c.answer_for-planned.ensures)

pub returns-in-Err-Words : goal.returns-in-Err-Words
returns-in-Err-Words g c =
    ends_at_usage _ _ _ _ _ _ (rw (c.in-Err-Words.is, c.in-Err-Words.field-0-is) at c.read_words.ensures)
    c.tell_usage.ensures

pub returns-in-Err-Memory : goal.returns-in-Err-Memory
returns-in-Err-Memory g c = ends_without_memory _ _ _ _ _ _ _
