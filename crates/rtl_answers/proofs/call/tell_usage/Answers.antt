use Rattle.rtl_answers.specs.Calls.{usage_cut_short, usage_told}
use Rattle.rtl_answers.proofs.call.tell_usage.Goals as goal

pub returns-in-Ok : goal.returns-in-Ok
returns-in-Ok g c = usage_told c.in-Ok.ensures.ok c.in-Ok.ensures.quiet

pub returns-in-Err : goal.returns-in-Err
returns-in-Err g c = usage_cut_short c.in-Err.ensures.front c.in-Err.ensures.cause
