use Rattle.std.proofs.Common.{◌∙◌}
use Rattle.call_endings.proofs.Endings.{no_words}
use Rattle.rtl_answers.proofs.program.run_design_program.Goals as goal

pub returns-in-Ok : goal.returns-in-Ok
returns-in-Ok g c =
    rw (c.in-Ok.is, c.from.ensures) (rw c.as_slice.ensures.value at c.compaan_rtl-number.ensures)

pub returns-in-Err : goal.returns-in-Err
returns-in-Err g c = rw c.in-Err.is (no_words _ _ _ _ _ _ (c.from-in-Err.ensures ∙ c.number.ensures))
