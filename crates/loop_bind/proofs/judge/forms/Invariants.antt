use Rattle.std.proofs.Common.{◌≡◌, take}
use Rattle.std.specs.Prelude.{IsTrue}
use Rattle.std.specs.List.{list_all}
use Rattle.loop_bind.specs.Forms.{is_limited}
use Rattle.loop_bind.specs.Judging.{forms_of, findings_of}
use Rattle.loop_bind.specs.Reasons.{least_from}
use Rattle.loop_bind.proofs.judge.forms.Given as goal

abbrev pub invariant-loop-operand : goal.invariant-loop-operand
invariant-loop-operand l =
    (l.forms ≡ forms_of l.place l.scope (take l.operand-index l.operands))
    × (l.least ≡ least_from l.initial.least (findings_of l.place l.scope (take l.operand-index l.operands)))
    × IsTrue (list_all is_limited l.forms)
