use Rattle.std.proofs.Common.{◌≡◌, map, take}
use Rattle.std.specs.Prelude.{IsTrue}
use Rattle.std.specs.List.{list_all}
use Rattle.loop_bind.specs.Forms.{lowered_form}
use Rattle.loop_bind.specs.Ranges.{is_bound_form}
use Rattle.loop_bind.proofs.rows.lower_all.Given as goal

abbrev pub invariant-loop-form : goal.invariant-loop-form
invariant-loop-form l = (l.all ≡ map lowered_form (take l.form-index l.forms)) × IsTrue (list_all is_bound_form l.all)
