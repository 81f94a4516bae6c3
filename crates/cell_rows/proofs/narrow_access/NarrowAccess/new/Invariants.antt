use Rattle.std.proofs.Common.{◌≡◌, take}
use Rattle.cell_rows.proofs.narrow_access.NarrowAccess.new.Given as goal

abbrev pub invariant-loop-form : goal.invariant-loop-form
invariant-loop-form l = l.subscripts ≡ take l.form-index l.form-items
