use Rattle.std.proofs.Common.{◌≡◌, map, take}
use Rattle.affine_core.specs.Affine.{form_at}
use Rattle.cell_rows.proofs.narrow_access.NarrowAccess.cell.Given as goal

abbrev pub invariant-loop-form : goal.invariant-loop-form
invariant-loop-form l = l.subscripts ≡ map (λ form. form_at form l.at) (take l.form-index l.form-items)
