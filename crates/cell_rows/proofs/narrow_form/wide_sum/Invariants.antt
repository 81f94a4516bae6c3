use Rattle.std.proofs.Common.{◌≡◌, ◌≤◌, ◌+◌, ◌*◌, drop}
use Rattle.std.specs.Prelude.{unsigned_abs}
use Rattle.affine_core.specs.Affine.{combined}
use Rattle.cell_rows.proofs.narrow_form.wide_sum.Given as goal

abbrev pub invariant-loop-place : goal.invariant-loop-place
invariant-loop-place l =
    (combined l.sum (drop l.place l.coefs) (drop l.place l.values) ≡ combined l.fn.constant l.coefs l.values)
    × (unsigned_abs l.sum ≤ 4294967296 + l.place * 39614081257132168796771975168)
