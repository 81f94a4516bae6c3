use Rattle.std.proofs.Common.{◌≡◌, ◌≤◌, ◌+◌, ◌*◌, drop}
use Rattle.std.specs.Prelude.{unsigned_abs}
use Rattle.affine_core.specs.Affine.{combined, form_at}
use Rattle.loop_walk.proofs.bounds.form_value.Given as goal

abbrev pub invariant-loop-place : goal.invariant-loop-place
invariant-loop-place l =
    (combined l.sum (drop l.place l.coefs) (drop l.place l.values) ≡ form_at l.fn.form l.fn.at)
    × (unsigned_abs l.sum ≤ 4294967296 + l.place * 39614081257132168796771975168)
