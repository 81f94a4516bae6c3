use Rattle.std.proofs.Common.{◌≡◌, length, take}
use Rattle.affine_core.proofs.kept_form.narrowed.Given as goal

abbrev pub invariant-loop-at : goal.invariant-loop-at
invariant-loop-at l = (length l.narrow ≡ 13) × (take l.at l.narrow ≡ take l.at l.coefs)
