use Rattle.std.proofs.Common.{◌≡◌, take}
use Rattle.loop_bind.proofs.affine.Affine.over.Given as goal

abbrev pub invariant-loop-coef : goal.invariant-loop-coef
invariant-loop-coef l = l.coefs ≡ take l.coef-index l.coef-items
