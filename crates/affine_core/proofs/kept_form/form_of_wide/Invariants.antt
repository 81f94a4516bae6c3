use Rattle.std.proofs.Common.{◌≡◌, take}
use Rattle.affine_core.proofs.kept_form.form_of_wide.Given as goal

abbrev pub invariant-loop-coef : goal.invariant-loop-coef
invariant-loop-coef l = l.coefs ≡ take l.coef-index l.coef-items
