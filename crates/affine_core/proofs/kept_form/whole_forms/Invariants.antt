use Rattle.std.proofs.Common.{◌≡◌, take}
use Rattle.affine_core.proofs.kept_form.whole_forms.Given as goal

abbrev pub invariant-loop-form : goal.invariant-loop-form
invariant-loop-form l = l.forms.items ≡ take l.form-index l.kept
