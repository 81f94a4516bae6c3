use Rattle.std.proofs.Common.{◌≡◌, take}
use Rattle.affine_core.proofs.kept_form.kept_forms.Given as goal

abbrev pub invariant-loop-form : goal.invariant-loop-form
invariant-loop-form l = l.kept.items ≡ take l.form-index l.forms
