use Rattle.std.proofs.Common.{◌≡◌, take}
use Rattle.tree_join.proofs.leaf.copy_forms.Given as goal

abbrev pub invariant-loop-form : goal.invariant-loop-form
invariant-loop-form l = l.copies ≡ take l.form-index l.forms
