use Rattle.std.proofs.Common.{◌∙◌}
use Rattle.std.proofs.lemmas.List.{take_all}
use Rattle.tree_join.proofs.leaf.copy_forms.Goals as goal

pub returns : goal.returns
returns c = c.loop-form.invariant ∙ take_all c.loop-form.form-index c.args.forms.now c.loop-form-test.false
