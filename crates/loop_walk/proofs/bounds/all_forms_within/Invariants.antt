use Rattle.std.proofs.Common.{◌≡◌, take, true}
use Rattle.sanlp.specs.Size.{all_within}
use Rattle.loop_walk.proofs.bounds.all_forms_within.Given as goal

abbrev pub invariant-loop-form : goal.invariant-loop-form
invariant-loop-form l = all_within (take l.form-index l.forms) l.at ≡ true
