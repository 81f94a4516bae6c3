use Rattle.std.proofs.Common.{◌≡◌, map, take}
use Rattle.loop_bind.specs.Forms.{form_over}
use Rattle.loop_bind.proofs.judge.over_all.Given as goal

abbrev pub invariant-loop-form : goal.invariant-loop-form
invariant-loop-form l = l.all ≡ map (form_over l.depth) (take l.form-index l.forms)
