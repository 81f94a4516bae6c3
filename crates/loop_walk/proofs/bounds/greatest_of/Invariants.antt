use Rattle.std.proofs.Common.{◌≡◌, map, take}
use Rattle.std.specs.List.{fold}
use Rattle.std.specs.Int.{int_max}
use Rattle.affine_core.specs.Affine.{form_at}
use Rattle.loop_walk.proofs.bounds.greatest_of.Given as goal

abbrev pub invariant-loop-form : goal.invariant-loop-form
invariant-loop-form l =
    l.value ≡ fold int_max l.initial.value (map (λ form. form_at form l.at) (take l.form-index l.others))
