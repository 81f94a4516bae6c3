-- Loop bounds, guards and iteration domains. This file names no `Nest`.
use Rattle.std.specs.Prelude.{ℤ, pos, ◌+ℤ◌, ◌-ℤ◌, ◌*ℤ◌, Bool, List, [], ◌∷◌, map, if◌then◌else◌}
use Rattle.std.specs.List.{fold, list_all, take_while}
use Rattle.std.specs.Int.{int_min, int_max}
use Rattle.std.specs.Int.RustNames.{int_le}
use Rattle.std.specs.Ordering.{int_eq}
use Rattle.affine_core.specs.declared.form.Form.{Form}
use Rattle.affine_core.specs.Affine.{form_at}
use Rattle.sanlp.specs.Cells.{natural, counted}

abbrev pub greatest : List ℤ → ℤ
greatest [] = pos 0
greatest (x ∷ xs) = fold int_max x xs

abbrev pub least : List ℤ → ℤ
least [] = pos 0
least (x ∷ xs) = fold int_min x xs

-- the whole numbers from a up to and with b
abbrev pub interval : ℤ → ℤ → List ℤ
interval a b = counted a (natural (b +ℤ pos 1 -ℤ a))

-- the turns from 0 upwards, as long as `first + step * turn` is at most `last`; where the step is at
-- least 1, none is past `last - first`
abbrev pub turns_up_to : ℤ → ℤ → ℤ → List ℤ
turns_up_to first last step =
    take_while (λ turn. int_le (first +ℤ (step *ℤ turn)) last) (interval (pos 0) (last -ℤ first))

-- The values of a loop's variable. A loop of step 1 runs it from the greatest lower form to the least
-- upper form. A loop of a step above 1 has one lower form; its variable is the turn, from 0 upwards, as
-- long as the lower form plus `step` times the turn is at most every upper form.
abbrev pub loop_values : List Form → List Form → ℤ → List ℤ → List ℤ
loop_values lower upper step at =
    let first = greatest (map (λ form. form_at form at) lower) in
    let last = least (map (λ form. form_at form at) upper) in
    if int_eq step (pos 1) then interval first last else turns_up_to first last step

-- every row holds: its form is at least 0
abbrev pub all_hold : List Form → List ℤ → Bool
all_hold rows at = list_all (λ form. int_le (pos 0) (form_at form at)) rows
