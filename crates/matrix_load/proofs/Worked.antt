-- The size 2, computed from the definitions.
use Rattle.std.proofs.Common.{◌≡◌, pos, negsuc, [], ◌∷◌, refl}
use Rattle.std.specs.Int.{int_wrap}
use Rattle.matrix_load.specs.Cells.{matrix_inputs}
use Rattle.matrix_load.specs.Summary.{wrapping_sum}

inputs : matrix_inputs 2
    ≡ (negsuc 1 ∷ pos 5 ∷ pos 1 ∷ negsuc 2 ∷ []) ∷ (negsuc 4 ∷ pos 0 ∷ pos 5 ∷ negsuc 2 ∷ []) ∷ [] ∷ []
inputs = refl

sum : wrapping_sum (pos 35 ∷ negsuc 14 ∷ negsuc 19 ∷ pos 9 ∷ []) ≡ pos 9
unfolding int_wrap
sum = refl

wrapped : wrapping_sum (pos 9223372036854775807 ∷ pos 1 ∷ []) ≡ negsuc 9223372036854775807
unfolding int_wrap
wrapped = refl
