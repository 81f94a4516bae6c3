-- Loop values with commas between them.
use Rattle.std.proofs.Common.{◌≡◌, ℤ, List, [], ◌∷◌, ◌++◌, append-nil, sym, ap}
use Rattle.std.specs.Fmt.{signed_decimal}
use Rattle.std.specs.List.{flat_map}
use Rattle.point_text.specs.PointText.{values_text}

-- the first value, and then each other behind a comma
pub values_joined : (first : ℤ) (others : List ℤ)
    → values_text (first ∷ others) ≡ signed_decimal first ++ flat_map (λ value. 44 ∷ signed_decimal value) others
values_joined first [] = sym (append-nil (signed_decimal first))
values_joined first (second ∷ others) = ap (λ text. signed_decimal first ++ 44 ∷ text) (values_joined second others)
