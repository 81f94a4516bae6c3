-- A cell with another number of subscripts than its array has extents.
use Rattle.std.proofs.Common.{◌≡◌, ◌≢◌, ℕ, suc, ℤ, List, [], ◌∷◌, map, length, refl, ap}
use Rattle.std.specs.Prelude.{Some, None}
use Rattle.std.specs.Option.{option_and_then}
use Rattle.cell_rows.specs.RowPlaces.{place_after, place_from}

-- it has no place
pub no_place : {X : Type 0} (f : X → ℤ) (place : ℕ) (extents : List ℤ) (xs : List X) → length extents ≢ length xs
    → place_from place extents (map f xs) ≡ None
no_place f place [] [] differ = absurd (differ refl)
no_place f place [] (x ∷ xs) differ = refl
no_place f place (extent ∷ extents) [] differ = refl
no_place f place (extent ∷ extents) (x ∷ xs) differ =
    elim (place_after place extent (f x)) as (λ o. option_and_then (λ p. place_from p extents (map f xs)) o ≡ None) [
      | None ↦ refl
      | Some p ↦ no_place f p extents xs (λ e. differ (ap suc e))
    ]
