use Rattle.std.proofs.Common.{◌≡◌, drop, map}
use Rattle.affine_core.specs.Affine.{form_at}
use Rattle.cell_rows.specs.RowPlaces.{place_from}
use Rattle.cell_rows.proofs.places.small_place.Given as goal

abbrev pub invariant-loop-number : goal.invariant-loop-number
invariant-loop-number l =
    place_from l.place (drop l.number l.extents) (map (λ form. form_at form l.values) (drop l.number l.forms))
    ≡ place_from 0 l.extents (map (λ form. form_at form l.values) l.forms)
