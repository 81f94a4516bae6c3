-- What is in place of a row, where sums stand in place of the first rows and so many rows behind them have places behind a
-- context.
--
-- A row among the first has its sum, one of those behind it is itself at its place, once, and past them there is nothing.
use Rattle.std.proofs.Common.{◌≡◌, ◌+◌, ◌-◌, ◌<◌, ◌≤◌, ℕ, ℤ, pos, ◌*ℤ◌, List, [], ◌∷◌, ◌++◌, length, length-append, refl, ap, ◌∙◌, arith}
use Rattle.std.specs.Option.{option_map_or}
use Rattle.std.proofs.lemmas.Int.{ints}
use Rattle.std.proofs.lemmas.List.FromFn.{length-map-range_with_len}
use Rattle.std.proofs.lemmas.Option.{slice_get_past}
use Rattle.tree_order.specs.Positions.{own_sums}
use Rattle.tree_order.proofs.PointSystems.{own_at, placed_right}
use Rattle.tree_graphs.specs.Paths.{term_of}
use Rattle.int_polyhedra.specs.declared.system.Term.{Term}
use Rattle.tree_sums.specs.Carried.{sum_in_place}
use Rattle.tree_sums.specs.Parts.{term_products}

pub place_behind : (rows : List (List Term)) (here further row : ℕ) → length rows ≤ row → row - length rows < further
    → sum_in_place (rows ++ own_sums here further) row ≡ term_of (here + (row - length rows)) ∷ []
place_behind rows here further row past few =
    let is : row ≡ length rows + (row - length rows) = omega (arith, past) in
    ap (sum_in_place (rows ++ own_sums here further)) is
    ∙ placed_right rows (own_sums here further) (length rows) (row - length rows) refl
    ∙ own_at here further (row - length rows) few

pub place_past : (rows : List (List Term)) (here further row : ℕ) → length rows ≤ row → further ≤ row - length rows
    → sum_in_place (rows ++ own_sums here further) row ≡ []
place_past rows here further row past far =
    let own : List (List Term) = own_sums here further in
    let count : length own ≡ further = length-map-range_with_len (λ row. term_of row ∷ []) here further in
    ap (λ o. option_map_or (λ ts. ts) o [])
    (slice_get_past (rows ++ own) row (omega (arith, past, far, count, length-append rows own)))

abbrev one_term : ℕ → ℤ → List Term
one_term row times = record { row = row; times = times } ∷ []

-- a row by itself, a number of times
pub products_once : (by : ℤ) (row : ℕ) → term_products by (term_of row ∷ []) ≡ record { row = row; times = by } ∷ []
products_once by row =
    let same : pos 1 *ℤ by ≡ by = omega (arith, ints) in
    ap (one_term row) same
