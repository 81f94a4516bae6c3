-- Rows replaced by sums of other rows.
use Rattle.std.specs.Prelude.{ℕ, ℤ, ◌*ℤ◌, List, [], ◌∷◌, ◌++◌, FitsSigned, slice_get}
use Rattle.std.specs.Option.{option_map_or}
use Rattle.std.specs.Int.{w128}
use Rattle.int_polyhedra.specs.declared.system.Term.{Term}
use Rattle.tree_sums.specs.Parts.{term_products}

-- the terms, where each row is replaced by a sum
abbrev pub carried_terms : (ℕ → List Term) → List Term → List Term
carried_terms in_place [] = []
carried_terms in_place (t ∷ ts) =
    term_products t.times (in_place t.row) ++ carried_terms in_place ts

-- the sum in place of a row
abbrev pub sum_in_place : List (List Term) → ℕ → List Term
sum_in_place sums row = option_map_or (λ ts. ts) (slice_get sums row) []

-- multiples that stay within 128 bits
abbrev pub ProductsFit : ℤ → List Term → Type 0
ProductsFit by [] = Unit {0}
ProductsFit by (t ∷ ts) = FitsSigned w128 (t.times *ℤ by) × ProductsFit by ts

-- the products stay within 128 bits where each row is replaced by a sum of other rows
abbrev pub CarryFits : List (List Term) → List Term → Type 0
CarryFits sums [] = Unit {0}
CarryFits sums (t ∷ ts) = ProductsFit t.times (sum_in_place sums t.row) × CarryFits sums ts
