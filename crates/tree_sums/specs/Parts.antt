-- The parts of a row, its constant and its coefficients, and sums of them with multipliers.
use Rattle.std.specs.Prelude.{◌≤◌, ℕ, ◌+◌, ℤ, pos, ◌+ℤ◌, ◌*ℤ◌, List, [], ◌∷◌, All, map, slice_get, slice_index_or, unsigned_abs}
use Rattle.std.specs.Option.{option_map_or}
use Rattle.affine_core.specs.declared.form.Form.{Form}
use Rattle.int_polyhedra.specs.declared.system.Term.{Term}

pub data Part : Type 0 where
  the_constant : Part
  the_coefficient : ℕ → Part

abbrev pub part_of : Part → Form → ℤ
part_of the_constant f = f.constant
part_of (the_coefficient i) f = slice_index_or f.coefs i (pos 0)

-- this part of the row with this number
abbrev pub row_part : List Form → Part → ℕ → ℤ
row_part rows part k = option_map_or (part_of part) (slice_get rows k) (pos 0)

-- the sum of the numbers of rows, each with its multiplier
abbrev pub weighted_sum : (ℕ → ℤ) → List Term → ℤ
weighted_sum number [] = pos 0
weighted_sum number (t ∷ ts) = (number t.row *ℤ t.times) +ℤ weighted_sum number ts

-- the sum of the multipliers' sizes
abbrev pub weight : List Term → ℕ
weight [] = 0
weight (t ∷ ts) = unsigned_abs t.times + weight ts

-- each term so many times
abbrev pub term_products : ℤ → List Term → List Term
term_products by ts = map (λ t. record { row = t.row; times = t.times *ℤ by }) ts

-- no number of the form is farther from 0
pub record IsWithin (bound : ℕ) (f : Form) : Type 0 where
  pub constant : unsigned_abs f.constant ≤ bound
  pub coefs : All (λ c. unsigned_abs c ≤ bound) f.coefs
