-- What a sum of rows shows.
use Rattle.std.specs.Prelude.{◌≡◌, ◌<◌, ◌≤ℤ◌, ◌<ℤ◌, ℕ, ℤ, pos, List, [], ◌∷◌, ◌++◌, length, All}
use Rattle.affine_core.specs.declared.form.Form.{Form}
use Rattle.int_polyhedra.specs.declared.system.Term.{Term}
use Rattle.tree_sums.specs.Parts.{Part, the_constant, the_coefficient, row_part, weighted_sum}

-- a row that need not have been made: each of its parts
abbrev pub RowParts : Type 0
RowParts = Part → ℤ

-- The terms name rows, no multiplier is below 0, and their sum is the row, less a number that is not
-- below 0.
pub record Shows (vars : ℕ) (rows : List Form) (ts : List Term) (row : RowParts) : Type 0 where
  pub name_rows : All (λ t. t.row < length rows) ts
  pub not_negative : All (λ t. pos 0 ≤ℤ t.times) ts
  pub at_most : weighted_sum (row_part rows the_constant) ts ≤ℤ row the_constant
  pub same : (i : ℕ) → i < vars
      → weighted_sum (row_part rows (the_coefficient i)) ts ≡ row (the_coefficient i)

-- a negative number
pub record IsNegative (vars : ℕ) (row : RowParts) : Type 0 where
  pub negative : row the_constant <ℤ pos 0
  pub no_variable : (i : ℕ) → i < vars → row (the_coefficient i) ≡ pos 0

-- the terms, and the last row once
abbrev pub with_last : List Form → List Term → List Term
with_last rows ts = ts ++ record { row = length rows; times = pos 1 } ∷ []
