-- Sums of rows, added one after the other.
use Rattle.std.specs.Prelude.{◌≡◌, ◌<◌, ◌≤ℤ◌, pos, List, length, All, Some}
use Rattle.affine_core.specs.declared.form.Form.{Form}
use Rattle.int_polyhedra.specs.declared.system.Term.{Term}
use Rattle.int_polyhedra.specs.Steps.{sum_onto}

-- the terms name rows, none has a multiplier below 0, and this is the sum of what comes before and their rows
pub record IsSumOnto (rows : List Form) (before : Form) (terms : List Term) (sum : Form)
    : Type 0 where
  pub name_rows : All (λ term. term.row < length rows) terms
  pub not_negative : All (λ term. pos 0 ≤ℤ term.times) terms
  pub is : sum_onto rows before terms ≡ Some sum
