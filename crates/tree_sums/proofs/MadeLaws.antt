-- Laws of rows as they are made.
use Rattle.std.specs.Prelude.{◌≡◌, ◌<◌, ◌^◌, ℕ, pos, ◌≤◌, List, length, map, Some}
use Rattle.affine_core.specs.declared.form.Form.{Form}
use Rattle.affine_core.specs.Affine.{widened_form}
use Rattle.int_polyhedra.specs.declared.system.Term.{Term}
use Rattle.int_polyhedra.specs.Systems.{AreOver}
use Rattle.tree_sums.specs.Made.{parts_of, reach, TakesWithin}
use Rattle.tree_sums.specs.Parts.{Part, part_of, the_coefficient, IsWithin}
use Rattle.tree_sums.specs.Shown.{Shows, RowParts}
use Rattle.source_tree.specs.Rows.{RowExpr, row_form, row_forms}

-- the form of a row
pub record IsMade (vars bound : ℕ) (e : RowExpr) (row : Form) : Type 0 where
  pub is : row_form vars e ≡ Some row
  pub over : length row.coefs ≡ vars
  pub within : IsWithin (reach bound e) row
  pub parts : (part : Part) → part_of part row ≡ parts_of e part

-- where its numbers are small, a row can be made, and its parts are the sums and multiples of the parts
-- of its forms
abbrev pub SmallIsMade : Type 0
SmallIsMade = (vars bound : ℕ) (e : RowExpr) → TakesWithin vars bound e → reach bound e < 2 ^ 127
    → (row : Form) × IsMade vars bound e row

-- a row that was made has the parts of what it was made from
abbrev pub MadeHasParts : Type 0
MadeHasParts = (vars : ℕ) (e : RowExpr) (row : Form) → row_form vars e ≡ Some row
    → (length row.coefs ≡ vars) × ((part : Part) → part_of part row ≡ parts_of e part)

-- rows that can be made can be made over more variables, and are then the same rows, widened
abbrev pub MadeWidens : Type 0
MadeWidens = (vars more : ℕ) (es : List RowExpr) (rows : List Form) → vars ≤ more
    → row_forms vars es ≡ Some rows → row_forms more es ≡ Some (map (widened_form more) rows)

-- what rows show over their variables they show over more
abbrev pub Widens : Type 0
Widens = (vars more : ℕ) (rows : List Form) (ts : List Term) (a : RowParts) → AreOver vars rows
    → ((i : ℕ) → vars ≤ i → a (the_coefficient i) ≡ pos 0)
    → Shows vars rows ts a → Shows more (map (widened_form more) rows) ts a
