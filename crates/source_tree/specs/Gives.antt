-- What a tree gives, over unbounded whole numbers.
use Rattle.std.specs.Prelude.{◌==◌, ◌%◌, ℤ, pos, List, [], ◌∷◌, ◌++◌, map, int_le, unsigned_abs, if◌then◌else◌}
use Rattle.affine_core.specs.declared.form.Form.{Form}
use Rattle.affine_core.specs.Affine.{form_at}
use Rattle.int_polyhedra.specs.Steps.{floor}
use Rattle.source_tree.specs.declared.tree.Found.{Found}
use Rattle.source_tree.specs.declared.tree.Found.TheVariants as found
use Rattle.source_tree.specs.declared.tree.Tree.{Tree}
use Rattle.source_tree.specs.declared.tree.Tree.TheOpen.{Tree-F, Test, Divides, Writer, Zero, Dead}
use Rattle.source_tree.specs.declared.tree.Tree.TheFolds.{fold-Tree}

-- the values of forms
abbrev pub values : List Form → List ℤ → List ℤ
values forms at = map (λ form. form_at form at) forms

-- the form's value divided by d and rounded down
abbrev pub quotient : Form → ℤ → List ℤ → ℤ
quotient form d at = floor (form_at form at) (unsigned_abs d)

-- A Test takes its first tree where the form is at least 0. A Divides takes its first tree where the
-- divisor divides the form's value; for both its trees the quotient is the last variable.
abbrev pub gives_step : Tree-F (List ℤ → Found) → List ℤ → Found
gives_step (Test form above below) at =
    if int_le (pos 0) (form_at form at) then above at else below at
gives_step (Divides form d above below) at =
    if unsigned_abs (form_at form at) % unsigned_abs d == 0
    then above (at ++ quotient form d at ∷ []) else below (at ++ quotient form d at ∷ [])
gives_step (Writer s forms proofs) at = found.At (record { statement = s; at = values forms at })
gives_step (Zero proofs) at = found.Zero
gives_step (Dead proof) at = found.Dead

-- what the tree gives at these loop values of the reader: a point, zero or dead
unfoldable pub gives : Tree → List ℤ → Found
gives = fold-Tree (List ℤ → Found) gives_step
