-- Branches of a Test, checked in their contexts for these reads and writes.
use Rattle.std.specs.Prelude.{◌≡◌, ◌^◌, ◌+◌, ℕ, List, false, length, Some}
use Rattle.affine_core.specs.declared.form.Form.{Form}
use Rattle.tree_graphs.specs.Joint.{IsTreeFor, ReadAndWrite}
use Rattle.int_polyhedra.specs.declared.system.System.{System}
use Rattle.int_polyhedra.specs.Steps.{negation_of}
use Rattle.tree_graphs.specs.Facts.{with_form}
use Rattle.tree_sums.specs.Parts.{IsWithin}
use Rattle.source_tree.specs.declared.tree.Tree.{Tree}
use Rattle.tree_trim.specs.Trees.{tree_names_row}

-- a branch with one more row than this context, which is row k and which no proof of the branch names
pub record IsJoinedBranch (pairs : List ReadAndWrite) (context : System) (k : ℕ) (row : Form)
    (tree : Tree) : Type 0 where
  pub number : k ≡ length context.rows
  pub over : length row.coefs ≡ context.vars
  pub joined : IsTreeFor pairs (with_form context row) tree
  pub unnamed : tree_names_row k tree ≡ false

-- the Test's row, which is row k of their contexts, stands behind the rows of this one
pub record AreJoinedSides (pairs : List ReadAndWrite) (context : System) (k : ℕ) (form : Form)
    (above below : Tree) : Type 0 where
  pub row : k ≡ length context.rows
  pub over : length form.coefs ≡ context.vars
  pub within : IsWithin (2 ^ 49 + 1) form
  pub above_is : IsTreeFor pairs (with_form context form) above
  pub below_is : (other : Form) → negation_of form ≡ Some other
      → IsTreeFor pairs (with_form context other) below
