-- Rows of its context that a tree names, and a Test in whose place one of its branches stands.
use Rattle.std.specs.Prelude.{ℕ, Bool, ◌||◌, List, map, if◌then◌else◌}
use Rattle.std.specs.List.{list_any}
use Rattle.affine_core.specs.declared.form.Form.{Form}
use Rattle.int_polyhedra.specs.declared.system.Proof.{Proof}
use Rattle.source_tree.specs.declared.tree.Tree.{Tree}
use Rattle.source_tree.specs.declared.tree.Tree.TheOpen as layer
use Rattle.source_tree.specs.declared.tree.Tree.TheFolds.{fold-Tree}
use Rattle.source_tree.specs.declared.tree.Tree.TheVariants.{Writer, Zero, Dead}
use Rattle.source_tree.specs.declared.tree.Tree.TheViews.{Test, Divides}
use Rattle.tree_trim.specs.Proofs.{names_row}
use Rattle.tree_trim.specs.Renumbering.{proof_without}

-- whether one of the proofs names row k
abbrev pub proofs_name : ℕ → List Proof → Bool
proofs_name k proofs = list_any (names_row k) proofs

-- the proofs once row k is away
abbrev pub proofs_without : ℕ → List Proof → List Proof
proofs_without k proofs = map (proof_without k) proofs

-- whether a proof of a leaf names row k, or one of a branch does
abbrev pub tree_naming_step : ℕ → layer.Tree-F Bool → Bool
tree_naming_step k (layer.Test form above below) = above || below
tree_naming_step k (layer.Divides form divisor above below) = above || below
tree_naming_step k (layer.Writer s place proofs) = proofs_name k proofs
tree_naming_step k (layer.Zero proofs) = proofs_name k proofs
tree_naming_step k (layer.Dead proof) = names_row k proof

-- whether a proof of the tree names row k of its context
abbrev pub tree_names_row : ℕ → Tree → Bool
tree_names_row k = fold-Tree Bool (tree_naming_step k)

-- a node once row k is away, over branches that are without it
abbrev pub tree_step : ℕ → layer.Tree-F Tree → Tree
tree_step k (layer.Test form above below) = Test form above below
tree_step k (layer.Divides form divisor above below) = Divides form divisor above below
tree_step k (layer.Writer s place proofs) = Writer s place (proofs_without k proofs)
tree_step k (layer.Zero proofs) = Zero (proofs_without k proofs)
tree_step k (layer.Dead proof) = Dead (proof_without k proof)

-- the tree once row k of its context is away
abbrev pub tree_without : ℕ → Tree → Tree
tree_without k = fold-Tree Tree (tree_step k)

-- The first branch of a Test none of whose proofs names the Test's row, which is row k, once that row is
-- away. Where both name it, the Test.
abbrev pub branch_or_test : ℕ → Form → Tree → Tree → Tree
branch_or_test k form above below =
    if tree_names_row k above
    then (if tree_names_row k below then Test form above below else tree_without k below)
    else tree_without k above
