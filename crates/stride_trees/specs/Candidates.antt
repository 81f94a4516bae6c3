-- The tree of one writer at one level before a read of the stride class.
use Rattle.std.specs.Prelude.{◌≡◌, ◌^◌, ◌+◌, ℕ, List, [], ◌∷◌, ◌++◌, length, All, Some}
use Rattle.affine_core.specs.declared.form.Form.{Form}
use Rattle.affine_core.specs.Affine.{widened_form}
use Rattle.int_polyhedra.specs.declared.system.Proof.{Proof}
use Rattle.tree_graphs.specs.Joint.{later_systems, none_systems}
use Rattle.tree_sums.specs.Parts.{IsWithin}
use Rattle.source_tree.specs.Rows.{RowSystem, row_forms}
use Rattle.source_tree.specs.Systems.{Context, Occurrence, after_systems, cell_systems, divides_no, divides_yes, outside_systems, root_context, test_no, test_yes, with_write_at}
use Rattle.source_tree.specs.declared.tree.Tree.{Tree}
use Rattle.source_tree.specs.declared.tree.Tree.TheVariants.{Writer, Zero}
use Rattle.source_tree.specs.declared.tree.Tree.TheViews.{Divides, Test}
use Rattle.tree_cuts.specs.Cuts.{IsCutSum}
use Rattle.stride_trees.specs.Divisions.{divided_context, divisions_from}
use Rattle.stride_trees.specs.declared.divisions.Division.{Division}

-- a proof of a system is Cuts and a Sum; the system's order rows are those from this number on
pub record IsCutSumOf (order : ℕ) (system : RowSystem) (proof : Proof) : Type 0 where
  pub rows : List Form
  pub are_made : row_forms system.vars system.rows ≡ Some rows
  pub is_cut_sum : IsCutSum system.vars rows order proof

-- one such proof for each system
abbrev pub AreCutSums : ℕ → List RowSystem → List Proof → Type 0
AreCutSums order [] [] = Unit {0}
AreCutSums order [] (proof ∷ proofs) = ⊥
AreCutSums order (system ∷ systems) [] = ⊥
AreCutSums order (system ∷ systems) (proof ∷ proofs) =
    IsCutSumOf order system proof × AreCutSums order systems proofs

-- the order rows of a write before a read stand behind so many rows
abbrev pub order_number : Occurrence → Occurrence → Context → ℕ
order_number r w c = length (with_write_at r c w).rows

-- the proofs of a Zero leaf for a write at level p before a read are such
abbrev pub AreNoneCutSums : Occurrence → Occurrence → ℕ → Context → List Proof → Type 0
AreNoneCutSums r w p c proofs = AreCutSums (order_number r w c) (none_systems r w p c) proofs

-- The proofs of a Writer leaf for a write at level p before a read are such. That its place is outside the domain or
-- writes another cell is one row behind the context, that it is not before the read are order rows behind the context,
-- and a write between it and the read has the order rows last.
pub record AreWriterCutSums (r w : Occurrence) (p : ℕ) (c : Context) (place : List Form)
    (proofs : List Proof) : Type 0 where
  pub of_place : List Proof
  pub after : List Proof
  pub later : List Proof
  pub are : proofs ≡ of_place ++ (after ++ later)
  pub place_cuts : AreCutSums (length c.rows + 1)
      (outside_systems c w place ++ cell_systems r c w place) of_place
  pub after_cuts : AreCutSums (length c.rows) (after_systems r c w place) after
  pub later_cuts : AreCutSums (order_number r w c) (later_systems r w p c place) later

-- A tree without Divides and Dead leaves, with at most so many Tests on a path, for a write at level p before a
-- read. The numbers of its forms lie within 2^48, and each proof is Cuts and a Sum.
pub data IsCutTree (r w : Occurrence) (p : ℕ) : ℕ → Context → Tree → Type 0 where
  at_test : (tests : ℕ) (c : Context) (tree : Tree) (form : Form) (above below : Tree)
      → tree ≡ Test form above below → IsWithin (2 ^ 48) form
      → IsCutTree r w p tests (test_yes c form) above → IsCutTree r w p tests (test_no c form) below
      → IsCutTree r w p (tests + 1) c tree
  at_writer : (tests : ℕ) (c : Context) (tree : Tree) (s : ℕ) (place : List Form)
      (proofs : List Proof) → tree ≡ Writer s place proofs → All (IsWithin (2 ^ 48)) place
      → AreWriterCutSums r w p c place proofs
      → IsCutTree r w p tests c tree
  at_zero : (tests : ℕ) (c : Context) (tree : Tree) (proofs : List Proof) → tree ≡ Zero proofs
      → AreNoneCutSums r w p c proofs
      → IsCutTree r w p tests c tree

-- The tree is these tests of divisibility, each the yes tree of the one before it, and then this tree. Each no tree
-- is a Zero leaf, whose proofs are Cuts and a Sum.
abbrev pub HasTests : Occurrence → Occurrence → ℕ → Tree → Context → List Division → Tree → Type 0
HasTests r w p last c [] tree = tree ≡ last
HasTests r w p last c (d ∷ ds) tree =
    (above : Tree) × (proofs : List Proof)
    × (tree ≡ Divides (widened_form c.vars d.form) d.divisor above (Zero proofs))
    × AreNoneCutSums r w p (divides_no c (widened_form c.vars d.form) d.divisor) proofs
    × HasTests r w p last (divides_yes c (widened_form c.vars d.form) d.divisor) ds above

-- A tree begins with the tests of divisibility for a write at level p before a read, one for each of the write's
-- subscripts with a coefficient outside -1 to 1, in order. Below them it has no Divides, and at most so many Tests
-- stand on a path.
pub record IsStrideTree (r w : Occurrence) (p tests : ℕ) (tree : Tree) : Type 0 where
  pub last : Tree
  pub divides : HasTests r w p last (root_context r)
      (divisions_from 0 w.access.subscripts r.access.subscripts) tree
  pub below : IsCutTree r w p tests
      (divided_context (root_context r) (divisions_from 0 w.access.subscripts r.access.subscripts))
      last
