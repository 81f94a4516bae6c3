-- How many Tests a tree has on its longest path, one level further down.
--
-- Both trees of a Test have fewer, and leaves have none. A simple tree has no more than it may have.
use Rattle.std.proofs.Common.{◌≡◌, ◌+◌, ◌-◌, ◌≤◌, ◌<◌, ℕ, List, sym, ap, ◌∙◌, arith}
use Rattle.std.specs.Prelude.{max}
use Rattle.std.proofs.Math.Nat.{le-max_left, le-max_right, max-le}
use Rattle.affine_core.specs.declared.form.Form.{Form}
use Rattle.int_polyhedra.specs.declared.system.Proof.{Proof}
use Rattle.tree_graphs.specs.Heights.{height_of, height_step}
use Rattle.tree_graphs.specs.Simple.{IsSimple, at_test, at_writer, at_zero}
use Rattle.source_tree.specs.declared.tree.Tree.{Tree}
use Rattle.source_tree.specs.declared.tree.Tree.TheFolds.{fold-roll-Tree}
use Rattle.source_tree.specs.declared.tree.Tree.TheOpen as open_
use Rattle.source_tree.specs.declared.tree.Tree.TheVariants.{Writer, Zero, Dead}
use Rattle.source_tree.specs.declared.tree.Tree.TheViews.{Test, rolls-Test, rolls-Writer, rolls-Zero, rolls-Dead}

module _ (tree : Tree) where
  pub height_test : (form : Form) (a b : Tree) → tree ≡ Test form a b
      → height_of tree ≡ 1 + max (height_of a) (height_of b)
  unfolding height_of
  height_test form a b e =
      ap height_of (e ∙ sym (rolls-Test form a b)) ∙ fold-roll-Tree ℕ height_step (open_.Test form a b)

  pub height_writer : (s : ℕ) (place : List Form) (proofs : List Proof) → tree ≡ Writer s place proofs
      → height_of tree ≡ 0
  unfolding height_of
  height_writer s place proofs e = ap height_of (e ∙ sym (rolls-Writer s place proofs))
      ∙ fold-roll-Tree ℕ height_step (open_.Writer s place proofs)

  pub height_zero : (proofs : List Proof) → tree ≡ Zero proofs → height_of tree ≡ 0
  unfolding height_of
  height_zero proofs e =
      ap height_of (e ∙ sym (rolls-Zero proofs)) ∙ fold-roll-Tree ℕ height_step (open_.Zero proofs)

  pub height_dead : (proof : Proof) → tree ≡ Dead proof → height_of tree ≡ 0
  unfolding height_of
  height_dead proof e = ap height_of (e ∙ sym (rolls-Dead proof)) ∙ fold-roll-Tree ℕ height_step (open_.Dead proof)

  pub height_sides : (form : Form) (a b : Tree) → tree ≡ Test form a b
      → (height_of a < height_of tree) × (height_of b < height_of tree)
  height_sides form a b e =
      let h = height_test form a b e in (
        omega (arith, h, le-max_left (height_of a) (height_of b)),
        omega (arith, h, le-max_right (height_of a) (height_of b)),
      )

pub height_simple : (m : ℕ) (tree : Tree) → IsSimple m tree → height_of tree ≤ m
height_simple _ _ (at_test tests tree form above below is within upper lower) =
    omega (
      arith,
      height_test tree form above below is,
      max-le (height_simple tests above upper) (height_simple tests below lower),
    )
height_simple _ _ (at_writer m tree s place proofs is within light) = omega (arith, height_writer tree s place proofs is)
height_simple _ _ (at_zero m tree proofs is light) = omega (arith, height_zero tree proofs is)
