-- A tree without a row is as high as it was, and what trimming leaves of a Test is no higher than the Test.
--
-- A row that is taken away changes proofs, and a height counts none. By induction over the tree: a leaf stays a leaf of
-- height 0, and a Test or a Divides is one higher than the higher of its branches, which have kept their heights. So it
-- holds at any row, named or not, and says nothing of what the tree is worth without it. Of a Test one branch is left,
-- which is lower than the Test, or the Test itself; it may be lower by more than one, so this is a bound and no
-- equality.
use Rattle.std.proofs.Common.{◌≡◌, ◌+◌, ◌≤◌, ℕ, ℤ, refl, sym, ap, subst, ◌∙◌, inl, inr, arith}
use Rattle.std.specs.Prelude.{max}
use Rattle.std.proofs.lemmas.Bool.{cases_Bool}
use Rattle.std.proofs.Math.Nat.{le-max_left, le-max_right}
use Rattle.affine_core.specs.declared.form.Form.{Form}
use Rattle.tree_graphs.specs.Heights.{height_of, height_step}
use Rattle.tree_graphs.proofs.Heights.{height_dead, height_test, height_writer, height_zero}
use Rattle.source_tree.specs.declared.tree.Tree.{Tree}
use Rattle.source_tree.specs.declared.tree.Tree.TheFolds.{fold-roll-Tree, ind-Tree, map-Tree}
use Rattle.source_tree.specs.declared.tree.Tree.TheOpen as layer
use Rattle.source_tree.specs.declared.tree.Tree.TheVariants.{Writer, Zero, Dead}
use Rattle.source_tree.specs.declared.tree.Tree.TheViews.{Test, Divides, roll-Tree, rolls-Test, rolls-Divides}
use Rattle.source_tree.specs.declared.tree.Tree.TheViews.{rolls-Writer, rolls-Zero, rolls-Dead}
use Rattle.tree_trim.specs.Renumbering.{proof_without}
use Rattle.tree_trim.specs.Trees.{branch_or_test, proofs_without, tree_names_row, tree_step, tree_without}

height_divides : (form : Form) (d : ℤ) (a b : Tree) (tree : Tree) → tree ≡ Divides form d a b
    → height_of tree ≡ 1 + max (height_of a) (height_of b)
unfolding height_of
height_divides form d a b tree e =
    ap height_of (e ∙ sym (rolls-Divides form d a b)) ∙ fold-roll-Tree ℕ height_step (layer.Divides form d a b)

IsAsHigh : ℕ → Tree → Type 0
IsAsHigh k tree = height_of (tree_without k tree) ≡ height_of tree

abbrev High : ℕ → Type 0
High k = (tree : Tree) × IsAsHigh k tree

layer_high : (k : ℕ) (y : layer.Tree-F (High k)) → IsAsHigh k (roll-Tree (map-Tree (High k) Tree (λ e. e.0) y))
unfolding IsAsHigh
layer_high k (layer.Test form a b) =
    ap height_of (fold-roll-Tree Tree (tree_step k) (layer.Test form a.0 b.0))
    ∙ height_test (Test form (tree_without k a.0) (tree_without k b.0)) form (tree_without k a.0) (tree_without k b.0) refl
    ∙ ap (λ h. 1 + max h (height_of (tree_without k b.0))) a.1
    ∙ ap (λ h. 1 + max (height_of a.0) h) b.1
    ∙ sym (height_test (roll-Tree (layer.Test form a.0 b.0)) form a.0 b.0 (rolls-Test form a.0 b.0))
layer_high k (layer.Divides form d a b) =
    ap height_of (fold-roll-Tree Tree (tree_step k) (layer.Divides form d a.0 b.0))
    ∙ height_divides form d (tree_without k a.0) (tree_without k b.0)
    (Divides form d (tree_without k a.0) (tree_without k b.0)) refl
    ∙ ap (λ h. 1 + max h (height_of (tree_without k b.0))) a.1
    ∙ ap (λ h. 1 + max (height_of a.0) h) b.1
    ∙ sym (height_divides form d a.0 b.0 (roll-Tree (layer.Divides form d a.0 b.0)) (rolls-Divides form d a.0 b.0))
layer_high k (layer.Writer s place proofs) =
    ap height_of (fold-roll-Tree Tree (tree_step k) (layer.Writer s place proofs))
    ∙ height_writer (Writer s place (proofs_without k proofs)) s place (proofs_without k proofs) refl
    ∙ sym (height_writer (roll-Tree (layer.Writer s place proofs)) s place proofs (rolls-Writer s place proofs))
layer_high k (layer.Zero proofs) =
    ap height_of (fold-roll-Tree Tree (tree_step k) (layer.Zero proofs))
    ∙ height_zero (Zero (proofs_without k proofs)) (proofs_without k proofs) refl
    ∙ sym (height_zero (roll-Tree (layer.Zero proofs)) proofs (rolls-Zero proofs))
layer_high k (layer.Dead proof) =
    ap height_of (fold-roll-Tree Tree (tree_step k) (layer.Dead proof))
    ∙ height_dead (Dead (proof_without k proof)) (proof_without k proof) refl
    ∙ sym (height_dead (roll-Tree (layer.Dead proof)) proof (rolls-Dead proof))

pub height_of-tree_without : (k : ℕ) (tree : Tree) → height_of (tree_without k tree) ≡ height_of tree
unfolding IsAsHigh
height_of-tree_without k = ind-Tree (IsAsHigh k) (λ x y is. subst (λ z. IsAsHigh k (roll-Tree z)) is (layer_high k y))

pub height_of-branch_or_test : (k : ℕ) (form : Form) (a b : Tree)
    → height_of (branch_or_test k form a b) ≤ 1 + max (height_of a) (height_of b)
height_of-branch_or_test k form a b =
    elim (cases_Bool (tree_names_row k a)) [
      | inr off ↦
          rw off (omega (arith, height_of-tree_without k a, le-max_left (height_of a) (height_of b)))
      | inl on ↦
          elim (cases_Bool (tree_names_row k b)) [
            | inr off ↦
                rw (on, off) (omega (arith, height_of-tree_without k b, le-max_right (height_of a) (height_of b)))
            | inl both ↦ rw (on, both) (omega (arith, height_test (Test form a b) form a b refl))
          ]
    ]
