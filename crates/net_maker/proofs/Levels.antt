-- A tree and a proof of which so many levels are asked, by their outermost part.
--
-- How deep something nests is told by the number of levels that are left, which falls by one at each part. So each
-- kind of part has one equivalence: it is in range at some levels where its own numbers are and what it has in it is
-- at one level less. At no level nothing is in range.
use Rattle.std.proofs.Common.{◌≡◌, ◌∙◌, ◌<◌, ◌-◌, ℕ, zero, suc, ℤ, List, true, false, Bool, refl, sym, subst, ap, arith}
use Rattle.std.specs.Prelude.{◌↔◌, All, IsTrue}
use Rattle.affine_core.specs.Within.{fits_128_bits}
use Rattle.affine_core.specs.declared.form.Form.{Form}
use Rattle.int_polyhedra.specs.declared.system.Proof.{Proof, out-Proof}
use Rattle.int_polyhedra.specs.declared.system.Proof.TheOpen as proof_layer
use Rattle.int_polyhedra.specs.declared.system.Proof.TheVariants.{Sum}
use Rattle.int_polyhedra.specs.declared.system.Proof.TheViews.{Cut, Split, outs-Sum, outs-Cut, outs-Split}
use Rattle.int_polyhedra.specs.declared.system.Term.{Term}
use Rattle.source_tree.specs.declared.tree.Tree.{Tree, out-Tree}
use Rattle.source_tree.specs.declared.tree.Tree.TheOpen as tree_layer
use Rattle.source_tree.specs.declared.tree.Tree.TheVariants.{Writer, Zero, Dead}
use Rattle.source_tree.specs.declared.tree.Tree.TheViews.{Test, Divides, outs-Test, outs-Divides, outs-Writer}
use Rattle.source_tree.specs.declared.tree.Tree.TheViews.{outs-Zero, outs-Dead}
use Rattle.tree_text.specs.TreeText.{FormIsInRange, PlaceIsInRange, ProofIsInRange, ProofStepIsInRange}
use Rattle.tree_text.specs.TreeText.{ProofsAreInRange, TermIsInRange, TreeIsWithin, TreeStepIsInRange}
use Rattle.tree_text.proofs.ReadBack.{no_proof}

false_is : {P : Type 0} → (P → ⊥) → IsTrue false ↔ P
false_is none = (λ (t : false ≡ true). absurd (cc), λ p. absurd (none p))

pub true_is : {P : Type 0} → P → IsTrue true ↔ P
true_is p = (λ t. p, λ q. refl)

-- a test tells another fact that is equivalent
pub same_is : {P R : Type 0} (b : Bool) → (IsTrue b ↔ P) → (P → R) → (R → P) → IsTrue b ↔ R
same_is b told forth back = (λ t. forth (told.0 t), λ r. told.1 (back r))

-- a test that is made once another holds
pub then_is : {P Q R : Type 0} (a b : Bool) → (IsTrue a ↔ P) → (IsTrue b ↔ Q) → a ≡ true → (P → Q → R) → (R → Q)
    → IsTrue b ↔ R
then_is a b first second is join last = (λ t. join (first.0 is) (second.0 t), λ r. second.1 (last r))

-- the first doesn't hold
pub else_is : {P R : Type 0} (a : Bool) → (IsTrue a ↔ P) → a ≡ false → (R → P) → IsTrue false ↔ R
else_is a first is head = false_is (λ r. let e : a ≡ true = first.1 (head r) in cc)

-- No level

pub proof_ended : (levels : ℕ) (p : Proof) → levels ≡ 0 → IsTrue false ↔ ProofIsInRange levels p
proof_ended levels p none = false_is (λ h. no_proof p (subst (λ (k : ℕ). ProofIsInRange k p) none h))

no_tree : (p : Tree) → TreeIsWithin 0 p → ⊥
unfolding TreeIsWithin
no_tree p h = h

pub tree_ended : (levels : ℕ) (p : Tree) → levels ≡ 0 → IsTrue false ↔ TreeIsWithin levels p
tree_ended levels p none = false_is (λ h. no_tree p (subst (λ (k : ℕ). TreeIsWithin k p) none h))

-- One level more

proof_layer_is : (levels : ℕ) (p : Proof) (y : proof_layer.Proof-F Proof) → 0 < levels → out-Proof p ≡ y
    → ProofIsInRange levels p ↔ ProofStepIsInRange (ProofIsInRange (levels - 1)) y
unfolding ProofIsInRange
proof_layer_is zero p y some is = absurd (omega arith)
proof_layer_is (suc levels) p y some is =
    let less : levels ≡ suc levels - 1 = omega arith in (
      λ h. subst (λ (k : ℕ). ProofStepIsInRange (ProofIsInRange k) y) less
          (subst (ProofStepIsInRange (ProofIsInRange levels)) is h),
      λ h. subst (ProofStepIsInRange (ProofIsInRange levels)) (sym is)
          (subst (λ (k : ℕ). ProofStepIsInRange (ProofIsInRange k) y) (sym less) h),
    )

tree_layer_is : (levels : ℕ) (p : Tree) (y : tree_layer.Tree-F Tree) → 0 < levels → out-Tree p ≡ y
    → TreeIsWithin levels p ↔ TreeStepIsInRange (TreeIsWithin (levels - 1)) y
unfolding TreeIsWithin
tree_layer_is zero p y some is = absurd (omega arith)
tree_layer_is (suc levels) p y some is =
    let less : levels ≡ suc levels - 1 = omega arith in (
      λ h. subst (λ (k : ℕ). TreeStepIsInRange (TreeIsWithin k) y) less
          (subst (TreeStepIsInRange (TreeIsWithin levels)) is h),
      λ h. subst (TreeStepIsInRange (TreeIsWithin levels)) (sym is)
          (subst (λ (k : ℕ). TreeStepIsInRange (TreeIsWithin k) y) (sym less) h),
    )

-- Proofs

module _ (levels : ℕ) (p : Proof) (some : 0 < levels) where
  pub sum_is : (terms : List Term) → p ≡ Sum terms → ProofIsInRange levels p ↔ All TermIsInRange terms
  sum_is terms is = proof_layer_is levels p (proof_layer.Sum terms) some (ap out-Proof is ∙ outs-Sum terms)

  pub cut_is : (divisor : ℤ) (terms : List Term) (rest : Proof) → p ≡ Cut divisor terms rest
      → ProofIsInRange levels p
      ↔ (IsTrue (fits_128_bits divisor) × All TermIsInRange terms × ProofIsInRange (levels - 1) rest)
  cut_is divisor terms rest is =
      proof_layer_is levels p (proof_layer.Cut divisor terms rest) some (ap out-Proof is ∙ outs-Cut divisor terms rest)

  pub split_is : (form : Form) (above below : Proof) → p ≡ Split form above below → ProofIsInRange levels p
      ↔ (FormIsInRange form × ProofIsInRange (levels - 1) above × ProofIsInRange (levels - 1) below)
  split_is form above below is =
      proof_layer_is levels p (proof_layer.Split form above below) some
      (ap out-Proof is ∙ outs-Split form above below)

-- Trees

module _ (levels : ℕ) (p : Tree) (some : 0 < levels) where
  pub test_is : (form : Form) (above below : Tree) → p ≡ Test form above below → TreeIsWithin levels p
      ↔ (FormIsInRange form × TreeIsWithin (levels - 1) above × TreeIsWithin (levels - 1) below)
  test_is form above below is =
      tree_layer_is levels p (tree_layer.Test form above below) some (ap out-Tree is ∙ outs-Test form above below)

  pub divides_is : (form : Form) (divisor : ℤ) (above below : Tree) → p ≡ Divides form divisor above below
      → TreeIsWithin levels p ↔ ((FormIsInRange form × IsTrue (fits_128_bits divisor))
      × TreeIsWithin (levels - 1) above × TreeIsWithin (levels - 1) below)
  divides_is form divisor above below is =
      tree_layer_is levels p (tree_layer.Divides form divisor above below) some
      (ap out-Tree is ∙ outs-Divides form divisor above below)

  pub writer_is : (statement : ℕ) (place : List Form) (proofs : List Proof) → p ≡ Writer statement place proofs
      → TreeIsWithin levels p ↔ (PlaceIsInRange statement place × ProofsAreInRange proofs)
  writer_is statement place proofs is =
      tree_layer_is levels p (tree_layer.Writer statement place proofs) some
      (ap out-Tree is ∙ outs-Writer statement place proofs)

  pub zero_is : (proofs : List Proof) → p ≡ Zero proofs → TreeIsWithin levels p ↔ ProofsAreInRange proofs
  zero_is proofs is = tree_layer_is levels p (tree_layer.Zero proofs) some (ap out-Tree is ∙ outs-Zero proofs)

  pub dead_is : (proof : Proof) → p ≡ Dead proof → TreeIsWithin levels p ↔ ProofIsInRange 512 proof
  dead_is proof is = tree_layer_is levels p (tree_layer.Dead proof) some (ap out-Tree is ∙ outs-Dead proof)
