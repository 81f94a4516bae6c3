-- What each kind of proof and of tree names, and what it is once its rows have other numbers.
--
-- Both are folds, and the fold of something built is a step over the folds of its parts. So each lemma takes what is
-- built back to its layer and reads one case of the step there. None is an induction: those over a proof and over a
-- tree are in Refuting and Trimming, which unfold no fold but cite these. There is none for Divides, which a joined
-- tree doesn't have.
use Rattle.std.proofs.Common.{◌≡◌, ℕ, ℤ, List, Bool, ◌||◌, sym, ap, ◌∙◌}
use Rattle.affine_core.specs.declared.form.Form.{Form}
use Rattle.int_polyhedra.specs.declared.system.Proof.{Proof}
use Rattle.int_polyhedra.specs.declared.system.Proof.TheOpen as open_proof
use Rattle.int_polyhedra.specs.declared.system.Proof.TheFolds.{fold-roll-Proof}
use Rattle.int_polyhedra.specs.declared.system.Proof.TheVariants.{Sum}
use Rattle.int_polyhedra.specs.declared.system.Proof.TheViews.{Cut, Split, rolls-Sum, rolls-Cut, rolls-Split}
use Rattle.int_polyhedra.specs.declared.system.Term.{Term}
use Rattle.source_tree.specs.declared.tree.Tree.{Tree}
use Rattle.source_tree.specs.declared.tree.Tree.TheOpen as open_tree
use Rattle.source_tree.specs.declared.tree.Tree.TheFolds.{fold-roll-Tree}
use Rattle.source_tree.specs.declared.tree.Tree.TheVariants.{Writer, Zero, Dead}
use Rattle.source_tree.specs.declared.tree.Tree.TheViews.{Test, rolls-Test, rolls-Writer, rolls-Zero, rolls-Dead}
use Rattle.tree_trim.specs.Proofs.{names_row, naming_step, terms_name}
use Rattle.tree_trim.specs.Renumbering.{proof_by, proof_without, step_by, terms_by}
use Rattle.tree_trim.specs.declared.renumbering.Renumbering.{Renumbering}
use Rattle.tree_trim.specs.Trees.{proofs_name, proofs_without, tree_names_row, tree_naming_step, tree_step, tree_without}

module _ (r : Renumbering) where
  pub renumbered_sum : (terms : List Term) → proof_by r (Sum terms) ≡ Sum (terms_by r terms)
  renumbered_sum terms =
      ap (proof_by r) (sym (rolls-Sum terms)) ∙ fold-roll-Proof Proof (step_by r) (open_proof.Sum terms)

  pub renumbered_cut : (d : ℤ) (terms : List Term) (rest : Proof)
      → proof_by r (Cut d terms rest) ≡ Cut d (terms_by r terms) (proof_by r rest)
  renumbered_cut d terms rest =
      ap (proof_by r) (sym (rolls-Cut d terms rest))
      ∙ fold-roll-Proof Proof (step_by r) (open_proof.Cut d terms rest)

  pub renumbered_split : (form : Form) (above below : Proof)
      → proof_by r (Split form above below) ≡ Split form (proof_by r above) (proof_by r below)
  renumbered_split form above below =
      ap (proof_by r) (sym (rolls-Split form above below))
      ∙ fold-roll-Proof Proof (step_by r) (open_proof.Split form above below)

module _ (k : ℕ) where
  pub names_sum : (terms : List Term) → names_row k (Sum terms) ≡ terms_name k terms
  names_sum terms =
      ap (names_row k) (sym (rolls-Sum terms)) ∙ fold-roll-Proof Bool (naming_step k) (open_proof.Sum terms)

  pub names_cut : (d : ℤ) (terms : List Term) (rest : Proof)
      → names_row k (Cut d terms rest) ≡ (terms_name k terms || names_row k rest)
  names_cut d terms rest =
      ap (names_row k) (sym (rolls-Cut d terms rest))
      ∙ fold-roll-Proof Bool (naming_step k) (open_proof.Cut d terms rest)

  pub names_split : (form : Form) (above below : Proof)
      → names_row k (Split form above below) ≡ (names_row k above || names_row k below)
  names_split form above below =
      ap (names_row k) (sym (rolls-Split form above below))
      ∙ fold-roll-Proof Bool (naming_step k) (open_proof.Split form above below)

  pub names_test : (form : Form) (above below : Tree)
      → tree_names_row k (Test form above below) ≡ (tree_names_row k above || tree_names_row k below)
  names_test form above below =
      ap (tree_names_row k) (sym (rolls-Test form above below))
      ∙ fold-roll-Tree Bool (tree_naming_step k) (open_tree.Test form above below)

  pub names_writer : (s : ℕ) (place : List Form) (proofs : List Proof)
      → tree_names_row k (Writer s place proofs) ≡ proofs_name k proofs
  names_writer s place proofs =
      ap (tree_names_row k) (sym (rolls-Writer s place proofs))
      ∙ fold-roll-Tree Bool (tree_naming_step k) (open_tree.Writer s place proofs)

  pub names_zero : (proofs : List Proof) → tree_names_row k (Zero proofs) ≡ proofs_name k proofs
  names_zero proofs =
      ap (tree_names_row k) (sym (rolls-Zero proofs))
      ∙ fold-roll-Tree Bool (tree_naming_step k) (open_tree.Zero proofs)

  pub names_dead : (proof : Proof) → tree_names_row k (Dead proof) ≡ names_row k proof
  names_dead proof =
      ap (tree_names_row k) (sym (rolls-Dead proof))
      ∙ fold-roll-Tree Bool (tree_naming_step k) (open_tree.Dead proof)

  pub without_test : (form : Form) (above below : Tree)
      → tree_without k (Test form above below) ≡ Test form (tree_without k above) (tree_without k below)
  without_test form above below =
      ap (tree_without k) (sym (rolls-Test form above below))
      ∙ fold-roll-Tree Tree (tree_step k) (open_tree.Test form above below)

  pub without_writer : (s : ℕ) (place : List Form) (proofs : List Proof)
      → tree_without k (Writer s place proofs) ≡ Writer s place (proofs_without k proofs)
  without_writer s place proofs =
      ap (tree_without k) (sym (rolls-Writer s place proofs))
      ∙ fold-roll-Tree Tree (tree_step k) (open_tree.Writer s place proofs)

  pub without_zero : (proofs : List Proof) → tree_without k (Zero proofs) ≡ Zero (proofs_without k proofs)
  without_zero proofs =
      ap (tree_without k) (sym (rolls-Zero proofs))
      ∙ fold-roll-Tree Tree (tree_step k) (open_tree.Zero proofs)

  pub without_dead : (proof : Proof) → tree_without k (Dead proof) ≡ Dead (proof_without k proof)
  without_dead proof =
      ap (tree_without k) (sym (rolls-Dead proof))
      ∙ fold-roll-Tree Tree (tree_step k) (open_tree.Dead proof)
