-- Trees of Tests and Sums with small numbers.
use Rattle.std.specs.Prelude.{◌≡◌, ◌≤◌, ◌^◌, ℕ, ◌+◌, List, All}
use Rattle.affine_core.specs.declared.form.Form.{Form}
use Rattle.int_polyhedra.specs.declared.system.Proof.{Proof}
use Rattle.int_polyhedra.specs.declared.system.Proof.TheVariants.{Sum}
use Rattle.int_polyhedra.specs.declared.system.Term.{Term}
use Rattle.tree_sums.specs.Parts.{weight, IsWithin}
use Rattle.source_tree.specs.declared.tree.Tree.{Tree}
use Rattle.source_tree.specs.declared.tree.Tree.TheVariants.{Writer, Zero}
use Rattle.source_tree.specs.declared.tree.Tree.TheViews.{Test}

-- a Sum whose multipliers add up to 2^48 at most
abbrev pub IsLightSum : Proof → Type 0
IsLightSum proof = (terms : List Term) × (proof ≡ Sum terms) × (weight terms ≤ 2 ^ 48)

-- A tree without Divides and Dead leaves, with at most so many Tests on a path. The numbers of its Tests' forms
-- lie within 2^48 and those of its points within 2^40, and each of its proofs is a light Sum.
pub data IsSimple : ℕ → Tree → Type 0 where
  at_test : (tests : ℕ) (tree : Tree) (form : Form) (above below : Tree)
      → tree ≡ Test form above below → IsWithin (2 ^ 48) form
      → IsSimple tests above → IsSimple tests below → IsSimple (tests + 1) tree
  at_writer : (tests : ℕ) (tree : Tree) (s : ℕ) (place : List Form) (proofs : List Proof)
      → tree ≡ Writer s place proofs → All (IsWithin (2 ^ 40)) place → All IsLightSum proofs
      → IsSimple tests tree
  at_zero : (tests : ℕ) (tree : Tree) (proofs : List Proof) → tree ≡ Zero proofs
      → All IsLightSum proofs → IsSimple tests tree
