-- When a tree is checked.
use Rattle.std.specs.Prelude.{◌≡◌, ◌<◌, ◌≤ℤ◌, ℕ, ◌+◌, ℤ, pos, List, [], ◌∷◌, length, All, Some}
use Rattle.affine_core.specs.declared.form.Form.{Form}
use Rattle.int_polyhedra.specs.declared.system.Proof.{Proof}
use Rattle.int_polyhedra.specs.Rules.{Refutes}
use Rattle.sanlp.specs.declared.nest.Nest.{Nest}
use Rattle.source_tree.specs.Rows.{RowSystem, row_forms}
use Rattle.source_tree.specs.Systems.{Occurrence, Context, Which, every, MayName, read_at, named_write, root_context, test_yes, test_no, divides_yes, divides_no, writer_systems, zero_systems, dead_systems}
use Rattle.source_tree.specs.declared.tree.Tree.{Tree}
use Rattle.source_tree.specs.declared.tree.Tree.TheVariants.{Writer, Zero, Dead}
use Rattle.source_tree.specs.declared.tree.Tree.TheViews.{Test, Divides}

-- the system's rows can be made within 128 bits, and the proof refutes them
pub record IsRefuted (system : RowSystem) (proof : Proof) : Type 0 where
  pub rows : List Form
  pub are_made : row_forms system.vars system.rows ≡ Some rows
  pub refuted : Refutes system.vars rows proof

-- as many proofs as systems, each of which refutes its system
abbrev pub AreRefuted : List RowSystem → List Proof → Type 0
AreRefuted [] [] = Unit {0}
AreRefuted [] (proof ∷ proofs) = ⊥
AreRefuted (system ∷ systems) [] = ⊥
AreRefuted (system ∷ systems) (proof ∷ proofs) = IsRefuted system proof × AreRefuted systems proofs

-- every form has this many variables
abbrev pub HaveVariables : ℕ → List Form → Type 0
HaveVariables vars forms = All (λ form. length form.coefs ≡ vars) forms

-- A tree in a context is checked for a read, for these writers and levels: its forms have as many
-- variables as there are, each divisor is at least 2, at most 6 Divides stand on a path, each Writer leaf
-- names a statement that writes the read's array and has a form for each of its loops, and each leaf's
-- proofs refute its systems.
pub data IsCheckedIn (n : Nest) (r : Occurrence) (which : Which) : Context → Tree → Type 0 where
  at_test : (c : Context) (tree : Tree) (form : Form) (above below : Tree)
      → tree ≡ Test form above below
      → length form.coefs ≡ c.vars
      → IsCheckedIn n r which (test_yes c form) above → IsCheckedIn n r which (test_no c form) below
      → IsCheckedIn n r which c tree
  at_divides : (c : Context) (tree : Tree) (form : Form) (d : ℤ) (above below : Tree)
      → tree ≡ Divides form d above below
      → length form.coefs ≡ c.vars → pos 2 ≤ℤ d → c.vars < length r.statement.loops + 6
      → IsCheckedIn n r which (divides_yes c form d) above
      → IsCheckedIn n r which (divides_no c form d) below
      → IsCheckedIn n r which c tree
  at_writer : (c : Context) (tree : Tree) (s : ℕ) (place : List Form) (proofs : List Proof)
      (w : Occurrence) → tree ≡ Writer s place proofs
      → named_write n r s ≡ Some w → MayName which s
      → length place ≡ length w.statement.loops → HaveVariables c.vars place
      → AreRefuted (writer_systems n r which c w place) proofs
      → IsCheckedIn n r which c tree
  at_zero : (c : Context) (tree : Tree) (proofs : List Proof) → tree ≡ Zero proofs
      → AreRefuted (zero_systems n r which c) proofs
      → IsCheckedIn n r which c tree
  at_dead : (c : Context) (tree : Tree) (proof : Proof) → tree ≡ Dead proof
      → AreRefuted (dead_systems c) (proof ∷ [])
      → IsCheckedIn n r which c tree

-- the tree is checked for read k of statement s, for all writers and levels
abbrev pub IsChecked : Nest → ℕ → ℕ → Tree → Type 0
IsChecked n s k tree =
    (r : Occurrence) × (read_at n s k ≡ Some r) × IsCheckedIn n r every (root_context r) tree
