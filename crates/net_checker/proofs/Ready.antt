-- A checked tree may be followed at each point of its reader.
--
-- By induction over how it is checked. The context counts the variables that there are at each part of the tree: those
-- of the reader's loops, and one more below each Divides. That is what following it asks of its forms. A map has a form
-- for each loop of a statement of the nest, so at most 6.
use Rattle.std.proofs.Common.{◌≡◌, ◌+◌, ◌==◌, ◌&&◌, ◌≤ℤ◌, ℕ, ℤ, pos, List, [], length, get_or, Bool}
use Rattle.std.proofs.Common.{true, sym, ap, ◌∙◌, arith}
use Rattle.std.specs.Prelude.{Some, slice_get, nat_lt, nat_le, int_le, IsTrue}
use Rattle.std.proofs.lemmas.Bool.{and_from, eq-eqb, lt-ltb}
use Rattle.std.proofs.lemmas.Int.{ints}
use Rattle.std.proofs.lemmas.Option.{slice_get_within, get_or_from_slice_get}
use Rattle.affine_core.specs.declared.form.Form.{Form}
use Rattle.int_polyhedra.specs.declared.system.Proof.{Proof}
use Rattle.sanlp.specs.declared.nest.Nest.{Nest}
use Rattle.sanlp.specs.declared.nest.Statement.{Statement}
use Rattle.sanlp.specs.Points.{points_of}
use Rattle.source_tree.specs.Checked.{IsCheckedIn, at_test, at_divides, at_writer, at_zero, at_dead}
use Rattle.source_tree.specs.Checked.{IsChecked}
use Rattle.source_tree.specs.Systems.{Occurrence, Context, Which, every, named_write, root_context}
use Rattle.source_tree.specs.Walk.{are_over, ready_step, is_ready}
use Rattle.source_tree.specs.declared.tree.Tree.{Tree}
use Rattle.source_tree.specs.declared.tree.Tree.TheOpen as open_
use Rattle.source_tree.specs.declared.tree.Tree.TheVariants.{Writer, Zero, Dead}
use Rattle.source_tree.specs.declared.tree.Tree.TheViews.{Test, Divides, rolls-Test, rolls-Divides, rolls-Writer}
use Rattle.source_tree.specs.declared.tree.Tree.TheViews.{rolls-Zero, rolls-Dead}
use Rattle.source_tree.specs.declared.tree.Tree.TheFolds.{fold-roll-Tree}
use Rattle.source_tree.proofs.RowLists.{are_over-HaveVariables}
use Rattle.net_core.proofs.FireValues.{vector_depth}
use Rattle.source_check.proofs.Bounds.{short_statements}
use Rattle.source_check.proofs.Readers.{named_parts, read_parts}
use Rattle.net_checker.proofs.Lists.{all_at}

two_or_more : (d : ℤ) → pos 2 ≤ℤ d → int_le (pos 2) d ≡ true
two_or_more d h = grind (arith, ints)

-- a map has at most 6 forms
short_map : (n : Nest) (r : Occurrence) (s : ℕ) (w : Occurrence) (place : List Form) → named_write n r s ≡ Some w
    → length place ≡ length w.statement.loops → nat_le (length place) 6 ≡ true
short_map n r s w place is deep =
    named_parts n r s w is
    (λ number found writes array.
    let short : nat_le (length w.statement.loops) 6 ≡ true = all_at (λ (st : Statement). nat_le (length st.loops) 6)
    n.statements w.number w.statement (short_statements n) found in
    ap (λ k. nat_le k 6) deep ∙ short)

abbrev Readies : Type 0
Readies = ℕ → Bool

module _ (depth vars : ℕ) (tree : Tree) where
  ready_test : (form : Form) (a b : Tree) → tree ≡ Test form a b → is_ready depth tree vars
      ≡ ((length form.coefs == vars) && (is_ready depth a vars && is_ready depth b vars))
  unfolding is_ready
  ready_test form a b e =
      ap (λ tree. is_ready depth tree vars) (e ∙ sym (rolls-Test form a b))
      ∙ ap (λ (k : Readies). k vars) (fold-roll-Tree Readies (ready_step depth) (open_.Test form a b))

  ready_divides : (form : Form) (d : ℤ) (a b : Tree) → tree ≡ Divides form d a b
      → is_ready depth tree vars ≡ ((length form.coefs == vars)
      && (int_le (pos 2) d
      && (nat_lt vars (depth + 6) && (is_ready depth a (vars + 1) && is_ready depth b (vars + 1)))))
  unfolding is_ready
  ready_divides form d a b e =
      ap (λ tree. is_ready depth tree vars) (e ∙ sym (rolls-Divides form d a b))
      ∙ ap (λ (k : Readies). k vars) (fold-roll-Tree Readies (ready_step depth) (open_.Divides form d a b))

  ready_writer : (s : ℕ) (place : List Form) (proofs : List Proof) → tree ≡ Writer s place proofs
      → is_ready depth tree vars ≡ (nat_le (length place) 6 && are_over vars place)
  unfolding is_ready
  ready_writer s place proofs e =
      ap (λ tree. is_ready depth tree vars) (e ∙ sym (rolls-Writer s place proofs))
      ∙ ap (λ (k : Readies). k vars) (fold-roll-Tree Readies (ready_step depth) (open_.Writer s place proofs))

  ready_zero : (proofs : List Proof) → tree ≡ Zero proofs → is_ready depth tree vars ≡ true
  unfolding is_ready
  ready_zero proofs e =
      ap (λ tree. is_ready depth tree vars) (e ∙ sym (rolls-Zero proofs))
      ∙ ap (λ (k : Readies). k vars) (fold-roll-Tree Readies (ready_step depth) (open_.Zero proofs))

  ready_dead : (proof : Proof) → tree ≡ Dead proof → is_ready depth tree vars ≡ true
  unfolding is_ready
  ready_dead proof e =
      ap (λ tree. is_ready depth tree vars) (e ∙ sym (rolls-Dead proof))
      ∙ ap (λ (k : Readies). k vars) (fold-roll-Tree Readies (ready_step depth) (open_.Dead proof))

module _ (n : Nest) (r : Occurrence) (which : Which) where
  pub ready_in : (c : Context) (tree : Tree) → IsCheckedIn n r which c tree
      → is_ready (length r.statement.loops) tree c.vars ≡ true
  ready_in _ _ (at_test c tree form above below is over first second) =
      ready_test (length r.statement.loops) c.vars tree form above below is
      ∙ and_from _ _ (eq-eqb (length form.coefs) c.vars over)
      (and_from _ _ (ready_in _ above first) (ready_in _ below second))
  ready_in _ _ (at_divides c tree form d above below is over two few first second) =
      ready_divides (length r.statement.loops) c.vars tree form d above below is
      ∙ and_from _ _ (eq-eqb (length form.coefs) c.vars over)
      (and_from _ _ (two_or_more d two)
      (and_from _ _ (lt-ltb _ _ few) (and_from _ _ (ready_in _ above first) (ready_in _ below second))))
  ready_in _ _ (at_writer c tree s place proofs w is named_is may deep have refuted) =
      ready_writer (length r.statement.loops) c.vars tree s place proofs is
      ∙ and_from _ _ (short_map n r s w place named_is deep) (are_over-HaveVariables c.vars place have)
  ready_in _ _ (at_zero c tree proofs is refuted) = ready_zero (length r.statement.loops) c.vars tree proofs is
  ready_in _ _ (at_dead c tree proof is refuted) = ready_dead (length r.statement.loops) c.vars tree proof is

-- so the tree may be followed at each point of the statement
pub ready_at : (n : Nest) (s k : ℕ) (tree : Tree) → IsChecked n s k tree → (f : ℕ) (at : List ℤ)
    → slice_get (get_or (points_of n) s []) f ≡ Some at → IsTrue (is_ready (length at) tree (length at))
ready_at n s k tree checked f at is =
    let r = checked.0 in
    read_parts n s k r checked.1
    (λ number found read.
    let vectors : List (List ℤ) = get_or (points_of n) s [] in
    let deep : length at ≡ length r.statement.loops =
    ap length (sym (get_or_from_slice_get vectors f at [] is))
    ∙ vector_depth n s f r.statement (slice_get_within vectors f at is) found in
    ap (λ d. is_ready d tree d) deep ∙ ready_in n r every (root_context r) tree checked.2)
