-- What is left to convert.
--
-- The Tests above a tree are told from the last one. It stands with the tree's other side, which is yet to be converted,
-- or is converted; so once this tree is, the other one comes next, or the Test. The contexts of both sides have one row
-- more than that of the Test.
use Rattle.std.proofs.Common.{◌≡◌, ◌+◌, ◌<◌, ℕ, List, [], ◌∷◌, ◌++◌, length, refl, sym, ap, ◌∙◌}
use Rattle.std.proofs.Common.{subst, arith}
use Rattle.std.specs.Prelude.{sum_by}
use Rattle.std.proofs.lemmas.List.{length_push, same_from_push}
use Rattle.std.proofs.lemmas.List.Sums.{sum_by_push}
use Rattle.affine_core.specs.declared.form.Form.{Form}
use Rattle.tree_graphs.specs.Joint.{at_dead, at_test, at_writer, at_zero, IsCheckedForAll}
use Rattle.tree_graphs.specs.Joint.{ReadAndWrite}
use Rattle.tree_graphs.proofs.Heights.{height_sides}
use Rattle.int_polyhedra.specs.declared.system.Proof.{Proof}
use Rattle.stride_trees.specs.Converted.{size_of, size_step, turns_left, turns_of_open, AreOpens, IsConverting, IsLow}
use Rattle.stride_trees.specs.Converted.{IsOpenAt, below, none}
use Rattle.stride_trees.specs.Leaves.{Converts}
use Rattle.stride_trees.specs.declared.leaves.Answered.{Answered}
use Rattle.stride_trees.specs.declared.leaves.Open.{Open}
use Rattle.stride_trees.specs.declared.leaves.Open.TheVariants.{First, Second}
use Rattle.stride_trees.specs.declared.leaves.Part.TheVariants.{Joined, Own}
use Rattle.stride_trees.proofs.TreeConversion.{test_converts, test_joined}
use Rattle.source_tree.specs.Systems.{Context, Which}
use Rattle.source_tree.specs.declared.tree.Tree.{Tree}
use Rattle.source_tree.specs.declared.tree.Tree.TheFolds.{fold-roll-Tree}
use Rattle.source_tree.specs.declared.tree.Tree.TheOpen as open_
use Rattle.source_tree.specs.declared.tree.Tree.TheVariants.{Dead, Writer, Zero}
use Rattle.source_tree.specs.declared.tree.Tree.TheViews.{Test, rolls-Test}

not_empty : {X : Type 0} (xs : List X) (x : X) → xs ++ x ∷ [] ≡ [] → ⊥
not_empty xs x e = omega (arith, ap length e, length_push xs x)

size_test : (tree : Tree) (form : Form) (a b : Tree) → tree ≡ Test form a b
    → size_of tree ≡ 4 + (size_of a + size_of b)
unfolding size_of
size_test tree form a b e =
    ap size_of (e ∙ sym (rolls-Test form a b)) ∙ fold-roll-Tree ℕ size_step (open_.Test form a b)

-- a joined tree is a Test or a leaf
pub checked_kinds : (which : Which) (pairs : List ReadAndWrite) (c : Context) (tree : Tree)
    → IsCheckedForAll which pairs c tree
    → ((form : Form) (upper lower : Tree) → tree ≡ Test form upper lower → ⊥)
    → ((s : ℕ) (place : List Form) (proofs : List Proof) → tree ≡ Writer s place proofs → ⊥)
    → ((proofs : List Proof) → tree ≡ Zero proofs → ⊥) → ((proof : Proof) → tree ≡ Dead proof → ⊥) → ⊥
checked_kinds which pairs _ _ (at_test c tree form upper lower is over within first second) test writer zero_leaf dead =
    test form upper lower is
checked_kinds which pairs _ _ (at_writer c tree s place proofs is point) test writer zero_leaf dead =
    writer s place proofs is
checked_kinds which pairs _ _ (at_zero c tree proofs is refuted sums) test writer zero_leaf dead = zero_leaf proofs is
checked_kinds which pairs _ _ (at_dead c tree proof is refuted) test writer zero_leaf dead = dead proof is

-- one side of a Test has few Tests
low_side : (w : Answered) (here : ℕ) (tree part : Tree) (last : Open) → IsOpenAt w here tree part last → IsLow w here tree
    → IsLow w (here + 1) part
low_side w here tree part (First form lower) e h = record {
  joined = (test_joined w here tree form part lower h.joined e).0;
  few = omega (arith, h.few, (height_sides tree form part lower e).0);
}
low_side w here tree part (Second form own) (upper, e, converted) h = record {
  joined = (test_joined w here tree form upper part h.joined e).1;
  few = omega (arith, h.few, (height_sides tree form upper part e).1);
}

module _ (w : Answered) (rows : ℕ) (whole : Tree) where
  record IsLast (opens : List Open) (last : Open) (part : Tree) : Type 0 where
    pub tree : Tree
    pub above : AreOpens w rows whole opens tree
    pub is : IsOpenAt w (rows + length opens) tree part last

  last_of : (all : List Open) (part : Tree) → AreOpens w rows whole all part → (opens : List Open) (last : Open)
      → all ≡ opens ++ last ∷ [] → IsLast opens last part
  last_of _ _ (none all part empty is) opens last e = absurd (not_empty opens last (sym e ∙ empty))
  last_of _ _ (below before all tree part own above is all_is) opens last e =
      let same = same_from_push before opens own last (sym all_is ∙ e) in
      record {
        tree = tree;
        above = subst (λ opens. AreOpens w rows whole opens tree) same.0 above;
        is = subst (λ opens. IsOpenAt w (rows + length opens) tree part last) same.0
            (subst (IsOpenAt w (rows + length before) tree part) same.1 is);
      }

  -- the tree under way has few Tests
  pub low_at : (opens : List Open) (tree : Tree) → IsLow w rows whole → AreOpens w rows whole opens tree
      → IsLow w (rows + length opens) tree
  low_at _ _ h (none opens tree empty is) =
      let here : rows ≡ rows + length opens = omega (arith, ap length empty) in
      subst (λ n. IsLow w n tree) here (subst (IsLow w rows) (sym is) h)
  low_at _ _ h (below opens all tree part last above is all_is) =
      let here : rows + length opens + 1 ≡ rows + length all = omega (arith, ap length all_is, length_push opens last) in
      subst (λ n. IsLow w n part) here
      (low_side w (rows + length opens) tree part last is (low_at opens tree h above))

  pub down_test : (opens all : List Open) (tree : Tree) (form : Form) (upper lower : Tree)
      → IsConverting w rows whole opens (Joined tree) → tree ≡ Test form upper lower → all ≡ opens ++ First form lower ∷ []
      → IsConverting w rows whole all (Joined upper)
      × (turns_left all (Joined upper) < turns_left opens (Joined tree))
  down_test opens all tree form upper lower h e all_is = (
    (h.0, below opens all tree upper (First form lower) h.1 e all_is),
    omega (
      arith,
      size_test tree form upper lower e,
      ap (sum_by turns_of_open) all_is,
      sum_by_push turns_of_open opens (First form lower),
    ),
  )

  pub at_leaf : (opens : List Open) (tree own : Tree) → IsConverting w rows whole opens (Joined tree)
      → Converts w (rows + length opens) tree own
      → IsConverting w rows whole opens (Own own) × (turns_left opens (Own own) < turns_left opens (Joined tree))
  at_leaf opens tree own h converts = ((h.0, (tree, h.1, converts)), omega arith)

  -- the converted part, behind the Test above
  module _ (opens : List Open) (last : Open) (own : Tree) (h : IsConverting w rows whole (opens ++ last ∷ []) (Own own))
    where
      abbrev part : Tree
      part = h.1.0

      above : IsLast opens last part
      above = last_of (opens ++ last ∷ []) part h.1.1 opens last refl

      converts : Converts w (rows + length opens + 1) part own
      converts =
          let here : rows + length (opens ++ last ∷ []) ≡ rows + length opens + 1 = omega (arith, length_push opens last) in
          subst (λ n. Converts w n part own) here h.1.2

      pub up_first : (all : List Open) (form : Form) (lower : Tree) → last ≡ First form lower → all ≡ opens ++ Second form own ∷ []
          → IsConverting w rows whole all (Joined lower)
          × (turns_left all (Joined lower) < turns_left (opens ++ last ∷ []) (Own own))
      up_first all form lower e all_is =
          let is : above.tree ≡ Test form part lower = subst (IsOpenAt w (rows + length opens) above.tree part) e above.is in (
            (h.0, below opens all above.tree lower (Second form own) above.above (part, is, converts) all_is),
            omega (
              arith,
              ap (sum_by turns_of_open) all_is,
              sum_by_push turns_of_open opens (Second form own),
              sum_by_push turns_of_open opens last,
              ap turns_of_open e,
            ),
          )

      pub up_second : (form : Form) (upper tree : Tree) → last ≡ Second form upper → tree ≡ Test form upper own
          → IsConverting w rows whole opens (Own tree)
          × (turns_left opens (Own tree) < turns_left (opens ++ last ∷ []) (Own own))
      up_second form upper tree e is =
          let k = subst (IsOpenAt w (rows + length opens) above.tree part) e above.is in (
            (
              h.0,
              (
                above.tree,
                above.above,
                test_converts w (rows + length opens) above.tree tree form k.0 part upper own k.1 is k.2 converts,
              ),
            ),
            omega (arith, sum_by_push turns_of_open opens last, ap turns_of_open e),
          )

  -- no Test is above
  none_above : (opens : List Open) (tree : Tree) → AreOpens w rows whole opens tree → opens ≡ [] → tree ≡ whole
  none_above _ _ (none opens tree empty is) e = is
  none_above _ _ (below opens all tree _ last _ is all_is) e =
      absurd (not_empty opens last (sym all_is ∙ e))

  pub all_converted : (opens : List Open) (own : Tree) → IsConverting w rows whole opens (Own own) → opens ≡ []
      → Converts w rows whole own
  all_converted opens own h e =
      let here : rows + length opens ≡ rows = omega (arith, ap length e) in
      subst (λ tree. Converts w rows tree own) (none_above opens h.1.0 h.1.1 e)
      (subst (λ n. Converts w n h.1.0 own) here h.1.2)
