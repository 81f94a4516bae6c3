-- What the check of each kind of tree comes to.
--
-- The verdict on a tree is that of its first leaf that breaks a rule. So a wrong form or divisor refuses the leaf that
-- would come next, the second tree of a test is checked from the number at which the first one ended, and a leaf ends
-- with its number or the next. Each case of the code is one of these. A Writer leaf is tested in the order of the
-- rules: its map, then its statement, then its proofs.
use Rattle.std.proofs.Common.{◌≡◌, ◌+◌, ◌<◌, ◌==◌, ◌&&◌, ◌≤ℤ◌, ℕ, ℤ, pos, List, [], ◌∷◌, length, Bool, true, false}
use Rattle.std.proofs.Common.{cond, refl, sym, ap, ◌∙◌, arith, ne_eqb}
use Rattle.std.specs.Prelude.{Option, Some, None, Result, Err, slice_get, nat_lt, int_le}
use Rattle.std.specs.Option.{option_and_then, option_map_or}
use Rattle.std.proofs.lemmas.Bool.{eq-eqb, and_right}
use Rattle.std.proofs.lemmas.Int.{ints}
use Rattle.affine_core.specs.declared.form.Form.{Form}
use Rattle.int_polyhedra.specs.declared.system.Proof.{Proof}
use Rattle.sanlp.specs.declared.nest.Nest.{Nest}
use Rattle.sanlp.specs.declared.nest.Statement.{Statement}
use Rattle.source_check.specs.declared.verdict.Rule.{Rule}
use Rattle.source_check.specs.declared.verdict.Rule.TheVariants as rule
use Rattle.source_check.specs.Verdict.{leaf_refusal, named_refusal, writer_refusal}
use Rattle.source_check.specs.Verdict.{leaf_end, then_leaves, divisor_fits, check_from}
use Rattle.source_check.proofs.Readers.{write_to_parts}
use Rattle.source_check.proofs.Verdicts.{check_test, check_divides, check_writer, check_zero, check_dead}
use Rattle.source_tree.specs.Systems.{Occurrence, Context, every, named_write, write_to, test_yes, test_no, divides_yes}
use Rattle.source_tree.specs.Systems.{divides_no, zero_systems, dead_systems}
use Rattle.source_tree.specs.Walk.{are_over}
use Rattle.source_tree.specs.declared.tree.Tree.{Tree}
use Rattle.source_tree.specs.declared.tree.Tree.TheVariants.{Writer, Zero, Dead}
use Rattle.source_tree.specs.declared.tree.Tree.TheViews.{Test, Divides}

module _ (n : Nest) (r : Occurrence) (leaf : ℕ) (c : Context) (tree : Tree) where
  -- a Test, from the check of its first tree
  pub test_end : (form : Form) (a b a' b' : Tree) (first end : Result ℕ Rule) → tree ≡ Test form a b → a' ≡ a → b' ≡ b
      → length form.coefs ≡ c.vars
      → first ≡ check_from n r a' leaf (test_yes c form)
      → end ≡ then_leaves first (λ next. check_from n r b' next (test_no c form)) → end ≡ check_from n r tree leaf c
  test_end form a b a' b' first end is same same' over first_is end_is =
      end_is ∙ ap (λ b. then_leaves first (λ next. check_from n r b next (test_no c form))) same'
      ∙ ap (λ o. then_leaves o (λ next. check_from n r b next (test_no c form)))
      (first_is ∙ ap (λ a. check_from n r a leaf (test_yes c form)) same)
      ∙ ap (λ t. cond t
      (then_leaves (check_from n r a leaf (test_yes c form)) (λ next. check_from n r b next (test_no c form)))
      (Err (rule.BadForm leaf))) (sym (eq-eqb (length form.coefs) c.vars over))
      ∙ sym (check_test n r leaf c tree form a b is)

  pub test_bad : (form : Form) (a b : Tree) → tree ≡ Test form a b → (length form.coefs ≡ c.vars → ⊥)
      → Err (rule.BadForm leaf) ≡ check_from n r tree leaf c
  test_bad form a b is differ =
      ap (λ t. cond t
      (then_leaves (check_from n r a leaf (test_yes c form)) (λ next. check_from n r b next (test_no c form)))
      (Err (rule.BadForm leaf))) (sym (ne_eqb (length form.coefs) c.vars differ))
      ∙ sym (check_test n r leaf c tree form a b is)

  divides_where : (form : Form) (d : ℤ) → length form.coefs ≡ c.vars → pos 2 ≤ℤ d
      → c.vars < length r.statement.loops + 6 → ((length form.coefs == c.vars) && divisor_fits r c d) ≡ true
  divides_where form d over two few =
      ap (λ b. b && divisor_fits r c d) (eq-eqb (length form.coefs) c.vars over)
      ∙ ap (λ b. b && nat_lt c.vars (length r.statement.loops + 6)) (where_le (pos 2) d two)
      ∙ where_lt c.vars (length r.statement.loops + 6) few where
        where_le : (a b : ℤ) → a ≤ℤ b → int_le a b ≡ true
        where_le a b h = grind (arith, ints)

        where_lt : (m n : ℕ) → m < n → nat_lt m n ≡ true
        where_lt m n h = grind arith

  pub divides_end : (form : Form) (d : ℤ) (a b a' b' : Tree) (first end : Result ℕ Rule) → tree ≡ Divides form d a b
      → a' ≡ a → b' ≡ b
      → length form.coefs ≡ c.vars → pos 2 ≤ℤ d → c.vars < length r.statement.loops + 6
      → first ≡ check_from n r a' leaf (divides_yes c form d)
      → end ≡ then_leaves first (λ next. check_from n r b' next (divides_no c form d))
      → end ≡ check_from n r tree leaf c
  divides_end form d a b a' b' first end is same same' over two few first_is end_is =
      end_is ∙ ap (λ b. then_leaves first (λ next. check_from n r b next (divides_no c form d))) same'
      ∙ ap (λ o. then_leaves o (λ next. check_from n r b next (divides_no c form d)))
      (first_is ∙ ap (λ a. check_from n r a leaf (divides_yes c form d)) same)
      ∙ ap (λ t. cond t
      (then_leaves (check_from n r a leaf (divides_yes c form d))
      (λ next. check_from n r b next (divides_no c form d))) (Err (rule.BadForm leaf)))
      (sym (divides_where form d over two few))
      ∙ sym (check_divides n r leaf c tree form d a b is)

  bad_divides : (form : Form) (d : ℤ) (a b : Tree) → tree ≡ Divides form d a b
      → ((length form.coefs == c.vars) && divisor_fits r c d) ≡ false
      → Err (rule.BadForm leaf) ≡ check_from n r tree leaf c
  bad_divides form d a b is bad =
      ap (λ t. cond t
      (then_leaves (check_from n r a leaf (divides_yes c form d))
      (λ next. check_from n r b next (divides_no c form d))) (Err (rule.BadForm leaf))) (sym bad)
      ∙ sym (check_divides n r leaf c tree form d a b is)

  pub divides_bad_form : (form : Form) (d : ℤ) (a b : Tree) → tree ≡ Divides form d a b
      → (length form.coefs ≡ c.vars → ⊥) → Err (rule.BadForm leaf) ≡ check_from n r tree leaf c
  divides_bad_form form d a b is differ =
      bad_divides form d a b is (ap (λ t. t && divisor_fits r c d) (ne_eqb (length form.coefs) c.vars differ))

  pub divides_bad_divisor : (form : Form) (d : ℤ) (a b : Tree) → tree ≡ Divides form d a b → (pos 2 ≤ℤ d → ⊥)
      → Err (rule.BadForm leaf) ≡ check_from n r tree leaf c
  divides_bad_divisor form d a b is low =
      bad_divides form d a b is
      (ap (λ t. (length form.coefs == c.vars) && (t && nat_lt c.vars (length r.statement.loops + 6)))
      (not_le (pos 2) d low) ∙ and_right (length form.coefs == c.vars) false refl) where
        not_le : (a b : ℤ) → (a ≤ℤ b → ⊥) → int_le a b ≡ false
        not_le a b h = grind (arith, ints)

  pub divides_deep : (form : Form) (d : ℤ) (a b : Tree) → tree ≡ Divides form d a b
      → (c.vars < length r.statement.loops + 6 → ⊥) → Err (rule.BadForm leaf) ≡ check_from n r tree leaf c
  divides_deep form d a b is deep =
      bad_divides form d a b is
      (ap (λ t. (length form.coefs == c.vars) && (int_le (pos 2) d && t))
      (not_lt c.vars (length r.statement.loops + 6) deep)
      ∙ ap (λ t. (length form.coefs == c.vars) && t) (and_right (int_le (pos 2) d) false refl)
      ∙ and_right (length form.coefs == c.vars) false refl) where
        not_lt : (m n : ℕ) → (m < n → ⊥) → nat_lt m n ≡ false
        not_lt m n h = grind arith

  pub zero_end : (proofs proofs' : List Proof) (o : Option Rule) (end : Result ℕ Rule) → tree ≡ Zero proofs
      → proofs' ≡ proofs
      → o ≡ leaf_refusal leaf (zero_systems n r every c) proofs' → end ≡ leaf_end leaf o
      → end ≡ check_from n r tree leaf c
  zero_end proofs proofs' o end is same o_is end_is =
      end_is ∙ ap (leaf_end leaf) (o_is ∙ ap (leaf_refusal leaf (zero_systems n r every c)) same)
      ∙ sym (check_zero n r leaf c tree proofs is)

  pub dead_end : (proof : Proof) (o : Option Rule) (end : Result ℕ Rule) → tree ≡ Dead proof
      → o ≡ leaf_refusal leaf (dead_systems c) (proof ∷ []) → end ≡ leaf_end leaf o
      → end ≡ check_from n r tree leaf c
  dead_end proof o end is o_is end_is = end_is ∙ ap (leaf_end leaf) o_is ∙ sym (check_dead n r leaf c tree proof is)

  pub writer_end : (s : ℕ) (place place' : List Form) (proofs proofs' : List Proof) (o : Option Rule)
      (end : Result ℕ Rule) → tree ≡ Writer s place proofs → place' ≡ place → proofs' ≡ proofs
      → o ≡ writer_refusal n r leaf c s place' proofs' → end ≡ leaf_end leaf o → end ≡ check_from n r tree leaf c
  writer_end s place place' proofs proofs' o end is same same' o_is end_is =
      end_is ∙ ap (leaf_end leaf)
      (o_is ∙ ap (λ place. writer_refusal n r leaf c s place proofs') same
      ∙ ap (writer_refusal n r leaf c s place) same')
      ∙ sym (check_writer n r leaf c tree s place proofs is)

-- a Writer leaf
module _ (n : Nest) (r : Occurrence) (leaf : ℕ) (c : Context) (s : ℕ) (place : List Form) (proofs : List Proof) where
  abbrev fits_by : Bool → Option Statement → Bool
  fits_by b o = b && option_map_or (λ (st : Statement). length place == length st.loops) o true

  writer_by : (b : Bool) (o : Option Statement) → are_over c.vars place ≡ b → slice_get n.statements s ≡ o
      → writer_refusal n r leaf c s place proofs
      ≡ cond (fits_by b o) (named_refusal n r leaf c place proofs (option_and_then (write_to r.access.array s) o))
      (Some (rule.BadForm leaf))
  writer_by b o over found =
      ap (λ b. cond
      (b && option_map_or (λ (st : Statement). length place == length st.loops) (slice_get n.statements s) true)
      (named_refusal n r leaf c place proofs (option_and_then (write_to r.access.array s) (slice_get n.statements s)))
      (Some (rule.BadForm leaf))) over
      ∙ ap (λ o. cond (b && option_map_or (λ (st : Statement). length place == length st.loops) o true)
      (named_refusal n r leaf c place proofs (option_and_then (write_to r.access.array s) o))
      (Some (rule.BadForm leaf))) found

  pub writer_bad : are_over c.vars place ≡ false → Some (rule.BadForm leaf) ≡ writer_refusal n r leaf c s place proofs
  writer_bad over = sym (writer_by false (slice_get n.statements s) over refl)

  pub writer_gone : are_over c.vars place ≡ true → slice_get n.statements s ≡ None
      → Some (rule.NoWriter leaf) ≡ writer_refusal n r leaf c s place proofs
  writer_gone over gone = sym (writer_by true None over gone)

  pub writer_long : (st : Statement) → are_over c.vars place ≡ true → slice_get n.statements s ≡ Some st
      → (length place ≡ length st.loops → ⊥)
      → Some (rule.BadForm leaf) ≡ writer_refusal n r leaf c s place proofs
  writer_long st over found differ =
      ap (λ b. cond b (named_refusal n r leaf c place proofs (write_to r.access.array s st)) (Some (rule.BadForm leaf)))
      (sym (ne_eqb (length place) (length st.loops) differ))
      ∙ sym (writer_by true (Some st) over found)

  pub writer_end_is : (st : Statement) (o : Option Occurrence) → are_over c.vars place ≡ true
      → slice_get n.statements s ≡ Some st → length place ≡ length st.loops
      → write_to r.access.array s st ≡ o
      → named_refusal n r leaf c place proofs o ≡ writer_refusal n r leaf c s place proofs
  writer_end_is st o over found deep is =
      ap (named_refusal n r leaf c place proofs) (sym is)
      ∙ ap (λ b. cond b (named_refusal n r leaf c place proofs (write_to r.access.array s st))
      (Some (rule.BadForm leaf))) (sym (eq-eqb (length place) (length st.loops) deep))
      ∙ sym (writer_by true (Some st) over found)

-- the write of the statement that the leaf names
pub named_is : (n : Nest) (r : Occurrence) (s : ℕ) (st : Statement) (w : Occurrence)
    → slice_get n.statements s ≡ Some st → write_to r.access.array s st ≡ Some w
    → named_write n r w.number ≡ Some w
named_is n r s st w found is =
    write_to_parts r.access.array s st w is
    (λ number statement writes array. ap (named_write n r) number
    ∙ ap (option_and_then (write_to r.access.array s)) found ∙ is)
