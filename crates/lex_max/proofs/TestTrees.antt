-- The tree of a Test, from those of its two contexts.
--
-- On each side of a Test the context has one row more, the form or its negation, and a point that meets the context
-- meets one of both, by the sign of the form there. So the tree gives what the side's tree gives, and is checked where
-- both are. The rows are made in any context that is made as this one, since a form over the reader's variables is
-- made as it is.
use Rattle.std.proofs.Common.{◌≡◌, ◌+◌, ◌-◌, ◌^◌, ◌≤◌, ℕ, ℤ, pos, ◌≤ℤ◌, List, [], ◌∷◌, ◌++◌}
use Rattle.std.proofs.Common.{length, Bool, true, false, cond, refl, sym, ap, ◌∙◌, subst, arith}
use Rattle.std.specs.Prelude.{Some, int_le}
use Rattle.std.proofs.lemmas.Int.{ints}
use Rattle.std.proofs.lemmas.List.Elements.{All-append, All-cons, All-nil}
use Rattle.affine_core.specs.declared.form.Form.{Form}
use Rattle.affine_core.specs.Affine.{form_at}
use Rattle.affine_core.proofs.Integers.{int_le-true, int_le-false}
use Rattle.int_polyhedra.specs.declared.system.System.{System}
use Rattle.int_polyhedra.specs.Steps.{negation_of}
use Rattle.int_polyhedra.specs.Systems.{Meets}
use Rattle.int_polyhedra.proofs.Soundness.{negation_at}
use Rattle.lex_max.specs.Answer.{IsAnswer}
use Rattle.tree_graphs.proofs.MadeRows.{more_made, opposite_made, taken_made}
use Rattle.tree_graphs.specs.Asked.{read_of, write_of}
use Rattle.tree_graphs.specs.Level.{IsGreatest}
use Rattle.tree_graphs.specs.Simple.{at_test as simple_test}
use Rattle.tree_graphs.specs.Joint.{at_test, IsCheckedFor}
use Rattle.tree_graphs.specs.declared.writes.Writes.{Writes}
use Rattle.tree_sums.specs.Parts.{IsWithin}
use Rattle.tree_sums.proofs.Within.{IsWithin-weaker}
use Rattle.source_tree.specs.Gives.{gives}
use Rattle.source_tree.specs.Rows.{Take, below_zero, row_forms}
use Rattle.source_tree.specs.Systems.{Context, test_no, test_yes}
use Rattle.source_tree.specs.declared.tree.Tree.{Tree}
use Rattle.source_tree.specs.declared.tree.Tree.TheViews.{Test}
use Rattle.source_tree.proofs.Gives.{gives-Test}

-- What each kind of tree gives

-- The rows of a Test, as they are made

meets_more : (rows : List Form) (row : Form) (x : List ℤ) → Meets rows x → pos 0 ≤ℤ form_at row x
    → Meets (rows ++ row ∷ []) x
meets_more rows row x h k = All-append (λ row. pos 0 ≤ℤ form_at row x) rows (row ∷ []) h
    (All-cons (λ row. pos 0 ≤ℤ form_at row x) row [] k (All-nil _))

module _ (w : Writes) (context above below : System) (form other : Form) (tests : ℕ) (yes no tree : Tree)
    (is : tree ≡ Test form yes no)
    (over : length form.coefs ≡ w.vars) (small : IsWithin (2 ^ 48) form)
    (other_is : negation_of form ≡ Some other)
    (above_is : above ≡ record context { rows = context.rows ++ form ∷ [] })
    (below_is : below ≡ record context { rows = context.rows ++ other ∷ [] })
    (yes_is : IsAnswer w above tests yes) (no_is : IsAnswer w below tests no) where
  abbrev IsChecked : Context → Tree → Type 0
  IsChecked = IsCheckedFor (read_of w) (write_of w) w.level

  test_checked : (c : Context) → c.vars ≡ w.vars → row_forms c.vars c.rows ≡ Some context.rows
      → IsChecked c tree
  test_checked c vars_is rows_is =
      let here : length form.coefs ≡ c.vars = over ∙ sym vars_is in
      at_test c tree form yes no is here (IsWithin-weaker (2 ^ 48) (2 ^ 49 + 1) form (omega arith) small)
      (yes_is.checked (test_yes c form) vars_is
      (more_made c context.rows (Take form) form rows_is (taken_made c.vars form here)
      ∙ ap (λ (s : System). Some s.rows) (sym above_is)))
      (no_is.checked (test_no c form) vars_is
      (more_made c context.rows (below_zero (Take form)) other rows_is (opposite_made c.vars form other here other_is)
      ∙ ap (λ (s : System). Some s.rows) (sym below_is)))

  test_greatest : (x : List ℤ) → length x ≡ w.vars → Meets context.rows x
      → IsGreatest (read_of w) (write_of w) w.level x (gives tree x)
  test_greatest x long meets =
      subst (IsGreatest (read_of w) (write_of w) w.level x) (sym (gives-Test x tree form yes no is))
      (go (int_le (pos 0) (form_at form x)) refl) where
        go : (b : Bool) → int_le (pos 0) (form_at form x) ≡ b
            → IsGreatest (read_of w) (write_of w) w.level x (cond b (gives yes x) (gives no x))
        go true e = yes_is.greatest x long (subst (λ (s : System). Meets s.rows x) (sym above_is)
            (meets_more context.rows form x meets (int_le-true (pos 0) (form_at form x) e)))
        go false e =
            let below_zero_at : pos 0 ≤ℤ form_at other x =
            omega (arith, ints, negation_at form other x other_is, int_le-false (pos 0) (form_at form x) e) in
            no_is.greatest x long (subst (λ (s : System). Meets s.rows x) (sym below_is)
            (meets_more context.rows other x meets below_zero_at))

  pub answer_test : IsAnswer w context (tests + 1) tree
  answer_test = record {
    checked = test_checked;
    simple = simple_test tests tree form yes no is small yes_is.simple no_is.simple;
    greatest = test_greatest;
  }
