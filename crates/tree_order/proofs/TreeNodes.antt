-- Nodes of a tree that is checked and simple, one level further down.
--
-- A checked tree that is a Test is checked as a Test, and a simple one is simple as a Test.
-- On each side of a Test the candidate's own context has one row more, and so have the terms that show its rows in the
-- joined one.
use Rattle.std.proofs.Common.{◌≡◌, ◌^◌, List, [], ◌∷◌, ◌++◌, length, ◌∙◌}
use Rattle.std.proofs.Common.{arith}
use Rattle.std.specs.Prelude.{Some}
use Rattle.plain_data.proofs.Lists.{AllZip-push}
use Rattle.affine_core.specs.declared.form.Form.{Form}
use Rattle.int_polyhedra.specs.declared.system.System.{System}
use Rattle.int_polyhedra.specs.declared.system.Term.{Term}
use Rattle.int_polyhedra.specs.Steps.{negation_of}
use Rattle.tree_order.specs.Positions.{IsNode}
use Rattle.tree_order.specs.declared.candidates.Candidate.{Candidate}
use Rattle.tree_graphs.specs.Asked.{read_of, write_of}
use Rattle.tree_graphs.specs.Facts.{form_parts, IsFact}
use Rattle.tree_graphs.specs.Joint.{IsCheckedFor}
use Rattle.tree_graphs.proofs.Nodes.{checked_test, simple_both, AreBothChecked, AreBothSimple}
use Rattle.tree_graphs.proofs.MadeRows.{more_made, opposite_made, taken_made}
use Rattle.tree_sums.specs.Parts.{IsWithin}
use Rattle.source_tree.specs.Rows.{Take, below_zero}
use Rattle.source_tree.specs.Systems.{test_no, test_yes}
use Rattle.source_tree.specs.declared.tree.Tree.{Tree}
use Rattle.source_tree.specs.declared.tree.Tree.TheViews.{Test}

module _ (context : System) (c : Candidate) (node : Tree) (sums : List (List Term)) (form : Form)
    (yes_tree no_tree : Tree) (is : node ≡ Test form yes_tree no_tree) (h : IsNode context c node sums) where
  parts : AreBothChecked (IsCheckedFor (read_of c.writes) (write_of c.writes) c.writes.level) h.own form yes_tree
      no_tree
  parts = checked_test h.own node form yes_tree no_tree h.checked is

  simple : AreBothSimple h.tests form yes_tree no_tree
  simple = simple_both h.tests node form yes_tree no_tree h.simple is

  pub test_over : length form.coefs ≡ context.vars
  test_over = parts.over ∙ h.vars

  pub test_within : IsWithin (2 ^ 48) form
  test_within = simple.within

  pub node_yes : (ts : List Term) → IsFact context 65536 (form_parts form) ts
      → IsNode context c yes_tree (sums ++ ts ∷ [])
  node_yes ts fact = record {
    own = test_yes h.own form;
    made = h.made ++ form ∷ [];
    vars = h.vars;
    are_made = more_made h.own h.made (Take form) form h.are_made (taken_made h.own.vars form parts.over);
    checked = parts.above;
    shown = AllZip-push (λ row ts. IsFact context 65536 (form_parts row) ts) h.made sums form ts h.shown fact;
    tests = simple.fewer;
    simple = simple.above;
    few = omega (arith, simple.less, h.few);
  }

  pub node_no : (other : Form) (ts : List Term) → negation_of form ≡ Some other
      → IsFact context 65536 (form_parts other) ts → IsNode context c no_tree (sums ++ ts ∷ [])
  node_no other ts negated fact = record {
    own = test_no h.own form;
    made = h.made ++ other ∷ [];
    vars = h.vars;
    are_made = more_made h.own h.made (below_zero (Take form)) other h.are_made
        (opposite_made h.own.vars form other parts.over negated);
    checked = parts.below;
    shown = AllZip-push (λ row ts. IsFact context 65536 (form_parts row) ts) h.made sums other ts h.shown fact;
    tests = simple.fewer;
    simple = simple.below;
    few = omega (arith, simple.less, h.few);
  }
