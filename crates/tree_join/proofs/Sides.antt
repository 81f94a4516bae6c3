-- What goes on with a candidate on both sides of a Test.
--
-- Below a Test of its own tree the candidate's context has one row more, which is the last row of the joined context on
-- that side and shows itself. Below a Test of two points the comparison of each side stands in the context of that
-- side.
use Rattle.std.proofs.Common.{◌≡◌, ◌+◌, ◌^◌, ℕ, List, [], ◌∷◌, ◌++◌, length, refl, sym, ap, ◌∙◌, subst, arith}
use Rattle.std.specs.Prelude.{Option, Some}
use Rattle.affine_core.specs.declared.form.Form.{Form}
use Rattle.int_polyhedra.specs.declared.system.Proof.{Proof}
use Rattle.int_polyhedra.specs.declared.system.System.{System}
use Rattle.int_polyhedra.specs.declared.system.Term.{Term}
use Rattle.int_polyhedra.specs.Steps.{negation_of}
use Rattle.tree_order.specs.Candidates.{IsCandidate}
use Rattle.tree_order.specs.Comparisons.{AreForms, IsComparison}
use Rattle.tree_join.specs.Joining.{ArePair, IsStanding}
use Rattle.tree_join.specs.Walking.{IsTestForm}
use Rattle.tree_order.specs.Refutations.{IsPointIn}
use Rattle.tree_order.specs.Positions.{IsAt, IsNode, IsPointAt}
use Rattle.tree_order.specs.declared.candidates.Candidate.{Candidate}
use Rattle.tree_order.specs.declared.candidates.Read.{Read}
use Rattle.tree_order.specs.declared.compare.Comparison.{Comparison}
use Rattle.tree_order.specs.declared.compare.Pair.{Pair}
use Rattle.tree_order.specs.declared.seen.Position.{Position}
use Rattle.tree_order.proofs.NextLoop.{own_fact}
use Rattle.tree_join.proofs.Between.{point_is}
use Rattle.tree_order.proofs.LongerContexts.{at_behind, node_behind}
use Rattle.tree_order.proofs.TreeNodes.{node_no, node_yes, test_over, test_within}
use Rattle.tree_graphs.proofs.Nodes.{checked_point, IsCheckedPoint}
use Rattle.tree_graphs.specs.Asked.{read_of, write_of}
use Rattle.tree_graphs.specs.Facts.{form_parts, with_form}
use Rattle.tree_graphs.specs.Level.{common_of}
use Rattle.tree_graphs.specs.Paths.{term_of}
use Rattle.tree_graphs.specs.declared.writes.Writes.{Writes}
use Rattle.tree_sums.proofs.Within.{IsWithin-weaker}
use Rattle.source_tree.specs.declared.tree.Tree.{Tree}
use Rattle.source_tree.specs.declared.tree.Tree.TheVariants.{Writer}
use Rattle.source_tree.specs.declared.tree.Tree.TheViews.{Test}

-- a position, by its parts
pub is_at_from : (r : Read) (context : System) (at : Position) (c : Candidate) (node : Tree) (rows : List (List Term))
    → at.candidate.now ≡ c → at.node.now ≡ node → at.rows ≡ rows → IsCandidate r c
    → IsNode context c node rows → IsAt r context at
is_at_from r context at c node rows e f g h k = record {
  candidate = subst (IsCandidate r) (sym e) h;
  node = subst (λ c. IsNode context c at.node.now at.rows) (sym e)
      (subst (λ node. IsNode context c node at.rows) (sym f)
      (subst (λ rows. IsNode context c node rows) (sym g) k));
}

module _ (r : Read) (context : System) (c : Candidate) (node : Tree) (sums : List (List Term)) (form : Form)
    (yes_tree no_tree : Tree) (is : node ≡ Test form yes_tree no_tree) (h : IsCandidate r c)
    (k : IsNode context c node sums) where
  abbrev own : List (List Term)
  own = (term_of (length context.rows) ∷ []) ∷ []

  side_yes : IsNode (with_form context form) c yes_tree (sums ++ own)
  side_yes =
      node_yes (with_form context form) c node sums form yes_tree no_tree is
      (node_behind context (with_form context form) form refl c node sums k) (term_of (length context.rows) ∷ [])
      (own_fact context form (form_parts form) (λ part. refl))

  side_no : (other : Form) → negation_of form ≡ Some other → IsNode (with_form context other) c no_tree (sums ++ own)
  side_no other negated =
      node_no (with_form context other) c node sums form yes_tree no_tree is
      (node_behind context (with_form context other) other refl c node sums k) other
      (term_of (length context.rows) ∷ []) negated
      (own_fact context other (form_parts other) (λ part. refl))

  pub followed_sides : (above below : Position)
      → above.candidate.now ≡ c → below.candidate.now ≡ c → above.node.now ≡ yes_tree
      → below.node.now ≡ no_tree → above.rows ≡ sums ++ own → below.rows ≡ sums ++ own
      → IsAt r (with_form context form) above
      × ((other : Form) → negation_of form ≡ Some other → IsAt r (with_form context other) below)
  followed_sides above below e f g n a b = (
    is_at_from r (with_form context form) above c yes_tree (sums ++ own) e g a h side_yes,
    λ other negated. is_at_from r (with_form context other) below c no_tree (sums ++ own) f n b h
        (side_no other negated),
  )

  pub followed_form : IsTestForm context form
  followed_form = record {
    over = test_over context c node sums form yes_tree no_tree is k;
    within = IsWithin-weaker (2 ^ 48) (2 ^ 49 + 1) form (omega arith)
        (test_within context c node sums form yes_tree no_tree is k);
  }

-- Two points

pub pair_is : (r : Read) (context : System) (best at : Position) (pair : Pair) (y z : List Form) → IsAt r context best
    → IsAt r context at → IsPointAt best y → IsPointAt at z → pair.best.now ≡ y → pair.new.now ≡ z
    → pair.best_writer ≡ (write_of best.candidate.now.writes).number → pair.new_writer
    ≡ (write_of at.candidate.now.writes).number
    → pair.common ≡ common_of (write_of best.candidate.now.writes) (write_of at.candidate.now.writes)
    → ArePair context best at pair
pair_is r context best at pair y z h k y_at z_at y_is z_is first second common =
    let a : IsPointIn context (write_of best.candidate.now.writes) y = point_is r context best y h y_at in
    let b : IsPointIn context (write_of at.candidate.now.writes) z = point_is r context at z k z_at in
    record {
      points = record {
        best_writer = first;
        new_writer = second;
        common = common;
        best_deep = ap length y_is ∙ a.deep;
        new_deep = ap length z_is ∙ b.deep;
        best_forms = subst (AreForms context.vars) (sym y_is) a.forms;
        new_forms = subst (AreForms context.vars) (sym z_is) b.forms;
      };
      best_is = subst (IsPointAt best) (sym y_is) y_at;
      new_is = subst (IsPointAt at) (sym z_is) z_at;
    }

pair_there : (context : System) (form : Form) (best at : Position) (pair : Pair) → ArePair context best at pair
    → ArePair (with_form context form) best at pair
pair_there context form best at pair h = record { points = h.points; best_is = h.best_is; new_is = h.new_is }

-- a comparison on one side
pub standing_there : (r : Read) (context : System) (form : Form) (best : Option Position) (at b : Position)
    (pair : Pair) (comparison : Comparison) → IsAt r context at → best ≡ Some b → ArePair context b at pair
    → IsComparison (with_form context form) (write_of b.candidate.now.writes)
    (write_of at.candidate.now.writes) pair comparison
    → IsAt r (with_form context form) at × IsStanding best (with_form context form) at pair comparison
standing_there r context form best at b pair comparison h is p stands =
    (at_behind context (with_form context form) form refl r at h, (b, is, pair_there context form b at pair p, stands))

-- a Writer leaf names the candidate's own statement
pub point_here : (r : Read) (context : System) (at : Position) (s : ℕ) (place : List Form) (proofs : List Proof)
    → IsAt r context at → at.node.now ≡ Writer s place proofs → IsPointAt at place
point_here r context at s place proofs h is =
    let w : Writes = at.candidate.now.writes in
    let k : IsCheckedPoint (read_of w) (write_of w) w.level h.node.own s place proofs
    = checked_point (read_of w) (write_of w) w.level h.node.own at.node.now s place proofs h.node.checked is in
    (proofs, is ∙ ap (λ s. Writer s place proofs) k.number)
