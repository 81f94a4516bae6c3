-- A branch none of whose proofs names its Test's row is checked without that row.
--
-- Below the branch's root the rows of a context are those of the root, and behind them one for each Test, so the row that
-- is away stands at the same place in all of them: by induction over the tree each leaf's proofs refute its systems
-- without the row. Forms, their sizes and the order of the leaves don't change. Such a tree is checked in each context
-- whose rows are made as these, and a Test's row can be made as itself.
use Rattle.std.proofs.Common.{◌≡◌, ◌+◌, ◌^◌, ℕ, suc, List, [], ◌∷◌, ◌++◌, length, map, Bool, true, false, cond}
use Rattle.std.proofs.Common.{refl, sym, ap, ◌∙◌, subst, arith}
use Rattle.std.specs.Prelude.{Some, All}
use Rattle.std.specs.Option.{option_and_then}
use Rattle.std.proofs.lemmas.Bool.{or_from, or_parts}
use Rattle.std.proofs.lemmas.List.{append-nil, append_assoc}
use Rattle.std.proofs.lemmas.List.Elements.{All-nil, All-cons, All-head, All-tail}
use Rattle.std.proofs.lemmas.Option.{same_Some, option_and_then_some}
use Rattle.affine_core.specs.declared.form.Form.{Form}
use Rattle.tree_graphs.specs.Contexts.{IsMadeAs}
use Rattle.tree_graphs.specs.Joint.{at_dead, at_test, at_writer, at_zero, no_orders, place_systems, write_systems_of}
use Rattle.tree_graphs.specs.Joint.{IsCheckedForAll, IsSum, IsTreeFor}
use Rattle.tree_graphs.specs.Joint.{ReadAndWrite}
use Rattle.int_polyhedra.specs.declared.system.Proof.{Proof}
use Rattle.int_polyhedra.specs.declared.system.System.{System}
use Rattle.int_polyhedra.specs.Steps.{negation_of}
use Rattle.int_polyhedra.proofs.Variables.{negation_over}
use Rattle.tree_graphs.specs.Facts.{with_form}
use Rattle.tree_graphs.proofs.Small.{opposite_fits, opposite_form}
use Rattle.tree_graphs.proofs.MadeRows.{more_made, opposite_made, taken_made}
use Rattle.tree_sums.specs.Parts.{IsWithin}
use Rattle.tree_sums.proofs.Within.{IsWithin-weaker}
use Rattle.source_tree.specs.Checked.{AreRefuted}
use Rattle.source_tree.specs.Rows.{RowExpr, RowSystem, Take, below_zero, row_form, row_forms}
use Rattle.source_tree.specs.Systems.{dead_systems, every, test_no, test_yes, Context}
use Rattle.source_tree.specs.declared.tree.Tree.{Tree}
use Rattle.source_tree.specs.declared.tree.Tree.TheViews.{Test}
use Rattle.tree_trim.specs.Proofs.{names_row}
use Rattle.tree_trim.specs.Renumbering.{proof_without, terms_without}
use Rattle.tree_trim.specs.declared.renumbering.Renumbering.TheVariants.{Without}
use Rattle.tree_trim.specs.Sides.{AreJoinedSides, IsJoinedBranch}
use Rattle.tree_trim.specs.Trees.{branch_or_test, proofs_name, proofs_without, tree_names_row, tree_without}
use Rattle.tree_trim.proofs.Naming.{names_dead, names_test, names_writer, names_zero, without_dead, renumbered_sum}
use Rattle.tree_trim.proofs.Naming.{without_test, without_writer, without_zero}
use Rattle.tree_trim.proofs.Systems.{dead_behind, no_rows, behind, place_behind, systems_without, zero_behind, AreBehind}

sums_without : (k : ℕ) (proofs : List Proof) → All IsSum proofs → All IsSum (proofs_without k proofs)
sums_without k [] sums = All-nil IsSum
sums_without k (proof ∷ proofs) sums =
    let h : IsSum proof = All-head IsSum proof proofs sums in
    All-cons IsSum (proof_without k proof) (proofs_without k proofs)
    (terms_without k h.0, ap (proof_without k) h.1 ∙ renumbered_sum (Without k) h.0)
    (sums_without k proofs (All-tail IsSum proof proofs sums))

abbrev rows_over : ℕ → List RowExpr → Context
rows_over vars rows = record { vars = vars; rows = rows }

module _ (pairs : List ReadAndWrite) (before : List RowExpr) (e : RowExpr) where
  abbrev k : ℕ
  k = length before

  leaf_without : (systems : Context → List RowSystem) → AreBehind systems → (c : Context) (proofs : List Proof)
      → AreRefuted (systems c) proofs → (after : List RowExpr) → c.rows ≡ before ++ e ∷ after
      → proofs_name k proofs ≡ false
      → AreRefuted (systems (rows_over c.vars (before ++ after))) (proofs_without k proofs)
  leaf_without systems are c proofs refuted after at none =
      let own : List RowSystem = systems (no_rows c.vars) in
      subst (λ ss. AreRefuted ss (proofs_without k proofs)) (sym (are (rows_over c.vars (before ++ after))))
      (systems_without before after e own proofs none
      (subst (λ rows. AreRefuted (map (behind rows) own) proofs) at
      (subst (λ ss. AreRefuted ss proofs) (are c) refuted)))

  pub checked_without : (c : Context) (tree : Tree) → IsCheckedForAll every pairs c tree → (after : List RowExpr)
      → c.rows ≡ before ++ e ∷ after → tree_names_row k tree ≡ false
      → IsCheckedForAll every pairs (rows_over c.vars (before ++ after)) (tree_without k tree)
  checked_without _ _ (at_test c tree form a b is over within first second) after at none =
      let n = or_parts (tree_names_row k a) (tree_names_row k b)
      (sym (names_test k form a b) ∙ ap (tree_names_row k) (sym is) ∙ none) in
      let one : List RowExpr = Take form ∷ [] in
      let other : List RowExpr = below_zero (Take form) ∷ [] in
      at_test (rows_over c.vars (before ++ after)) (tree_without k tree) form (tree_without k a) (tree_without k b)
      (ap (tree_without k) is ∙ without_test k form a b) over within
      (subst (λ rows. IsCheckedForAll every pairs (rows_over c.vars rows) (tree_without k a))
      (sym (append_assoc before after one))
      (checked_without (test_yes c form) a first (after ++ one)
      (ap (λ rows. rows ++ one) at ∙ append_assoc before (e ∷ after) one) n.0))
      (subst (λ rows. IsCheckedForAll every pairs (rows_over c.vars rows) (tree_without k b))
      (sym (append_assoc before after other))
      (checked_without (test_no c form) b second (after ++ other)
      (ap (λ rows. rows ++ other) at ∙ append_assoc before (e ∷ after) other) n.1))
  checked_without _ _ (at_writer c tree number place proofs is point) after at none =
      let n : proofs_name k proofs ≡ false =
      sym (names_writer k number place proofs) ∙ ap (tree_names_row k) (sym is) ∙ none in
      let o : ReadAndWrite = point.pair in
      at_writer (rows_over c.vars (before ++ after)) (tree_without k tree) number place (proofs_without k proofs)
      (ap (tree_without k) is ∙ without_writer k number place proofs)
      (record {
        pair = o;
        among = point.among;
        number_is = point.number_is;
        deep = point.deep;
        over = point.over;
        within = point.within;
        refuted = leaf_without (place_systems every pairs o place) (place_behind pairs o place) c proofs point.refuted
            after at n;
        sums = sums_without k proofs point.sums;
      })
  checked_without _ _ (at_zero c tree proofs is refuted sums) after at none =
      let n : proofs_name k proofs ≡ false =
      sym (names_zero k proofs) ∙ ap (tree_names_row k) (sym is) ∙ none in
      at_zero (rows_over c.vars (before ++ after)) (tree_without k tree) (proofs_without k proofs)
      (ap (tree_without k) is ∙ without_zero k proofs)
      (leaf_without (λ c. write_systems_of every pairs c no_orders) (zero_behind pairs) c proofs refuted after at n)
      (sums_without k proofs sums)
  checked_without _ _ (at_dead c tree proof is refuted) after at none =
      let n : names_row k proof ≡ false = sym (names_dead k proof) ∙ ap (tree_names_row k) (sym is) ∙ none in
      at_dead (rows_over c.vars (before ++ after)) (tree_without k tree) (proof_without k proof)
      (ap (tree_without k) is ∙ without_dead k proof)
      (leaf_without dead_systems dead_behind c (proof ∷ []) refuted after at
      (or_from (names_row k proof) false n refl))

-- Joined trees

pub rows_made : (vars : ℕ) (es : List RowExpr) (rows : List Form) → row_forms vars es ≡ Some rows
    → length es ≡ length rows
rows_made vars [] rows made = ap length (same_Some [] rows made)
rows_made vars (e ∷ es) rows made =
    option_and_then_some (λ row. option_and_then (λ others. Some (row ∷ others)) (row_forms vars es))
    (row_form vars e) rows made
    (λ row row_is rest. option_and_then_some (λ others. Some (row ∷ others)) (row_forms vars es) rows rest
    (λ others others_is end.
    ap suc (rows_made vars es others others_is) ∙ ap length (same_Some (row ∷ others) rows end)))

pub branch_joined : (pairs : List ReadAndWrite) (context : System) (row : Form) (tree : Tree)
    → length row.coefs ≡ context.vars
    → IsTreeFor pairs (with_form context row) tree → tree_names_row (length context.rows) tree ≡ false
    → IsTreeFor pairs context (tree_without (length context.rows) tree)
branch_joined pairs context row tree over h none c made =
    let here : length row.coefs ≡ c.vars = over ∙ sym made.vars in
    let count : length c.rows ≡ length context.rows = rows_made c.vars c.rows context.rows made.rows in
    let longer : IsMadeAs (with_form context row) (test_yes c row) = record {
      vars = made.vars;
      rows = more_made c context.rows (Take row) row made.rows (taken_made c.vars row here);
    } in
    let less : IsCheckedForAll every pairs (rows_over c.vars (c.rows ++ [])) (tree_without (length c.rows) tree) =
    checked_without pairs c.rows (Take row) (test_yes c row) tree (h (test_yes c row) longer) [] refl
    (ap (λ n. tree_names_row n tree) count ∙ none) in
    subst (λ n. IsCheckedForAll every pairs c (tree_without n tree)) count
    (subst (λ rows. IsCheckedForAll every pairs (rows_over c.vars rows) (tree_without (length c.rows) tree))
    (append-nil c.rows) less)

pub unnamed_joined : (pairs : List ReadAndWrite) (context : System) (k : ℕ) (row : Form) (tree : Tree)
    → IsJoinedBranch pairs context k row tree → IsTreeFor pairs context (tree_without k tree)
unnamed_joined pairs context k row tree h =
    subst (λ k. IsTreeFor pairs context (tree_without k tree)) (sym h.number)
    (branch_joined pairs context row tree h.over h.joined (ap (λ k. tree_names_row k tree) (sym h.number) ∙ h.unnamed))

pub joined_test : (pairs : List ReadAndWrite) (context : System) (form other : Form) (above below : Tree)
    → length form.coefs ≡ context.vars → IsWithin (2 ^ 49 + 1) form → negation_of form ≡ Some other
    → IsTreeFor pairs (with_form context form) above → IsTreeFor pairs (with_form context other) below
    → IsTreeFor pairs context (Test form above below)
joined_test pairs context form other above below over within negated h k c made =
    let here : length form.coefs ≡ c.vars = over ∙ sym made.vars in
    at_test c (Test form above below) form above below refl here within
    (h (test_yes c form) (record {
      vars = made.vars;
      rows = more_made c context.rows (Take form) form made.rows (taken_made c.vars form here);
    }))
    (k (test_no c form) (record {
      vars = made.vars;
      rows = more_made c context.rows (below_zero (Take form)) other made.rows
          (opposite_made c.vars form other here negated);
    }))

module _ (pairs : List ReadAndWrite) (context : System) (form : Form) (above below : Tree) where
  abbrev n : ℕ
  n = length context.rows

  abbrev other : Form
  other = opposite_form form

  by_names : (a b : Bool) → tree_names_row n above ≡ a → tree_names_row n below ≡ b
      → AreJoinedSides pairs context n form above below
      → IsTreeFor pairs context (cond a (cond b (Test form above below) (tree_without n below)) (tree_without n above))
  by_names false b above_names below_names h = branch_joined pairs context form above h.over h.above_is above_names
  by_names true false above_names below_names h =
      let negated : negation_of form ≡ Some other =
      opposite_fits form (IsWithin-weaker (2 ^ 49 + 1) (2 ^ 60) form (omega arith) h.within) in
      branch_joined pairs context other below (negation_over form other (sym negated) ∙ h.over)
      (h.below_is other negated) below_names
  by_names true true above_names below_names h =
      let negated : negation_of form ≡ Some other =
      opposite_fits form (IsWithin-weaker (2 ^ 49 + 1) (2 ^ 60) form (omega arith) h.within) in
      joined_test pairs context form other above below h.over h.within negated h.above_is (h.below_is other negated)

pub sides_joined : (pairs : List ReadAndWrite) (context : System) (k : ℕ) (form : Form) (above below : Tree)
    → AreJoinedSides pairs context k form above below → IsTreeFor pairs context (branch_or_test k form above below)
sides_joined pairs context k form above below h =
    let n : ℕ = length context.rows in
    subst (λ k. IsTreeFor pairs context (branch_or_test k form above below)) (sym h.row)
    (by_names pairs context form above below (tree_names_row n above) (tree_names_row n below) refl refl
    (subst (λ k. AreJoinedSides pairs context k form above below) h.row h))
