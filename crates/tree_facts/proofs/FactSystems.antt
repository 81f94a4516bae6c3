-- Systems whose context has facts behind its own rows, and the same without them.
--
-- A leaf's system is rows behind those of the context, over the context's variables or more. The facts' rows, widened,
-- are what the Cuts add to the context's rows, widened; so its proof becomes one without the facts.
use Rattle.std.proofs.Common.{◌≡◌, ◌+◌, ◌≤◌, ℕ, suc, List, [], ◌∷◌, ◌++◌, length, map}
use Rattle.std.proofs.Common.{refl, sym, ap, ◌∙◌, subst, arith, append_assoc, length-append}
use Rattle.std.specs.Prelude.{Some}
use Rattle.std.specs.Option.{option_and_then}
use Rattle.std.proofs.lemmas.Option.{option_and_then_some, same_Some}
use Rattle.affine_core.specs.declared.form.Form.{Form}
use Rattle.affine_core.specs.Affine.{widened_form}
use Rattle.tree_graphs.proofs.MadeRows.{taken_all}
use Rattle.tree_graphs.proofs.RowBounds.{forms_append}
use Rattle.int_polyhedra.specs.declared.system.Proof.{Proof}
use Rattle.int_polyhedra.specs.Rules.{Refutes}
use Rattle.tree_sums.proofs.RowParts.{made_widens}
use Rattle.source_tree.specs.Checked.{IsRefuted}
use Rattle.source_tree.specs.Rows.{RowExpr, Take, row_form, row_forms}
use Rattle.source_tree.specs.Systems.{Context}
use Rattle.tree_cuts.specs.declared.cuts.Cut.{Cut}
use Rattle.tree_facts.specs.Cuts.{proof_by_cuts}
use Rattle.tree_facts.specs.Facts.{fact_rows, AddFacts, HoldsWithoutFacts}
use Rattle.tree_facts.proofs.ByCuts.{refutes_by_cuts}
use Rattle.tree_facts.proofs.Wider.{add_wider}
use Rattle.tree_trim.proofs.Trimming.{rows_made}

-- rows one behind the other, as they are made
record AreParted (vars : ℕ) (xs ys : List RowExpr) (rows : List Form) : Type 0 where
  front : List Form
  back : List Form
  front_made : row_forms vars xs ≡ Some front
  back_made : row_forms vars ys ≡ Some back
  is : rows ≡ front ++ back
  count : length front ≡ length xs

parted : (vars : ℕ) (xs ys : List RowExpr) (rows : List Form) → row_forms vars (xs ++ ys) ≡ Some rows
    → AreParted vars xs ys rows
parted vars [] ys rows made =
    record { front = []; back = rows; front_made = refl; back_made = made; is = refl; count = refl }
parted vars (x ∷ xs) ys rows made =
    option_and_then_some
    (λ first. option_and_then (λ others. Some (first ∷ others)) (row_forms vars (xs ++ ys)))
    (row_form vars x) rows made
    (λ first first_is rest.
    option_and_then_some (λ others. Some (first ∷ others)) (row_forms vars (xs ++ ys)) rows rest
    (λ others others_is end.
    (let h : AreParted vars xs ys others = parted vars xs ys others others_is in
    record {
      front = first ∷ h.front;
      back = h.back;
      front_made =
          ap (option_and_then (λ first. option_and_then (λ others. Some (first ∷ others)) (row_forms vars xs)))
          first_is ∙ ap (option_and_then (λ others. Some (first ∷ others))) h.front_made;
      back_made = h.back_made;
      is = sym (same_Some (first ∷ others) rows end) ∙ ap (λ others. first ∷ others) h.is;
      count = ap suc h.count;
    })))

pub system_away : HoldsWithoutFacts
system_away c cuts facts v more p h le r =
    let front : List Form = map (widened_form v) h.rows in
    let told : List Form = map (widened_form v) facts in
    let front_made : row_forms v c.rows ≡ Some front = made_widens c.vars v c.rows h.rows le h.made in
    let told_made : row_forms v (map Take facts) ≡ Some told =
    made_widens c.vars v (map Take facts) facts le (taken_all c.vars facts h.facts_over) in
    let first : AreParted v c.rows (fact_rows facts more) r.rows =
    parted v c.rows (fact_rows facts more) r.rows r.are_made in
    let second : AreParted v (map Take facts) more first.back =
    parted v (map Take facts) more first.back first.back_made in
    let same_front : first.front ≡ front = same_Some first.front front (sym first.front_made ∙ front_made) in
    let same_told : second.front ≡ told = same_Some second.front told (sym second.front_made ∙ told_made) in
    let after : List Form = second.back in
    let rows_are : r.rows ≡ front ++ (told ++ after) =
    first.is ∙ ap (λ fs. fs ++ first.back) same_front
    ∙ ap (λ fs. front ++ fs) (second.is ∙ ap (λ fs. fs ++ after) same_told) in
    let refuted : Refutes v (front ++ after) (proof_by_cuts (length front) (length front + length after) cuts p) =
    refutes_by_cuts v front told after cuts p (add_wider c.vars v h.rows cuts facts le h.over h.add)
    (subst (λ rows. Refutes v rows p) rows_are r.refuted) in
    let front_count : length front ≡ length c.rows = ap length (sym same_front) ∙ first.count in
    let counts : length front + length after ≡ length (c.rows ++ more) =
    omega (arith, front_count, rows_made v more after second.back_made, length-append c.rows more) in
    record {
      rows = front ++ after;
      are_made = forms_append v c.rows more front after front_made second.back_made;
      refuted = subst (λ k. Refutes v (front ++ after) (proof_by_cuts k (length (c.rows ++ more)) cuts p)) front_count
          (subst (λ n. Refutes v (front ++ after) (proof_by_cuts (length front) n cuts p)) counts refuted);
    }

-- rows behind the facts, and rows of the system behind those
pub one_away : (c : Context) (cuts : List Cut) (facts : List Form) (rest more : List RowExpr) (vars : ℕ) (p : Proof)
    → AddFacts c cuts facts → c.vars ≤ vars
    → IsRefuted (record { vars = vars; rows = (c.rows ++ fact_rows facts rest) ++ more }) p
    → IsRefuted (record { vars = vars; rows = (c.rows ++ rest) ++ more })
    (proof_by_cuts (length c.rows) (length ((c.rows ++ rest) ++ more)) cuts p)
one_away c cuts facts rest more vars p h le r =
    let behind : List RowExpr = rest ++ more in
    let apart : (c.rows ++ fact_rows facts rest) ++ more ≡ c.rows ++ fact_rows facts behind =
    append_assoc c.rows (fact_rows facts rest) more
    ∙ ap (λ rows. c.rows ++ rows) (append_assoc (map Take facts) rest more) in
    let own : c.rows ++ behind ≡ (c.rows ++ rest) ++ more = sym (append_assoc c.rows rest more) in
    subst (λ rows. IsRefuted (record { vars = vars; rows = rows }) (proof_by_cuts (length c.rows) (length rows) cuts p)) own
    (system_away c cuts facts vars behind p h le
    (subst (λ rows. IsRefuted (record { vars = vars; rows = rows }) p) apart r))
