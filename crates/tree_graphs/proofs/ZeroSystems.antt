-- The system of a write at a point before the read, and the Zero leaf.
--
-- The rows of the system are those of the context, over more variables, and those of the writer's point, which the
-- edges tell. All are small, so all can be made, and the rows that were made have the edges' parts. What a context
-- shows and a cycle of edges contradict each other in this system too, since on a cycle the writer's point cancels.
use Rattle.std.proofs.Common.{◌≡◌, ◌+◌, ◌≤◌, ◌<◌, ℕ, zero, suc, List, [], ◌∷◌, ◌++◌, length, map, true}
use Rattle.std.proofs.Common.{sym, ap, ◌∙◌, subst, arith, append_assoc, inl, inr, ◌⊎◌, lt-ltb}
use Rattle.std.specs.Prelude.{Some, All, nat_lt}
use Rattle.std.proofs.lemmas.List.{append-nil}
use Rattle.affine_core.specs.declared.form.Form.{Form}
use Rattle.affine_core.specs.Affine.{variable_form, widened_form}
use Rattle.int_polyhedra.specs.declared.system.Proof.{Proof}
use Rattle.int_polyhedra.specs.declared.system.Proof.TheVariants.{Sum}
use Rattle.int_polyhedra.specs.declared.system.Term.{Term}
use Rattle.int_polyhedra.specs.Systems.{AreOver}
use Rattle.tree_graphs.specs.Cycles.{IsContradiction}
use Rattle.tree_graphs.specs.Problems.{IsProblem}
use Rattle.tree_graphs.specs.Edges.{write_rows, AreEdges, AreEdgesOf, AreLevelRows}
use Rattle.tree_graphs.specs.Level.{common_of, HasLevel}
use Rattle.tree_graphs.specs.Paths.{terms_from}
use Rattle.tree_graphs.specs.Joint.{none_systems}
use Rattle.tree_graphs.specs.declared.edges.Edge.{Edge}
use Rattle.tree_graphs.proofs.ProblemBounds.{known_of, IsKnown}
use Rattle.tree_graphs.proofs.Just.{none_system}
use Rattle.tree_graphs.proofs.OrderEdges.{length_variables, variable_over, variable_within}
use Rattle.tree_graphs.proofs.EdgeSums.{cycle_refutes, AreRowsOf, IsBase}
use Rattle.tree_graphs.proofs.RowBounds.{are_made, edges_count, edges_parts, forms_append, level_at, most_made, most_taken}
use Rattle.tree_graphs.proofs.RowBounds.{small_append, small_cells, small_domain, AreMade, AreSmall, AreTaken, IsSmallLevel}
use Rattle.tree_sums.specs.Parts.{IsWithin}
use Rattle.tree_sums.proofs.RowParts.{made_widens}
use Rattle.tree_sums.proofs.Within.{IsWithin-weaker}
use Rattle.source_tree.specs.Checked.{AreRefuted, IsRefuted}
use Rattle.source_tree.specs.Places.{cell_rows, domain_rows, variables}
use Rattle.source_tree.specs.Rows.{RowExpr, RowSystem, row_forms}
use Rattle.source_tree.specs.Systems.{Occurrence, Context, reader_place, writer_place, with_rows, with_write_at}

-- variables are small forms
pub variables_taken : (vars i d : ℕ) → i + d ≤ vars → AreTaken vars (variables i d)
variables_taken vars i zero le = tt
variables_taken vars i (suc d) le = (
  record {
    short = (let long : length (variable_form (i + 1) i).coefs ≡ i + 1 = variable_over (i + 1) i (omega arith)
        in omega (arith, long, le));
    within = IsWithin-weaker 1 most_taken (variable_form (i + 1) i) (omega arith) (variable_within (i + 1) i);
  },
  variables_taken vars (i + 1) d (omega (arith, le)),
)

pub level_exists : (r w : Occurrence) (p : ℕ) → HasLevel r w p
    → (p < common_of w r) ⊎ ((p ≡ common_of w r) × (nat_lt w.number r.number ≡ true))
level_exists r w p has = elim has [ inl lt ↦ inl lt | inr at ↦ inr (at.0, lt-ltb w.number r.number at.1) ]

regroup : (c d e l m : List RowExpr) → (c ++ (d ++ e)) ++ (l ++ m) ≡ (c ++ (d ++ (e ++ l))) ++ m
regroup c d e l m =
    append_assoc c (d ++ e) (l ++ m)
    ∙ ap (λ x. c ++ x) (append_assoc d e (l ++ m) ∙ ap (λ x. d ++ x) (sym (append_assoc e l m)))
    ∙ ap (λ x. c ++ x) (sym (append_assoc d (e ++ l) m)) ∙ sym (append_assoc c (d ++ (e ++ l)) m)

-- the system, as it is made
pub record IsPlaced (r w : Occurrence) (p : ℕ) (c : Context) (context : List Form)
    (edges : List Edge) : Type 0 where
  pub level : List RowExpr
  pub level_is : AreLevelRows r w p (writer_place c w) level
  pub forms : List Form
  pub over : AreOver (c.vars + length w.statement.loops) forms
  pub within : All (IsWithin most_made) forms
  pub are : AreRowsOf (writer_place c w) edges forms
  pub made : row_forms (c.vars + length w.statement.loops) (c.rows ++ write_rows r w level (writer_place c w))
      ≡ Some (map (widened_form (c.vars + length w.statement.loops)) context ++ forms)
  pub own : row_forms (c.vars + length w.statement.loops) (write_rows r w level (writer_place c w)) ≡ Some forms
  pub rows_are : (m : List RowExpr) → (with_rows (with_write_at r c w) (level ++ m)).rows
      ≡ (c.rows ++ write_rows r w level (writer_place c w)) ++ m

pub placed : (vars : ℕ) (r w : Occurrence) (p : ℕ) (c : Context) (context : List Form) (edges : List Edge)
    → IsProblem vars r w p → c.vars ≡ vars
    → row_forms c.vars c.rows ≡ Some context → AreEdgesOf r w p edges → IsPlaced r w p c context edges
placed vars r w p c context edges problem vars_is context_is edges_are =
    let f : IsKnown vars r w p = known_of vars r w p problem in
    let e : ℕ = length w.statement.loops in
    let more : ℕ = c.vars + e in
    let place : List Form = writer_place c w in
    let long : length place ≡ e = length_variables c.vars e in
    let own : AreTaken more place = variables_taken more c.vars e (omega arith) in
    let readers : AreTaken more (reader_place r) =
    variables_taken more 0 (length r.statement.loops) (omega (arith, vars_is, f.reader)) in
    let level : IsSmallLevel more _ p
    = level_at more (common_of w r) p (nat_lt w.number r.number) place (reader_place r)
    (omega (arith, long, f.common_loops))
    (omega (arith, length_variables 0 (length r.statement.loops), f.common_vars))
    (level_exists r w p problem.level) own readers in
    let rows : List RowExpr = write_rows r w level.rows place in
    let small : AreSmall more rows
    = small_append more (domain_rows w.statement.rows place)
    (cell_rows w.access.subscripts r.access.subscripts place ++ level.rows)
    (small_domain more e w.statement.rows place f.few_loops f.rows own)
    (small_append more (cell_rows w.access.subscripts r.access.subscripts place) level.rows
    (small_cells more vars e w.access.subscripts r.access.subscripts place
    (omega (arith, vars_is)) f.few_loops f.cells own) level.small) in
    let made : AreMade more rows = are_made more rows small in
    let are : AreEdges place rows edges = edges_are place level.rows long level.is in
    record {
      level = level.rows;
      level_is = level.is;
      forms = made.forms;
      over = made.over;
      within = made.within;
      are = record {
        count = made.count ∙ edges_count place rows edges are;
        parts = λ k part. made.parts k part
            ∙ edges_parts place rows edges are k part;
      };
      made = forms_append more c.rows rows (map (widened_form more) context) made.forms
          (made_widens c.vars more c.rows context (omega arith) context_is) made.are;
      own = made.are;
      rows_are = λ m. regroup c.rows (domain_rows w.statement.rows place)
          (cell_rows w.access.subscripts r.access.subscripts place) level.rows m;
    }

pub none_refuted : (vars : ℕ) (r w : Occurrence) (p : ℕ) (c : Context) (context : List Form) (edges : List Edge)
    (shown ts : List Term) → IsProblem vars r w p
    → c.vars ≡ vars → row_forms c.vars c.rows ≡ Some context → IsBase c.vars context
    → AreEdgesOf r w p edges → IsContradiction c.vars context edges shown ts
    → AreRefuted (none_systems r w p c) (Sum (shown ++ terms_from (length context) ts) ∷ [])
none_refuted vars r w p c context edges shown ts problem vars_is context_is base edges_are h =
    let s : IsPlaced r w p c context edges = placed vars r w p c context edges problem vars_is context_is edges_are in
    let more : ℕ = c.vars + length w.statement.loops in
    let system : RowSystem = with_rows (with_write_at r c w) (s.level ++ []) in
    let proof : Proof = Sum (shown ++ terms_from (length context) ts) in
    let whole : List Form = map (widened_form more) context ++ s.forms in
    let rows_are : system.rows ≡ c.rows ++ write_rows r w s.level (writer_place c w) = s.rows_are []
    ∙ append-nil (c.rows ++ write_rows r w s.level (writer_place c w)) in
    let one : IsRefuted system proof
    = record {
      rows = whole;
      are_made = ap (row_forms more) rows_are ∙ s.made;
      refuted = cycle_refutes c.vars more context s.forms (writer_place c w) edges (omega arith) base s.over s.within
          s.are shown ts h.row h.sum h.node h.narrow h.shows h.cycle h.negative h.no_variable h.light;
    } in
    subst (λ systems. AreRefuted systems (proof ∷ [])) (sym (none_system r w p c s.level s.level_is))
    (one, tt)
