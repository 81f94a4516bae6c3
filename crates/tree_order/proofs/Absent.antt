-- A cycle below 0, in the joined context.
--
-- Terms show in the context that the form of a cycle is below 0, and the rows of the cycle behind the context add up to
-- that form whatever the writer's point is. So both together are a negative number, with further rows behind too.
use Rattle.std.proofs.Common.{◌≡◌, ◌+◌, ◌^◌, ◌≤◌, ◌<◌, ℕ, zero, suc, pos, ◌+ℤ◌, ◌-ℤ◌, ◌⊎◌, inl, inr, List, [], ◌∷◌}
use Rattle.std.proofs.Common.{◌++◌, length, map, Bool, refl, sym, ap, ◌∙◌, subst, arith}
use Rattle.std.specs.Prelude.{Some, All, nat_lt, slice_get}
use Rattle.std.specs.Option.{option_map_or}
use Rattle.std.proofs.lemmas.Int.{ints}
use Rattle.std.proofs.lemmas.List.{append-nil, append_assoc, length-append, length-map}
use Rattle.std.proofs.lemmas.List.Elements.{All-append, All-nil}
use Rattle.std.proofs.lemmas.Option.{same_Some}
use Rattle.affine_core.specs.declared.form.Form.{Form}
use Rattle.affine_core.specs.Affine.{widened_form}
use Rattle.int_polyhedra.specs.declared.system.Proof.TheVariants.{Sum}
use Rattle.int_polyhedra.specs.declared.system.System.{System}
use Rattle.int_polyhedra.specs.declared.system.Term.{Term}
use Rattle.int_polyhedra.specs.Rules.{Refutes}
use Rattle.int_polyhedra.specs.Systems.{AreOver}
use Rattle.tree_order.specs.Absence.{AddsOrderEdges, IsContradicted}
use Rattle.tree_order.specs.Candidates.{IsCandidate}
use Rattle.tree_graphs.specs.Contexts.{IsMadeAs}
use Rattle.tree_order.specs.Contexts.{IsPathContext}
use Rattle.tree_graphs.specs.Joint.{orders_behind}
use Rattle.tree_order.specs.Reads.{pair_of}
use Rattle.tree_order.specs.Refutations.{IsPointIn, RefutesBetween, RefutesWrites}
use Rattle.tree_order.specs.declared.candidates.Candidate.{Candidate}
use Rattle.tree_order.specs.declared.candidates.Read.{Read}
use Rattle.tree_order.proofs.PointSystems.{context_over, context_within, forms_within, near_forms, near_variables}
use Rattle.tree_order.proofs.PointSystems.{no_rows, orders_made, regroup, system, AreMadeRows}
use Rattle.tree_graphs.specs.Cycles.{IsContradiction}
use Rattle.tree_graphs.specs.Asked.{depth_of_write, read_of, write_of}
use Rattle.tree_graphs.specs.Facts.{IsContext}
use Rattle.tree_graphs.specs.Edges.{edge_parts, write_rows, AreEdges, AreLevelRows}
use Rattle.tree_graphs.specs.Level.{common_of}
use Rattle.tree_graphs.specs.Paths.{edge_part, terms_from}
use Rattle.tree_graphs.specs.declared.edges.Edge.{Edge}
use Rattle.tree_graphs.proofs.OrderEdges.{length_variables}
use Rattle.tree_graphs.proofs.ZeroSystems.{IsPlaced}
use Rattle.tree_graphs.proofs.EdgeSums.{over_append, over_widened, path_shows, weight_from, within_widened, AreRowsOf}
use Rattle.tree_graphs.proofs.RowBounds.{edges_count, edges_parts, forms_append}
use Rattle.plain_data.proofs.Lists.{slice_get-append_left}
use Rattle.tree_sums.specs.Parts.{part_of, row_part, IsWithin}
use Rattle.tree_sums.specs.Shown.{RowParts, Shows}
use Rattle.tree_sums.proofs.SumAlgebra.{combines}
use Rattle.tree_sums.proofs.NegativeSums.{shown_refutes}
use Rattle.tree_sums.proofs.Weights.{weight_sum}
use Rattle.tree_sums.proofs.RowParts.{made_widens}
use Rattle.tree_sums.proofs.MoreVariables.{shown_widens}
use Rattle.source_tree.specs.Checked.{IsRefuted}
use Rattle.source_tree.specs.Places.{cell_rows, domain_rows}
use Rattle.source_tree.specs.Rows.{RowExpr, row_forms}
use Rattle.source_tree.specs.Systems.{Context, Occurrence, with_rows, with_write_at, writer_place}

-- Lists, one behind the other

get_right : {X : Type 0} (xs ys : List X) (n k : ℕ) → n ≡ length xs → slice_get (xs ++ ys) (n + k) ≡ slice_get ys k
get_right [] ys n k e = let z : n + k ≡ k = omega (arith, e) in ap (slice_get ys) z
get_right (x ∷ xs) ys n k e =
    let z : n + k ≡ suc (length xs + k) = omega (arith, e) in
    ap (slice_get (x ∷ (xs ++ ys))) z ∙ get_right xs ys (length xs) k refl

number_behind : (k n : ℕ) → (k < n) ⊎ ((j : ℕ) × (k ≡ n + j))
number_behind k zero = inr (k, omega arith)
number_behind zero (suc n) = inl (omega arith)
number_behind (suc k) (suc n) =
    elim (number_behind k n) [ inl lt ↦ inl (omega (arith, lt)) | inr rest ↦ inr (rest.0, omega (arith, rest.1)) ]

-- rows that have the parts of edges
pub are_rows_append : (place : List Form) (xs ys : List Edge) (fs gs : List Form) → AreRowsOf place xs fs
    → AreRowsOf place ys gs → AreRowsOf place (xs ++ ys) (fs ++ gs)
are_rows_append place xs ys fs gs h k = record {
  count = omega (arith, length-append fs gs, length-append xs ys, h.count, k.count);
  parts = λ i part. elim (number_behind i (length fs)) [
    | inl lt ↦
        ap (λ o. option_map_or (part_of part) o (pos 0)) (slice_get-append_left fs gs i lt) ∙ h.parts i part
        ∙ ap (λ o. option_map_or (λ g. edge_parts place g part) o (pos 0))
        (sym (slice_get-append_left xs ys i (omega (arith, lt, h.count))))
    | inr rest ↦
        ap (row_part (fs ++ gs) part) rest.1 ∙ ap (λ o. option_map_or (part_of part) o (pos 0))
        (get_right fs gs (length fs) rest.0 refl) ∙ k.parts rest.0 part
        ∙ ap (λ o. option_map_or (λ g. edge_parts place g part) o (pos 0))
        (sym (get_right xs ys (length fs) rest.0 h.count))
        ∙ ap (edge_part place (xs ++ ys) part) (sym rest.1)
  ];
}

-- Refutations

module _ (vars more : ℕ) (context forms behind : List Form) (place : List Form) (edges : List Edge) (le : vars ≤ more)
    (over : AreOver vars context) (within : All (IsWithin (2 ^ 51)) context)
    (forms_over : AreOver more forms) (forms_small : All (IsWithin (2 ^ 51)) forms) (behind_over : AreOver more behind)
    (behind_small : All (IsWithin (2 ^ 51)) behind)
    (are : AreRowsOf place edges forms) where
  abbrev wide : List Form
  wide = map (widened_form more) context

  abbrev whole : List Form
  whole = wide ++ (forms ++ behind)

  pub contradiction_refutes : (shown ts : List Term) → IsContradiction vars context edges shown ts
      → Refutes more whole (Sum (shown ++ terms_from (length context) ts))
  contradiction_refutes shown ts h =
      let back : RowParts = λ part. (h.sum part +ℤ row_part place part h.node) -ℤ row_part place part h.node in
      let first : Shows more whole shown h.row = (combines more wide).behind (forms ++ behind) shown h.row
      (shown_widens vars more context shown h.row over h.narrow h.shows) in
      let front : Shows more (wide ++ forms) (terms_from (length wide) ts) back =
      path_shows more wide forms place edges ts h.sum h.node h.node are h.cycle in
      let second : Shows more whole (terms_from (length context) ts) back
      = subst (λ n. Shows more whole (terms_from n ts) back) (length-map context (widened_form more))
      (subst (λ rows. Shows more rows (terms_from (length wide) ts) back) (append_assoc wide forms behind)
      ((combines more (wide ++ forms)).behind behind (terms_from (length wide) ts) back front)) in
      shown_refutes more (2 ^ 51) whole (shown ++ terms_from (length context) ts) (λ part. h.row part +ℤ back part)
      (over_append more wide (forms ++ behind) (over_widened vars more context le over)
      (over_append more forms behind forms_over behind_over))
      (All-append (IsWithin (2 ^ 51)) wide (forms ++ behind)
      (within_widened more (2 ^ 51) (2 ^ 51) context (omega arith) within)
      (All-append (IsWithin (2 ^ 51)) forms behind forms_small behind_small))
      (omega (arith, weight_sum shown (terms_from (length context) ts), weight_from (length context) ts, h.light))
      ((combines more whole).sum shown (terms_from (length context) ts) h.row back first second)
      (record { negative = omega (arith, ints, h.negative); no_variable = λ i l. omega (arith, ints, h.no_variable i) })

-- A write in the joined context

module _ (r : Read) (context : System) (room : ℕ) (path : IsPathContext r.context.now.vars room context)
    (cand : Candidate) (h : IsCandidate r cand) (c : Context)
    (made : IsMadeAs context c) where
  abbrev read : Occurrence
  read = read_of cand.writes

  abbrev u : Occurrence
  u = write_of cand.writes

  abbrev more : ℕ
  more = c.vars + length u.statement.loops

  abbrev place : List Form
  place = writer_place c u

  abbrev sys : IsPlaced read u cand.writes.level c context.rows cand.edges
  sys = system r context room path cand h c made.vars made.rows

  abbrev write : List RowExpr → List RowExpr
  write level = write_rows read u level place

  -- terms that refute the rows, as they are made, refute the system
  refuted_system : (level order : List RowExpr) (all : AreMadeRows more order) (ts : List Term)
      → AreLevelRows read u cand.writes.level place level
      → Refutes more (map (widened_form more) context.rows ++ (sys.forms ++ all.forms)) (Sum ts)
      → IsRefuted (with_rows (with_write_at read c u) (level ++ order)) (Sum ts)
  refuted_system level order all ts level_is refuted =
      let same : level ≡ sys.level = same_Some level sys.level (sym level_is ∙ sys.level_is) in
      let d : List RowExpr = domain_rows u.statement.rows place in
      let e : List RowExpr = cell_rows u.access.subscripts read.access.subscripts place in
      let rows_are : (c.rows ++ (d ++ e)) ++ (level ++ order) ≡ c.rows ++ (write sys.level ++ order)
      = ap (λ level. (c.rows ++ (d ++ e)) ++ (level ++ order)) same ∙ regroup c.rows d e sys.level order in
      record {
        rows = map (widened_form more) context.rows ++ (sys.forms ++ all.forms);
        are_made = ap (row_forms more) rows_are
            ∙ forms_append more c.rows (write sys.level ++ order) (map (widened_form more) context.rows)
            (sys.forms ++ all.forms) (made_widens c.vars more c.rows context.rows (omega arith) made.rows)
            (forms_append more (write sys.level) order sys.forms all.forms sys.own all.are);
        refuted = refuted;
      }

  own_contradiction : (edges : List Edge) (shown ts : List Term)
      → IsContradiction context.vars context.rows edges shown ts → IsContradiction c.vars context.rows edges shown ts
  own_contradiction edges shown ts k = subst (λ v. IsContradiction v context.rows edges shown ts) (sym made.vars) k

  -- by rows on the point alone
  pub own_refuted : (level order : List RowExpr) (all : AreMadeRows more order) (ts : List Term)
      → AreLevelRows read u cand.writes.level place level → IsContradicted context cand.edges ts
      → IsRefuted (with_rows (with_write_at read c u) (level ++ order)) (Sum ts)
  own_refuted level order all ts level_is k =
      refuted_system level order all ts level_is
      (subst (λ ts. Refutes more (map (widened_form more) context.rows ++ (sys.forms ++ all.forms)) (Sum ts)) (sym k.is)
      (contradiction_refutes c.vars more context.rows sys.forms all.forms place cand.edges (omega arith)
      (context_over r context room path cand h c made.vars made.rows)
      (context_within r context room path cand h c made.vars made.rows) sys.over
      (forms_within r context room path cand h c made.vars made.rows) all.over all.within sys.are k.shown k.rows
      (own_contradiction cand.edges k.shown k.rows k.contradiction)))

  -- by order rows too
  pub orders_refuted : (level order : List RowExpr) (all : AreMadeRows more order) (orders : List Edge) (ts : List Term)
      → AreLevelRows read u cand.writes.level place level → AreEdges place order orders
      → IsContradicted context (cand.edges ++ orders) ts
      → IsRefuted (with_rows (with_write_at read c u) (level ++ order)) (Sum ts)
  orders_refuted level order all orders ts level_is edges_are k =
      let behind : AreRowsOf place orders all.forms
      = record {
        count = all.count ∙ edges_count place order orders edges_are;
        parts = λ i part. all.parts i part
            ∙ edges_parts place order orders edges_are i part;
      } in
      let both : AreRowsOf place (cand.edges ++ orders) (sys.forms ++ all.forms) =
      are_rows_append place cand.edges orders sys.forms all.forms sys.are behind in
      let whole_over : AreOver more (sys.forms ++ all.forms) = over_append more sys.forms all.forms sys.over all.over in
      let whole_within : All (IsWithin (2 ^ 51)) (sys.forms ++ all.forms)
      = All-append (IsWithin (2 ^ 51)) sys.forms all.forms
      (forms_within r context room path cand h c made.vars made.rows) all.within in
      let none : AreMadeRows more [] = no_rows more in
      let refuted : Refutes more (map (widened_form more) context.rows ++ ((sys.forms ++ all.forms) ++ []))
      (Sum (k.shown ++ terms_from (length context.rows) k.rows))
      = contradiction_refutes c.vars more context.rows (sys.forms ++ all.forms) [] place (cand.edges ++ orders)
      (omega arith) (context_over r context room path cand h c made.vars made.rows)
      (context_within r context room path cand h c made.vars made.rows) whole_over whole_within refl
      (All-nil _) both k.shown k.rows (own_contradiction (cand.edges ++ orders) k.shown k.rows k.contradiction) in
      refuted_system level order all ts level_is
      (subst (λ ts. Refutes more (map (widened_form more) context.rows ++ (sys.forms ++ all.forms)) (Sum ts)) (sym k.is)
      (subst (λ rows. Refutes more (map (widened_form more) context.rows ++ rows)
      (Sum (k.shown ++ terms_from (length context.rows) k.rows))) (append-nil (sys.forms ++ all.forms)) refuted))

-- a context of a candidate
pub candidate_context : (r : Read) (context : System) (room : ℕ) (cand : Candidate) → IsCandidate r cand
    → IsPathContext cand.writes.vars room context → IsContext context
candidate_context r context room cand h path = record {
  short = omega (arith, path.vars_are, cand.writes.problem.few_vars);
  over = path.over;
  few = omega (arith, path.few);
}

-- the variables of a candidate's context are those of the read's
pub path_of : (r : Read) (context : System) (room : ℕ) (cand : Candidate) → IsCandidate r cand
    → IsPathContext cand.writes.vars room context → IsPathContext r.context.now.vars room context
path_of r context room cand h path = subst (λ n. IsPathContext n room context) h.vars path

pub path_from : (r : Read) (context : System) (room : ℕ) (cand : Candidate) → IsCandidate r cand
    → IsPathContext r.context.now.vars room context → IsPathContext cand.writes.vars room context
path_from r context room cand h path = subst (λ n. IsPathContext n room context) (sym h.vars) path

-- the order rows of a point before the writer's can be made
pub orders_are_made : (context : System) (w u : Occurrence) (place : List Form) (q : ℕ) (c : Context)
    (order : List RowExpr) → IsMadeAs context c → IsPointIn context w place
    → slice_get (orders_behind w place c u) q ≡ Some order
    → AreMadeRows (c.vars + length u.statement.loops) order
orders_are_made context w u place q c order made point is =
    orders_made (c.vars + length u.statement.loops) (common_of w u) q (nat_lt w.number u.number) place
    (writer_place c u) order
    (near_forms context.vars (c.vars + length u.statement.loops) place
    (omega (arith, made.vars)) point.forms.over point.forms.within)
    (near_variables (c.vars + length u.statement.loops) c.vars (length u.statement.loops) (omega arith)) is

pub writes_refuted : (r : Read) (context : System) (cand : Candidate) (ts : List Term) → IsCandidate r cand
    → IsPathContext r.context.now.vars 0 context → IsContradicted context cand.edges ts
    → RefutesWrites (pair_of cand.writes) context cand.writes.level (Sum ts)
writes_refuted r context cand ts h path k c level made level_is =
    own_refuted r context 0 path cand h c made level []
    (no_rows (c.vars + length (write_of cand.writes).statement.loops)) ts level_is k

pub between_refuted : (r : Read) (context : System) (cand : Candidate) (ts : List Term) (w : Occurrence)
    (place : List Form) (q : ℕ) → IsCandidate r cand
    → IsPathContext r.context.now.vars 0 context → IsPointIn context w place
    → IsContradicted context cand.edges ts
    → RefutesBetween (pair_of cand.writes) context cand.writes.level w place q (Sum ts)
between_refuted r context cand ts w place q h path point k c level order made level_is order_is =
    own_refuted r context 0 path cand h c made level order
    (orders_are_made context w (write_of cand.writes) place q c order made point order_is) ts level_is k

pub between_by_orders : (r : Read) (context : System) (cand : Candidate) (ts : List Term) (w : Occurrence)
    (place : List Form) (q zero_node : ℕ) (within : Bool) (orders : List Edge) → IsCandidate r cand
    → IsPathContext r.context.now.vars 0 context → IsPointIn context w place → zero_node
    ≡ depth_of_write cand.writes → within ≡ nat_lt q (common_of w (write_of cand.writes))
    → AddsOrderEdges place 0 zero_node q within [] orders → IsContradicted context (cand.edges ++ orders) ts
    → RefutesBetween (pair_of cand.writes) context cand.writes.level w place q (Sum ts)
between_by_orders r context cand ts w place q zero_node within orders h path point zero_is within_is adds k c level
    order made level_is order_is =
    let u : Occurrence = write_of cand.writes in
    let long : zero_node ≡ length (writer_place c u) = zero_is
    ∙ sym (length_variables c.vars (length u.statement.loops)) in
    orders_refuted r context 0 path cand h c made level order
    (orders_are_made context w u place q c order made point order_is) orders ts level_is
    (adds (common_of w u) (nat_lt w.number u.number) (writer_place c u) [] order long within_is order_is tt) k
