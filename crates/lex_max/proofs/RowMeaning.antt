-- A write of the cell before the read meets the rows of the edges, so that a refuted context has none.
--
-- The values of the context's variables and behind them those of the writer's loops are one point of the system. The write is in
-- its domain, has the read's cell and stands before the read at the level, which are the rows of the system, so the
-- point meets them all. A refuted system has no such point. Where each value is no greater than another point's, that
-- point is no earlier.
use Rattle.std.proofs.Common.{◌≡◌, ◌+◌, ◌<◌, ◌==◌, ℕ, zero, suc, ℤ, pos, ◌≤ℤ◌, ◌<ℤ◌, List, [], ◌∷◌, ◌++◌, length}
use Rattle.std.proofs.Common.{map, take, false, refl, sym, ap, ◌∙◌, subst, arith, inl, inr, ◌⊎◌}
use Rattle.std.proofs.Common.{length-append, eqb-true}
use Rattle.std.specs.Prelude.{All, slice_index_or, nat_lt, IsTrue}
use Rattle.std.proofs.lemmas.Int.{ints, by_lt_z}
use Rattle.std.proofs.lemmas.List.{append-nil, take-take}
use Rattle.std.proofs.lemmas.List.Elements.{All-append, All-nil, All-cons}
use Rattle.std.proofs.lemmas.Bool.{and_parts}
use Rattle.affine_core.specs.declared.form.Form.{Form}
use Rattle.affine_core.specs.Affine.{form_at, widened_form}
use Rattle.affine_core.proofs.Linear.{form_at_more}
use Rattle.int_polyhedra.specs.declared.system.Proof.{Proof}
use Rattle.int_polyhedra.specs.declared.system.Proof.TheVariants.{Sum}
use Rattle.int_polyhedra.specs.declared.system.System.{System}
use Rattle.int_polyhedra.specs.declared.system.Term.{Term}
use Rattle.int_polyhedra.specs.Systems.{all_over, AreOver, Meets}
use Rattle.int_polyhedra.proofs.ProofRules.{follows_refuted}
use Rattle.int_polyhedra.proofs.Soundness.{no_point}
use Rattle.sanlp.specs.Loops.{all_hold}
use Rattle.sanlp.specs.Order.{PrecedesWithin}
use Rattle.lex_max.specs.Answer.{IsContextOf}
use Rattle.tree_graphs.specs.Cycles.{IsContradiction}
use Rattle.tree_graphs.specs.Asked.{depth_of_read, depth_of_write, read_of, write_of}
use Rattle.tree_graphs.specs.Problems.{AreCells}
use Rattle.tree_graphs.specs.Edges.{write_rows}
use Rattle.tree_graphs.specs.Level.{common_of, WritesBefore}
use Rattle.tree_graphs.specs.Paths.{terms_from}
use Rattle.tree_graphs.specs.Rounds.{IsGraphOf}
use Rattle.tree_graphs.specs.declared.edges.Edge.{Edge}
use Rattle.tree_graphs.specs.declared.writes.Writes.{Writes}
use Rattle.tree_graphs.proofs.ProblemBounds.{writes_fit, IsKnown}
use Rattle.tree_graphs.proofs.ZeroSystems.{placed, IsPlaced}
use Rattle.tree_graphs.proofs.MadeRows.{taken_all}
use Rattle.tree_graphs.proofs.EdgeSums.{cycle_refutes, whole_over, IsBase}
use Rattle.lex_max.proofs.RowValues.{domain_met, level_met, met_made, taken_value, taken_values}
use Rattle.lex_max.proofs.RowValues.{widened_met}
use Rattle.source_tree.specs.Gives.{values}
use Rattle.source_tree.specs.Places.{cell_rows, domain_rows, variables}
use Rattle.source_tree.specs.Rows.{Take}
use Rattle.source_tree.specs.Systems.{Context, reader_place, writer_place}
use Rattle.source_tree.proofs.Gives.{values-variables}
use Rattle.source_tree.proofs.MetRows.{AreMet, AreMet-append, AreMet-cell_rows}

-- rows as they are
pub each_over : (vars m : ℕ) (rows : List Form) → vars ≡ m → AreOver vars rows → All (λ row. length row.coefs ≡ m) rows
each_over vars m [] e h = All-nil _
each_over vars m (row ∷ rows) e h =
    let b = and_parts (length row.coefs == vars) (all_over vars rows) h in
    All-cons (λ (row : Form). length row.coefs ≡ m) row rows (eqb-true (length row.coefs) vars b.0 ∙ e)
    (each_over vars m rows e b.1)

-- the subscripts of a read, at more values
read_more : (d depth : ℕ) (writes reads : List Form) (x j : List ℤ) → d ≡ length x → AreCells d depth writes reads
    → values reads (x ++ j) ≡ values reads x
read_more d depth [] [] x j e h = refl
read_more d depth [] (read ∷ reads) x j e h = absurd h
read_more d depth (write ∷ writes) [] x j e h = absurd h
read_more d depth (write ∷ writes) (read ∷ reads) x j e h =
    ap (λ z. z ∷ values reads (x ++ j)) (form_at_more read x j (omega (arith, h.0.over, e)))
    ∙ ap (λ zs. form_at read x ∷ zs) (read_more d depth writes reads x j e h.1)

module _ (w : Writes) (context : System) (edges : List Edge) (graph : IsGraphOf w edges)
    (of : IsContextOf w 0 context) where
  -- a context that makes these rows
  abbrev pub plain : Context
  plain = record { vars = w.vars; rows = map Take context.rows }

  over : AreOver w.vars context.rows
  over = subst (λ v. AreOver v context.rows) of.vars of.over

  pub system : IsPlaced (read_of w) (write_of w) w.level plain context.rows edges
  system = placed w.vars (read_of w) (write_of w) w.level plain context.rows edges w.problem refl
      (taken_all w.vars context.rows over) graph.edges_are

  abbrev more : ℕ
  more = w.vars + depth_of_write w

  abbrev pub all_rows : List Form
  all_rows = map (widened_form more) context.rows ++ system.forms

  pub base : IsBase w.vars context.rows
  base = record { over = over; within = of.within }

  pub all_over_rows : AreOver more all_rows
  all_over_rows = whole_over w.vars more context.rows system.forms (writer_place plain (write_of w)) edges
      (omega arith) base system.over system.within system.are

  -- a write before the read, behind the reader's values
  module _ (x j : List ℤ) (long : length x ≡ w.vars) (meets : Meets context.rows x)
      (h : WritesBefore (read_of w) (write_of w) w.level x j) where
    fits : IsKnown w.vars (read_of w) (write_of w) w.level
    fits = writes_fit w

    abbrev place : List Form
    place = writer_place plain (write_of w)

    abbrev at : List ℤ
    at = x ++ j

    pub j_is : values place at ≡ j
    j_is =
        ap (λ n. values (variables w.vars n) at) (sym h.deep)
        ∙ ap (λ js. values (variables w.vars (length j)) (x ++ js)) (sym (append-nil j))
        ∙ values-variables w.vars x j [] (sym long)

    x_is : values (reader_place (read_of w)) at ≡ take (depth_of_read w) x
    x_is = taken_values (depth_of_read w) x j (omega (arith, long, fits.reader))

    domain : AreMet (domain_rows w.rows.now place) at
    domain = domain_met w.rows.now place at
        (subst (λ j. IsTrue (all_hold w.rows.now j)) (sym j_is) h.in_domain)

    cells : AreMet (cell_rows w.write_forms.now w.read_forms.now place) at
    cells = AreMet-cell_rows w.write_forms.now w.read_forms.now place at
        (ap (values w.write_forms.now) j_is ∙ h.same_cell
        ∙ sym (read_more w.vars (depth_of_write w) w.write_forms.now w.read_forms.now x j (sym long) fits.cells))

    order : AreMet system.level at
    order = level_met (common_of (write_of w) (read_of w)) w.level (nat_lt w.write.number w.read.number) place
        (reader_place (read_of w)) system.level at system.level_is
        (ap (take w.level) j_is ∙ h.before.0
        ∙ sym (take-take w.level (depth_of_read w) x (omega (arith, fits.level, fits.common_vars)))
        ∙ ap (take w.level) (sym x_is))
        (λ lt. subst (λ j. slice_index_or j w.level (pos 0) <ℤ slice_index_or
        (values (reader_place (read_of w)) at) w.level (pos 0)) (sym j_is)
        (subst (λ x'. slice_index_or j w.level (pos 0) <ℤ slice_index_or x' w.level (pos 0)) (sym x_is)
        (subst (λ z. slice_index_or j w.level (pos 0) <ℤ z)
        (sym (taken_value (depth_of_read w) w.level x (omega (arith, lt, fits.common_vars)))) (h.before.1 lt))))

    pub all_met : Meets all_rows at
    all_met =
        All-append (λ row. pos 0 ≤ℤ form_at row at) (map (widened_form more) context.rows) system.forms
        (widened_met w.vars more context.rows x j
        (each_over w.vars (length x) context.rows (sym long) over) meets)
        (met_made more (write_rows (read_of w) (write_of w) system.level place) system.forms at system.own
        (AreMet-append (domain_rows w.rows.now place)
        (cell_rows w.write_forms.now w.read_forms.now place ++ system.level) at domain
        (AreMet-append
        (cell_rows w.write_forms.now w.read_forms.now place) system.level at cells order)))

    pub all_long : length at ≡ more
    all_long = omega (arith, length-append x j, long, h.deep)

-- where a context and the edges contradict each other there is no such write
pub none_where_refuted : (w : Writes) (context : System) (edges : List Edge) (shown ts : List Term) → IsGraphOf w edges
    → IsContextOf w 0 context
    → IsContradiction context.vars context.rows edges shown ts → (x : List ℤ) → length x ≡ w.vars
    → Meets context.rows x → (j : List ℤ) → WritesBefore (read_of w) (write_of w) w.level x j → ⊥
none_where_refuted w context edges shown ts graph of h x long meets j write =
    let d : ℕ = w.vars in
    let more : ℕ = d + depth_of_write w in
    let s = system w context edges graph of in
    let c : IsContradiction d context.rows edges shown ts =
    subst (λ v. IsContradiction v context.rows edges shown ts) of.vars h in
    let rows : List Form = all_rows w context edges graph of in
    let proof : Proof = Sum (shown ++ terms_from (length context.rows) ts) in
    let refuted = cycle_refutes d more context.rows s.forms (writer_place (plain w context edges graph of) (write_of w))
    edges (omega arith) (base w context edges graph of) s.over s.within s.are
    shown ts c.row c.sum c.node c.narrow c.shows c.cycle c.negative c.no_variable c.light in
    no_point more rows proof (all_over_rows w context edges graph of) (follows_refuted more rows proof refuted) (x ++ j)
    (all_long w context edges graph of x j long meets write) (all_met w context edges graph of x j long meets write)

-- The chosen point

-- componentwise no greater is lexicographically no greater
pub no_later : (xs ys : List ℤ) → length xs ≡ length ys
    → ((i : ℕ) → i < length xs → slice_index_or xs i (pos 0) ≤ℤ slice_index_or ys i (pos 0))
    → (xs ≡ ys) ⊎ PrecedesWithin (length ys) false xs ys
no_later [] [] e h = inl refl
no_later [] (y ∷ ys) e h = absurd (omega arith)
no_later (x ∷ xs) [] e h = absurd (omega arith)
no_later (x ∷ xs) (y ∷ ys) e h =
    by_lt_z x y (λ lt. inr (inl lt))
    (λ ge.
    let first : x ≤ℤ y = h zero (omega arith) in
    let same : x ≡ y = omega (arith, ints, ge, first) in
    elim (no_later xs ys (omega (arith, e)) (λ i lt. h (suc i) (omega (arith, lt)))) [
      | inl rest ↦ inl (ap (λ x. x ∷ xs) same ∙ ap (λ xs. y ∷ xs) rest)
      | inr rest ↦ inr (inr (same, rest))
    ])
