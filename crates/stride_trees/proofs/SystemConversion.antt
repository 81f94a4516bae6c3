-- A system of a write over quotients, refuted in the statement's own terms.
--
-- The statement's system has small rows, so it can be made. Both systems begin with the context's rows and end with the
-- same order rows; between them each row over quotients is told by the statement's rows. So a Sum that refutes the one
-- refutes the other as Cuts and a Sum.
use Rattle.std.proofs.Common.{◌≡◌, ◌+◌, ◌*◌, ◌^◌, ◌≤◌, ◌<◌, ℕ, suc, pos, negsuc, ◌+ℤ◌, ◌*ℤ◌, List, [], ◌∷◌, ◌++◌, length, map, true}
use Rattle.std.proofs.Common.{refl, sym, ap, ◌∙◌, subst, arith, length-append}
use Rattle.std.specs.Prelude.{Some, All, unsigned_abs}
use Rattle.std.specs.List.{list_all}
use Rattle.std.specs.Option.{option_map_or}
use Rattle.std.proofs.lemmas.List.{length-map}
use Rattle.std.proofs.lemmas.List.Elements.{All-nil, All-cons}
use Rattle.std.proofs.lemmas.Option.{same_Some, slice_get_within}
use Rattle.std.proofs.lemmas.Bool.{and_parts}
use Rattle.affine_core.specs.declared.form.Form.{Form}
use Rattle.affine_core.specs.Affine.{variable_form, widened_form}
use Rattle.int_polyhedra.specs.declared.system.Proof.TheVariants.{Sum}
use Rattle.int_polyhedra.specs.declared.system.Term.{Term}
use Rattle.int_polyhedra.specs.Rules.{Refutes}
use Rattle.tree_graphs.proofs.ProblemBounds.{form_is}
use Rattle.tree_graphs.proofs.OrderEdges.{variable_part}
use Rattle.tree_graphs.proofs.RowBounds.{AreMade}
use Rattle.plain_data.proofs.Lists.{slice_get-append_left}
use Rattle.tree_sums.specs.Parts.{Part, part_of, row_part, weight, IsWithin}
use Rattle.tree_sums.proofs.SmallRows.{widened_part}
use Rattle.tree_sums.proofs.MoreVariables.{row_part-widened}
use Rattle.sanlp.specs.declared.nest.Nest.{Nest}
use Rattle.sanlp.specs.WellFormed.{form_fits}
use Rattle.source_tree.specs.Checked.{IsRefuted}
use Rattle.source_tree.specs.Places.{cell_rows, domain_rows}
use Rattle.source_tree.specs.Rows.{RowExpr, RowSystem, Take, minus, row_forms}
use Rattle.source_tree.specs.Systems.{Context, Occurrence, multiple, with_rows, with_write_at, writer_place}
use Rattle.source_tree.proofs.RowLists.{length-domain_rows, length-cell_rows}
use Rattle.stride_trees.specs.Candidates.{order_number, IsCutSumOf}
use Rattle.tree_cuts.specs.Cuts.{added_of, converted_sum, AreSources, IsCutSum}
use Rattle.stride_trees.specs.Divisions.{division_of}
use Rattle.stride_trees.specs.Problem.{problem_reads, problem_rows, problem_write, problem_writes, told_read, told_write}
use Rattle.stride_trees.specs.Contexts.{AreMadeSmall, AreTestsIn, IsTestIn}
use Rattle.tree_cuts.specs.Sources.{divided_form, domain_sources, next_place, own_sources, places_behind}
use Rattle.tree_cuts.specs.Sources.{subscript_sources, write_sources}
use Rattle.stride_trees.specs.Strides.{AreStrided, IsSmallContext}
use Rattle.tree_cuts.specs.declared.cuts.Source.{Source}
use Rattle.stride_trees.proofs.SourceCuts.{added_all, added_behind, added_both, added_own, cuts_few, sources_count, write_before}
use Rattle.stride_trees.proofs.QuotientProblem.{tests_inside, told_cells as told_cells_are}
use Rattle.tree_cuts.proofs.CutRows.{converted_is_cut_sum, converted_refutes}
use Rattle.stride_trees.proofs.ProblemBounds.{AreFitting}
use Rattle.stride_trees.proofs.MadeRows.{cells_are_told, made_both, rows_are_told, AreMadeBoth, AreTestRows, IsTestRow, StandAt}
use Rattle.stride_trees.proofs.Lists.{forms_count, row_made}
use Rattle.tree_cuts.proofs.RowSources.{IsSmallSystem}
use Rattle.stride_trees.proofs.WriteSystems as standing
use Rattle.stride_trees.proofs.WriteSystems.{regroup}
use Rattle.tree_cuts.proofs.QuotientRows.{cells_told, domain_told, write_told, AreCellsTold, AreRowsTold}
use Rattle.stride_trees.proofs.QuotientReach.{told_cells_reached, told_domain_reached, variables_bounded}
use Rattle.stride_trees.proofs.RowReach.{made_within, AreBounded}

-- Rows in a longer list

test_row_behind : (vars : ℕ) (rows more : List Form) (test quotient : ℕ) (form : Form) (m : ℕ)
    → IsTestRow vars rows test quotient form m → IsTestRow vars (rows ++ more) test quotient form m
test_row_behind vars rows more test quotient form m h =
    let at : (n : ℕ) (part : Part) → n < length rows → row_part (rows ++ more) part n ≡ row_part rows part n =
    λ n part lt. ap (λ o. option_map_or (part_of part) o (pos 0)) (slice_get-append_left rows more n lt) in
    record {
      inside = omega (arith, h.inside, length-append rows more);
      low = λ part. at test part (omega (arith, h.inside)) ∙ h.low part;
      high = λ part. at (test + 1) part h.inside ∙ h.high part;
    }

test_row_widened : (vars more : ℕ) (rows : List Form) (test quotient : ℕ) (form : Form) (m : ℕ)
    → IsTestRow vars rows test quotient form m → IsTestRow vars (map (widened_form more) rows) test quotient form m
test_row_widened vars more rows test quotient form m h = record {
  inside = omega (arith, h.inside, length-map rows (widened_form more));
  low = λ part. row_part-widened more rows part test ∙ h.low part;
  high = λ part. row_part-widened more rows part (test + 1) ∙ h.high part;
}

pub test_rows_in : (vars more : ℕ) (rows behind : List Form) (depth root : ℕ) (places : List ℕ) (writes reads : List Form)
    → AreTestRows vars rows depth root places writes reads
    → AreTestRows vars (map (widened_form more) rows ++ behind) depth root places writes reads
test_rows_in vars more rows behind depth root places [] reads h = tt
test_rows_in vars more rows behind depth root places (write ∷ writes) [] h = tt
test_rows_in vars more rows behind depth root places (write ∷ writes) (read ∷ reads) h =
    let test : ℕ = root + 2 * next_place places in
    let quotient : ℕ = depth + next_place places in (
      λ c is. test_row_behind vars (map (widened_form more) rows) behind test quotient
          (widened_form vars (division_of 0 write read c).form) (unsigned_abs c)
          (test_row_widened vars more rows test quotient (widened_form vars (division_of 0 write read c).form)
          (unsigned_abs c) (h.0 c is)),
      test_rows_in vars more rows behind depth root (places_behind write places) writes reads h.1,
    )

-- the tests of a context, as they are made
pub tests_made : (c : Context) (rows : List Form) (depth root : ℕ) (places : List ℕ) (writes reads : List Form)
    → row_forms c.vars c.rows ≡ Some rows → AreTestsIn c depth root places writes reads
    → AreTestRows c.vars rows depth root places writes reads
tests_made c rows depth root places [] reads made h = tt
tests_made c rows depth root places (write ∷ writes) [] made h = tt
tests_made c rows depth root places (write ∷ writes) (read ∷ reads) made h =
    let test : ℕ = root + 2 * next_place places in
    let quotient : ℕ = depth + next_place places in (
      λ x is. one test quotient (division_of 0 write read x).form (unsigned_abs x) (h.0 x is),
      tests_made c rows depth root (places_behind write places) writes reads made h.1,
    ) where
      one : (test quotient : ℕ) (form : Form) (m : ℕ) → IsTestIn c test quotient form (pos m)
          → IsTestRow c.vars rows test quotient (widened_form c.vars form) m
      one test quotient form m h =
          let a : RowExpr = Take (widened_form quotient form) in
          let b : RowExpr = multiple (pos m) quotient in
          let same : (part : Part) → part_of part (widened_form quotient form) ≡ part_of part (widened_form c.vars form) =
          λ part. widened_part quotient form part ∙ sym (widened_part c.vars form part) in
          let var : (part : Part) → part_of part (variable_form (quotient + 1) quotient)
          ≡ part_of part (variable_form c.vars quotient) =
          variable_part (quotient + 1) c.vars quotient in
          record {
            inside = omega (
              arith,
              slice_get_within c.rows (test + 1) (minus b a) h.high,
              forms_count c.vars c.rows rows made,
            );
            low = λ part. row_made c.vars c.rows rows test (minus a b) part made h.low
                ∙ ap (λ z. z +ℤ ((part_of part (variable_form (quotient + 1) quotient) *ℤ pos m) *ℤ negsuc 0)) (same part)
                ∙ ap (λ z. part_of part (widened_form c.vars form) +ℤ ((z *ℤ pos m) *ℤ negsuc 0)) (var part);
            high = λ part. row_made c.vars c.rows rows (test + 1) (minus b a) part made h.high
                ∙ ap (λ z. (z *ℤ pos m) +ℤ (part_of part (widened_form quotient form) *ℤ negsuc 0)) (var part)
                ∙ ap (λ z. (part_of part (variable_form c.vars quotient) *ℤ pos m) +ℤ (z *ℤ negsuc 0)) (same part);
          }

-- The system

even_places : (depth : ℕ) (forms place : List Form) → depth ≡ length place → list_all (form_fits depth) forms ≡ true
    → All (λ form. length form.coefs ≡ length place) forms
even_places depth [] place e h = All-nil _
even_places depth (form ∷ forms) place e h =
    let b = and_parts (form_fits depth form) (list_all (form_fits depth) forms) h in
    All-cons (λ (form : Form). length form.coefs ≡ length place) form forms ((form_is depth form b.0).over ∙ e)
    (even_places depth forms place e b.1)

-- the rows of a system over quotients, as they are made
pub record AreToldRows (vars : ℕ) (context order : List Form) (domain cells : List RowExpr) (rows : List Form) : Type 0 where
  pub domain_rows : List Form
  pub cells_rows : List Form
  pub is : rows ≡ context ++ (domain_rows ++ (cells_rows ++ order))
  pub domain_made : row_forms vars domain ≡ Some domain_rows
  pub cells_made : row_forms vars cells ≡ Some cells_rows

pub reads_count : (vars depth : ℕ) (places : List ℕ) (writes reads : List Form) → length writes ≡ length reads
    → length writes ≡ length (problem_reads vars depth places writes reads)
reads_count vars depth places [] reads e = refl
reads_count vars depth places (write ∷ writes) [] e = absurd (omega arith)
reads_count vars depth places (write ∷ writes) (read ∷ reads) e =
    ap suc (reads_count vars depth (places_behind write places) writes reads (omega (arith, e)))

module _ (n : Nest) (r w : Occurrence) (p : ℕ) (c : Context) (here root : ℕ) (places : List ℕ)
    (strided : AreStrided n r w p) (small : IsSmallContext c here) (reader : length r.statement.loops ≤ c.vars)
    (tests : AreTestsIn c (length r.statement.loops) root places w.access.subscripts r.access.subscripts)
    (order : List RowExpr) (order_made : AreMadeSmall (c.vars + length w.statement.loops) order) where
  abbrev e : ℕ
  e = length w.statement.loops

  abbrev more : ℕ
  more = c.vars + e

  abbrev place : List Form
  place = writer_place c w

  fits : AreFitting n r w p
  fits = standing.fits n r w p c here strided small reader order order_made

  long : length place ≡ e
  long = standing.long n r w p c here strided small reader order order_made

  abbrev forms : List Form
  forms = w.statement.rows

  abbrev writes : List Form
  writes = w.access.subscripts

  abbrev reads : List Form
  reads = r.access.subscripts

  abbrev domain : AreMade more (domain_rows forms place)
  domain = standing.domain n r w p c here strided small reader order order_made

  abbrev cells : AreMade more (cell_rows writes reads place)
  cells = standing.cells n r w p c here strided small reader order order_made

  abbrev last : List Form
  last = order_made.forms

  last_count : length last ≡ length order
  last_count = standing.last_count n r w p c here strided small reader order order_made

  abbrev wide : List Form
  wide = map (widened_form more) small.rows

  abbrev whole : List Form
  whole = wide ++ (domain.forms ++ (cells.forms ++ last))

  wide_made : row_forms more c.rows ≡ Some wide
  wide_made = standing.wide_made n r w p c here strided small reader order order_made

  wide_count : length wide ≡ here
  wide_count = standing.wide_count n r w p c here strided small reader order order_made

  whole_small : IsSmallSystem more whole
  whole_small = standing.whole_small n r w p c here strided small reader order order_made

  abbrev own_system : RowSystem
  own_system = with_rows (with_write_at r c w) order

  own_made : row_forms more own_system.rows ≡ Some whole
  own_made = standing.own_made n r w p c here strided small reader order order_made

  domain_stand : StandAt whole here domain.forms
  domain_stand = standing.domain_stand n r w p c here strided small reader order order_made

  cells_stand : StandAt whole (here + length forms) cells.forms
  cells_stand = standing.cells_stand n r w p c here strided small reader order order_made

  last_stand : StandAt whole (here + length forms + 2 * length writes) last
  last_stand = standing.last_stand n r w p c here strided small reader order order_made

  whole_count : length whole ≡ here + (length forms + (2 * length writes + length order))
  whole_count = standing.whole_count n r w p c here strided small reader order order_made

  abbrev told_system : RowSystem
  told_system = with_rows (with_write_at (told_read c.vars places r w) c (told_write w)) order

  abbrev told_domain : List RowExpr
  told_domain = domain_rows (problem_rows forms) place

  abbrev told_cells : List RowExpr
  told_cells = cell_rows (problem_writes writes) (problem_reads c.vars (length r.statement.loops) places writes reads) place

  abbrev sources : List Source
  sources = write_sources forms writes root places here (length order)

  domain_told_all : (v : List Form) → row_forms more told_domain ≡ Some v → AreRowsTold more whole place here forms v
  domain_told_all v h = rows_are_told more whole forms place here domain.forms v domain.are h domain_stand fits.row_kinds

  cells_told_all : (v : List Form) → row_forms more told_cells ≡ Some v
      → AreCellsTold more whole (here + length forms) root places writes v
  cells_told_all v k =
      cells_are_told more c.vars whole writes reads place (here + length forms) (length r.statement.loops) root places
      cells.forms v cells.are k cells_stand fits.kinds (even_places e writes place (sym long) fits.writes) fits.even
      (test_rows_in c.vars more small.rows (domain.forms ++ (cells.forms ++ last)) (length r.statement.loops) root places
      writes reads
      (tests_made c small.rows (length r.statement.loops) root places writes reads small.made tests))

  domain_are : (v : List Form) → row_forms more told_domain ≡ Some v → AreSources more whole (domain_sources forms here) v
  domain_are v h = domain_told more whole place here forms v whole_small (domain_told_all v h)

  cells_are : (v : List Form) → row_forms more told_cells ≡ Some v
      → AreSources more whole (subscript_sources writes (here + length forms) root places) v
  cells_are v k = cells_told more whole (here + length forms) root places writes v whole_small (cells_told_all v k)

  told_cells_count : length told_cells ≡ 2 * length writes
  told_cells_count =
      length-cell_rows (problem_writes writes) (problem_reads c.vars (length r.statement.loops) places writes reads) place
      (length-map writes problem_write
      ∙ reads_count c.vars (length r.statement.loops) places writes reads fits.even)
      ∙ ap (λ n. 2 * n) (length-map writes problem_write)

  pub told_sources : (v1 v2 : List Form) → row_forms more told_domain ≡ Some v1 → row_forms more told_cells ≡ Some v2
      → AreSources more whole sources (wide ++ (v1 ++ (v2 ++ last)))
  told_sources v1 v2 h k =
      subst (λ n. AreSources more whole (write_sources forms writes root places here n) (wide ++ (v1 ++ (v2 ++ last))))
      last_count
      (write_told more whole place forms writes root places here wide v1 v2 last whole_small wide_count
      (λ n row is. slice_get-append_left wide (domain.forms ++ (cells.forms ++ last)) n (slice_get_within wide n row is) ∙ is)
      (domain_told_all v1 h) (cells_told_all v2 k) last_stand)

  abbrev Told : List Form → Type 0
  Told rows = AreToldRows more wide last told_domain told_cells rows

  told_rows : (rows : List Form) → row_forms more told_system.rows ≡ Some rows → Told rows
  told_rows rows h =
      let made : row_forms more (c.rows ++ (told_domain ++ (told_cells ++ order))) ≡ Some rows =
      ap (row_forms more) (sym (regroup c.rows told_domain told_cells order)) ∙ h in
      let a : AreMadeBoth more c.rows (told_domain ++ (told_cells ++ order)) rows =
      made_both more c.rows (told_domain ++ (told_cells ++ order)) rows made in
      let b : AreMadeBoth more told_domain (told_cells ++ order) a.back =
      made_both more told_domain (told_cells ++ order) a.back a.back_made in
      let d : AreMadeBoth more told_cells order b.back = made_both more told_cells order b.back b.back_made in
      let front : a.front ≡ wide = same_Some a.front wide (sym a.front_made ∙ wide_made) in
      let end : d.back ≡ last = same_Some d.back last (sym d.back_made ∙ order_made.are_made) in
      let first_is : rows ≡ wide ++ a.back = a.is ∙ ap (λ x. x ++ a.back) front in
      let rest_is : b.back ≡ d.front ++ last = d.is ∙ ap (λ x. d.front ++ x) end in
      record {
        domain_rows = b.front;
        cells_rows = d.front;
        is = first_is ∙ ap (λ x. wide ++ x) (b.is ∙ ap (λ x. b.front ++ x) rest_is);
        domain_made = b.front_made;
        cells_made = d.front_made;
      }

  pub converted_write : (ts : List Term) → IsRefuted told_system (Sum ts)
      → IsRefuted own_system
      (converted_sum sources (here + (length forms + (2 * length writes + length order))) ts)
  converted_write ts h =
      let t : Told h.rows = told_rows h.rows h.are_made in
      record {
        rows = whole;
        are_made = own_made;
        refuted = subst (λ n. Refutes more whole (converted_sum sources n ts)) whole_count
            (converted_refutes more whole sources (wide ++ (t.domain_rows ++ (t.cells_rows ++ last))) ts
            (told_sources t.domain_rows t.cells_rows t.domain_made t.cells_made)
            (subst (λ rows. Refutes more rows (Sum ts)) t.is h.refuted));
      }

  -- What the Cuts add is small

  bounded_place : AreBounded more (2 ^ 40) place
  bounded_place = variables_bounded more c.vars e (omega arith)

  domain_small : (v : List Form) → row_forms more told_domain ≡ Some v → All (IsWithin (2 ^ 48)) v
  domain_small v made =
      made_within more (2 ^ 40) (2 ^ 48) told_domain v (omega arith)
      (told_domain_reached more (2 ^ 40) e forms place (omega arith) fits.few_loops fits.rows fits.row_kinds bounded_place) made

  cells_small : (v : List Form) → row_forms more told_cells ≡ Some v → All (IsWithin (2 ^ 48)) v
  cells_small v made =
      made_within more (2 ^ 40) (2 ^ 48) told_cells v (omega arith)
      (told_cells_reached more (2 ^ 40) e c.vars (problem_writes writes)
      (problem_reads c.vars (length r.statement.loops) places writes reads) place (omega arith) fits.few_loops (omega arith)
      (told_cells_are e (length r.statement.loops) c.vars places writes reads fits.even fits.writes fits.kinds fits.reads
      reader (tests_inside c (length r.statement.loops) root places writes reads fits.even tests))
      bounded_place) made

  order_at : order_number r w c ≡ here + length forms + 2 * length writes
  order_at = omega (
    arith,
    length-append c.rows (domain_rows forms place ++ cell_rows writes reads place),
    length-append (domain_rows forms place) (cell_rows writes reads place),
    length-domain_rows forms place,
    length-cell_rows writes reads place fits.even,
    forms_count c.vars c.rows small.rows small.made,
    small.count,
  )

  -- and they take no order row
  pub write_cut_sum : (ts : List Term) → here ≤ 8192 → length order ≤ 64 → IsRefuted told_system (Sum ts)
      → weight ts ≤ 2 ^ 48
      → IsCutSumOf (order_number r w c) own_system
      (converted_sum sources (here + (length forms + (2 * length writes + length order))) ts)
  write_cut_sum ts few_here few_order h light =
      let t : Told h.rows = told_rows h.rows h.are_made in
      let v1 : List Form = t.domain_rows in
      let v2 : List Form = t.cells_rows in
      let all : AreSources more whole sources (wide ++ (v1 ++ (v2 ++ last))) = told_sources v1 v2 t.domain_made t.cells_made
      in
      let d : List Source = domain_sources forms here in
      let x : List Source = subscript_sources writes (here + length forms) root places in
      let o : List Source = own_sources (here + length forms + 2 * length writes) (length order) in
      let P : Form → Type 0 = IsWithin (2 ^ 48) in
      record {
        rows = whole;
        are_made = own_made;
        is_cut_sum = subst (λ n. IsCutSum more whole (order_number r w c) (converted_sum sources n ts)) whole_count
            (converted_is_cut_sum more whole (order_number r w c) sources (wide ++ (v1 ++ (v2 ++ last))) ts all
            (omega (
              arith,
              cuts_few sources,
              sources_count more whole sources (wide ++ (v1 ++ (v2 ++ last))) all,
              length-append wide (v1 ++ (v2 ++ last)),
              length-append v1 (v2 ++ last),
              length-append v2 last,
              wide_count,
              last_count,
              forms_count more told_domain v1 t.domain_made,
              forms_count more told_cells v2 t.cells_made,
              length-domain_rows (problem_rows forms) place,
              length-map forms divided_form,
              told_cells_count,
              fits.few_rows,
              fits.few_subscripts,
              few_here,
              few_order,
            ))
            (write_before c (order_number r w c) (length r.statement.loops) root places forms writes reads here (length order)
            fits.even tests (sym (forms_count c.vars c.rows small.rows small.made) ∙ small.count) (omega (arith, order_at)))
            (subst (λ n. All P (added_of (own_sources 0 n ++ (d ++ (x ++ o))) (wide ++ (v1 ++ (v2 ++ last))))) wide_count
            (added_behind P 0 wide (d ++ (x ++ o)) (v1 ++ (v2 ++ last))
            (added_both P more whole d (x ++ o) v1 (v2 ++ last) (domain_are v1 t.domain_made)
            (added_all P d v1 (domain_small v1 t.domain_made))
            (added_both P more whole x o v2 last (cells_are v2 t.cells_made) (added_all P x v2 (cells_small v2 t.cells_made))
            (added_own P (here + length forms + 2 * length writes) (length order) last))))) light);
      }
