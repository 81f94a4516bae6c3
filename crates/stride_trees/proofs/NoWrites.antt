-- A write is none in a context where one of its tests of divisibility says no.
--
-- Two rows of the context say that the test's form lies strictly between two next multiples of its divisor. Two rows of
-- the write's subscript say that the form is such a multiple, taken with the sign of the stride. These four are refuted
-- together, whatever the other rows of the context, the writer and the order are.
use Rattle.std.proofs.Common.{◌≡◌, ◌+◌, ◌*◌, ◌≤◌, ◌<◌, ℕ, ℤ, pos, negsuc, ◌+ℤ◌, ◌*ℤ◌, List}
use Rattle.std.proofs.Common.{◌++◌, length, map, Bool, true, false, cond, sym, ap, ◌∙◌, subst, arith, length-append}
use Rattle.std.specs.Prelude.{Some, slice_get, unsigned_abs}
use Rattle.std.specs.Option.{option_map_or}
use Rattle.std.specs.Int.RustNames.{int_lt}
use Rattle.std.proofs.lemmas.Option.{slice_get_within}
use Rattle.affine_core.specs.declared.form.Form.{Form}
use Rattle.affine_core.specs.Affine.{variable_form, widened_form}
use Rattle.int_polyhedra.specs.declared.system.Proof.{Proof}
use Rattle.int_polyhedra.specs.Rules.{Refutes}
use Rattle.tree_graphs.proofs.OrderEdges.{variable_within}
use Rattle.plain_data.proofs.Lists.{slice_get-append_left}
use Rattle.tree_sums.specs.Made.{parts_of}
use Rattle.tree_sums.specs.Parts.{Part, part_of, row_part}
use Rattle.tree_sums.specs.Shown.{RowParts}
use Rattle.tree_sums.proofs.Within.{part_of-le}
use Rattle.tree_sums.proofs.MoreVariables.{row_part-widened}
use Rattle.sanlp.specs.declared.nest.Nest.{Nest}
use Rattle.source_tree.specs.Checked.{IsRefuted}
use Rattle.source_tree.specs.Places.{cell_rows, domain_rows}
use Rattle.source_tree.specs.Rows.{RowExpr, Take, Plus, minus, number, one_less}
use Rattle.source_tree.specs.Systems.{Context, Occurrence, multiple, with_rows, with_write_at, writer_place}
use Rattle.source_tree.proofs.RowLists.{length-cell_rows, length-domain_rows}
use Rattle.tree_cuts.specs.Class.{stride_of}
use Rattle.tree_cuts.specs.Cuts.{IsCutSum}
use Rattle.stride_trees.specs.Candidates.{order_number, IsCutSumOf}
use Rattle.stride_trees.specs.Contexts.{own_system, AreMadeSmall, IsNoIn}
use Rattle.stride_trees.specs.Divisions.{division_of}
use Rattle.tree_cuts.specs.Sources.{loop_of}
use Rattle.stride_trees.specs.Strides.{depth_of_read, depth_of_write, read_of, write_of, AreStrided, IsSmallContext, IsStrided, IsTestOf}
use Rattle.stride_trees.specs.declared.divisions.Division.{Division}
use Rattle.stride_trees.specs.declared.strides.Strides.{Strides}
use Rattle.tree_cuts.proofs.Indivisible.{indivisible_proof, number_part, undivided_is_cut_sum, undivided_proof}
use Rattle.tree_cuts.proofs.Indivisible.{undivided_refutes, AreUndivided}
use Rattle.stride_trees.proofs.Lists.{forms_count, row_made}
use Rattle.stride_trees.proofs.WriteSystems as standing
use Rattle.stride_trees.proofs.Subscript as subscript
use Rattle.stride_trees.proofs.Subscript.{AreLoopRows}

-- the two rows of a test that says no
abbrev low_expr : ℕ → Form → ℤ → RowExpr
low_expr quotient form divisor = one_less (minus (Take form) (multiple divisor quotient))

abbrev high_expr : ℕ → Form → ℤ → RowExpr
high_expr quotient form divisor = minus (one_less (Plus (multiple divisor quotient) (number divisor))) (Take form)

module _ (n : Nest) (r w : Occurrence) (p : ℕ) (c : Context) (here i : ℕ) (write read : Form) (stride : ℤ)
    (strided : AreStrided n r w p) (small : IsSmallContext c here) (reader : length r.statement.loops ≤ c.vars)
    (write_is : slice_get w.access.subscripts i ≡ Some write) (read_is : slice_get r.access.subscripts i ≡ Some read)
    (is : stride_of write ≡ Some stride) (test quotient : ℕ)
    (first : slice_get c.rows test
    ≡ Some (low_expr quotient (widened_form quotient (division_of i write read stride).form) (pos (unsigned_abs stride))))
    (second : slice_get c.rows (test + 1)
    ≡ Some (high_expr quotient (widened_form quotient (division_of i write read stride).form) (pos (unsigned_abs stride))))
    (order : List RowExpr) (order_made : AreMadeSmall (c.vars + length w.statement.loops) order) where
  abbrev e : ℕ
  e = length w.statement.loops

  abbrev more : ℕ
  more = c.vars + e

  abbrev d : ℕ
  d = unsigned_abs stride

  abbrev place : List Form
  place = writer_place c w

  abbrev forms : List Form
  forms = w.statement.rows

  abbrev whole : List Form
  whole = standing.whole n r w p c here strided small reader order order_made

  abbrev wide : List Form
  wide = map (widened_form more) small.rows

  abbrev behind : List Form
  behind = standing.behind n r w p c here strided small reader order order_made

  whole_count : length whole ≡ here + (length forms + (2 * length w.access.subscripts + length order))
  whole_count = standing.whole_count n r w p c here strided small reader order order_made

  -- the rows of the test

  abbrev f : RowParts
  f part = part_of part (widened_form quotient (division_of i write read stride).form)

  abbrev q : RowParts
  q part = part_of part (variable_form (quotient + 1) quotient)

  at_context : (k : ℕ) (row : RowExpr) → slice_get c.rows k ≡ Some row → (part : Part)
      → row_part whole part k ≡ parts_of row part
  at_context k row row_is part =
      ap (λ o. option_map_or (part_of part) o (pos 0))
      (slice_get-append_left wide behind k
      (omega (
        arith,
        slice_get_within c.rows k row row_is,
        forms_count c.vars c.rows small.rows small.made,
        small.count,
        standing.wide_count n r w p c here strided small reader
            order order_made,
      )))
      ∙ row_part-widened more small.rows part k ∙ row_made c.vars c.rows small.rows k row part small.made row_is

  -- the rows of its subscript

  abbrev v : RowParts
  v part = row_part place part (loop_of write.coefs)

  abbrev row : ℕ
  row = here + (length forms + 2 * i)

  loop_rows : (b : Bool) → int_lt (pos 0) stride ≡ b
      → AreLoopRows whole d (cond b row (row + 1)) (cond b (row + 1) row) f v
  loop_rows =
      subscript.subscript_rows n r w p c here i write read stride strided small reader write_is read_is is quotient order
      order_made

  test_in : test + 1 < length whole
  test_in = omega (
    arith,
    whole_count,
    forms_count c.vars c.rows small.rows small.made,
    small.count,
    slice_get_within c.rows (test + 1)
        (high_expr quotient (widened_form quotient (division_of i write read stride).form) (pos d)) second,
  )

  low_row : (part : Part) → row_part whole part test
      ≡ (f part +ℤ ((q part *ℤ pos d) *ℤ negsuc 0)) +ℤ number_part (negsuc 0) part
  low_row part =
      at_context test (low_expr quotient (widened_form quotient (division_of i write read stride).form) (pos d)) first part

  high_row : (part : Part) → row_part whole part (test + 1)
      ≡ (((q part *ℤ pos d) +ℤ number_part (pos d) part) +ℤ number_part (negsuc 0) part) +ℤ (f part *ℤ negsuc 0)
  high_row part =
      at_context (test + 1) (high_expr quotient (widened_form quotient (division_of i write read stride).form) (pos d)) second
      part

  q_small : (part : Part) → unsigned_abs (q part) ≤ 1
  q_small part = part_of-le 1 (variable_form (quotient + 1) quotient) part (variable_within (quotient + 1) quotient)

  undivided : (b : Bool) → AreLoopRows whole d (cond b row (row + 1)) (cond b (row + 1) row) f v
      → AreUndivided whole d test (cond b row (row + 1)) (cond b (row + 1) row) f q v
  undivided b h = record {
    positive = h.positive;
    here_in = test_in;
    up_in = h.up_in;
    down_in = h.down_in;
    low = low_row;
    high = high_row;
    above = h.above;
    below = h.below;
    small_q = q_small;
    small_v = h.small_v;
  }

  pub undivided_write_refuted : (b : Bool) → int_lt (pos 0) stride ≡ b → IsRefuted (with_rows (with_write_at r c w) order)
      (undivided_proof d test (cond b row (row + 1)) (cond b (row + 1) row)
      (here + (length forms + (2 * length w.access.subscripts + length order))))
  undivided_write_refuted b rises =
      let up : ℕ = cond b row (row + 1) in
      let down : ℕ = cond b (row + 1) row in
      let small_whole = standing.whole_small n r w p c here strided small reader order order_made in
      record {
        rows = whole;
        are_made = standing.own_made n r w p c here strided small reader order order_made;
        refuted = subst (λ k. Refutes more whole (undivided_proof d test up down k)) whole_count
            (undivided_refutes more whole d test up down f q v small_whole.over small_whole.within
            (undivided b (loop_rows b rises)));
      }

  -- its Cuts take no order row
  before_order : order_number r w c ≡ here + (length forms + 2 * length w.access.subscripts)
  before_order = omega (
    arith,
    length-append c.rows (domain_rows forms place ++ cell_rows w.access.subscripts r.access.subscripts place),
    length-append (domain_rows forms place) (cell_rows w.access.subscripts r.access.subscripts place),
    length-domain_rows forms place,
    length-cell_rows w.access.subscripts r.access.subscripts place
        (standing.fits n r w p c here strided small reader order order_made).even,
    forms_count c.vars c.rows small.rows small.made,
    small.count,
  )

  inside : i < length w.access.subscripts
  inside = slice_get_within w.access.subscripts i write write_is

  up_before : (b : Bool) → cond b row (row + 1) < order_number r w c
  up_before true = omega (arith, before_order, inside)
  up_before false = omega (arith, before_order, inside)

  down_before : (b : Bool) → cond b (row + 1) row < order_number r w c
  down_before true = omega (arith, before_order, inside)
  down_before false = omega (arith, before_order, inside)

  test_before : test + 1 < order_number r w c
  test_before = omega (
    arith,
    before_order,
    forms_count c.vars c.rows small.rows small.made,
    small.count,
    slice_get_within c.rows (test + 1)
        (high_expr quotient (widened_form quotient (division_of i write read stride).form) (pos d)) second,
  )

  pub undivided_write_cuts : (b : Bool) → int_lt (pos 0) stride ≡ b
      → IsCutSumOf (order_number r w c) (with_rows (with_write_at r c w) order)
      (undivided_proof d test (cond b row (row + 1)) (cond b (row + 1) row)
      (here + (length forms + (2 * length w.access.subscripts + length order))))
  undivided_write_cuts b rises =
      let up : ℕ = cond b row (row + 1) in
      let down : ℕ = cond b (row + 1) row in
      let small_whole = standing.whole_small n r w p c here strided small reader order order_made in
      record {
        rows = whole;
        are_made = standing.own_made n r w p c here strided small reader order order_made;
        is_cut_sum = subst (λ k. IsCutSum more whole (order_number r w c) (undivided_proof d test up down k)) whole_count
            (undivided_is_cut_sum more whole d test up down f q v small_whole.over small_whole.within
            (undivided b (loop_rows b rises)) (order_number r w c) test_before (up_before b) (down_before b));
      }

-- the same of what is made

module _ (s : Strides) (d : Division) (strided : IsStrided s) (test : IsTestOf s d) (test_row quotient here more : ℕ)
    (c : Context) (at : IsNoIn d test_row quotient here c) (reader : depth_of_read s ≤ c.vars) (order : List RowExpr)
    (order_made : AreMadeSmall (c.vars + depth_of_write s) order) (count : length order ≡ more) (proof : Proof)
    (row above below all : ℕ) (row_is : row ≡ here + (length s.write.statement.now.rows + 2 * d.subscript))
    (above_is : above ≡ cond d.rises row (row + 1)) (below_is : below ≡ cond d.rises (row + 1) row)
    (all_is : all
    ≡ here + (length s.write.statement.now.rows + (2 * length s.write.access.now.subscripts + more)))
    (proof_is : proof ≡ indivisible_proof d.divisor test_row above below all) where
  abbrev m : ℕ
  m = unsigned_abs test.stride

  abbrev own : ℕ
  own = here + (length s.write.statement.now.rows + 2 * d.subscript)

  abbrev number_of_rows : ℕ → ℕ
  number_of_rows k = here + (length s.write.statement.now.rows + (2 * length s.write.access.now.subscripts + k))

  abbrev of_subscript : Division
  of_subscript = division_of d.subscript test.write test.read test.stride

  own_first : slice_get c.rows test_row ≡ Some (low_expr quotient (widened_form quotient of_subscript.form) (pos m))
  own_first = at.first ∙ ap (λ (t : Division). Some (low_expr quotient (widened_form quotient t.form) t.divisor)) test.is

  own_second : slice_get c.rows (test_row + 1) ≡ Some (high_expr quotient (widened_form quotient of_subscript.form) (pos m))
  own_second = at.second ∙ ap (λ (t : Division). Some (high_expr quotient (widened_form quotient t.form) t.divisor)) test.is

  own_proof : proof ≡ undivided_proof m test_row (cond d.rises own (own + 1)) (cond d.rises (own + 1) own)
      (number_of_rows (length order))
  own_proof =
      proof_is
      ∙ ap (λ (t : Division). indivisible_proof t.divisor test_row above below all) test.is
      ∙ ap (λ up. indivisible_proof (pos m) test_row up below all)
      (above_is ∙ ap (λ row. cond d.rises row (row + 1)) row_is)
      ∙ ap (λ down. indivisible_proof (pos m) test_row (cond d.rises own (own + 1)) down all)
      (below_is ∙ ap (λ row. cond d.rises (row + 1) row) row_is)
      ∙ ap (indivisible_proof (pos m) test_row (cond d.rises own (own + 1)) (cond d.rises (own + 1) own))
      (all_is ∙ ap number_of_rows (sym count))

  pub undivided_refuted : IsRefuted (own_system s c order) proof
  undivided_refuted =
      subst (IsRefuted (own_system s c order)) (sym own_proof)
      (undivided_write_refuted s.nest.now (read_of s) (write_of s) s.level c here d.subscript test.write test.read test.stride
      strided.strided at.small reader test.write_is test.read_is test.stride_is test_row quotient own_first own_second order
      order_made d.rises (sym (ap (λ (t : Division). t.rises) test.is)))

  pub undivided_cuts : IsCutSumOf (order_number (read_of s) (write_of s) c) (own_system s c order) proof
  undivided_cuts =
      subst (IsCutSumOf (order_number (read_of s) (write_of s) c) (own_system s c order)) (sym own_proof)
      (undivided_write_cuts s.nest.now (read_of s) (write_of s) s.level c here d.subscript test.write test.read test.stride
      strided.strided at.small reader test.write_is test.read_is test.stride_is test_row quotient own_first own_second order
      order_made d.rises (sym (ap (λ (t : Division). t.rises) test.is)))
