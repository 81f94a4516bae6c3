-- The two rows of a write's subscript with a stride, in the system of a write before a read.
--
-- The rows of the context stand first, then those of the writer's domain, two for each subscript, and the order rows. Taken
-- with the sign of the stride, the two rows of a subscript `c v + d` say that the size of c times the loop v is no less and
-- no greater than the form of its test. Nothing is asked of the context's own rows but that they are small.
use Rattle.std.proofs.Common.{◌≡◌, ◌+◌, ◌*◌, ◌^◌, ◌≤◌, ◌<◌, ℕ, ℤ, pos, ◌-ℤ◌, ◌*ℤ◌, List, ◌++◌}
use Rattle.std.proofs.Common.{length, Bool, true, false, cond, sym, ap, ◌∙◌, subst, arith}
use Rattle.std.specs.Prelude.{Some, slice_get, unsigned_abs}
use Rattle.std.specs.Option.{option_map_or}
use Rattle.std.specs.Int.RustNames.{int_lt}
use Rattle.std.proofs.lemmas.Option.{slice_get_within}
use Rattle.affine_core.specs.declared.form.Form.{Form}
use Rattle.affine_core.specs.Affine.{variable_form, widened_form}
use Rattle.tree_graphs.proofs.ProblemBounds.{form_is, FormFits}
use Rattle.tree_graphs.proofs.OrderEdges.{variable_at, variable_within}
use Rattle.tree_sums.specs.Made.{parts_of}
use Rattle.tree_sums.specs.Parts.{Part, part_of, row_part}
use Rattle.tree_sums.specs.Shown.{RowParts}
use Rattle.plain_data.proofs.Lists.{slice_get-append_right}
use Rattle.tree_sums.proofs.Within.{part_of-le}
use Rattle.sanlp.proofs.Elements.{list_all_at}
use Rattle.sanlp.specs.declared.nest.Nest.{Nest}
use Rattle.sanlp.specs.WellFormed.{form_fits}
use Rattle.source_tree.specs.Places.{at_place, cell_rows, domain_rows}
use Rattle.source_tree.specs.Rows.{RowExpr, Take, minus}
use Rattle.source_tree.specs.Systems.{Context, Occurrence, writer_place}
use Rattle.source_tree.proofs.RowLists.{length-domain_rows}
use Rattle.tree_cuts.specs.Class.{is_single, stride_of}
use Rattle.stride_trees.specs.Contexts.{AreMadeSmall}
use Rattle.stride_trees.specs.Divisions.{division_of}
use Rattle.tree_cuts.specs.Sources.{loop_of}
use Rattle.stride_trees.specs.Strides.{AreStrided, IsSmallContext}
use Rattle.tree_cuts.proofs.Coefficients.{outside_counts}
use Rattle.stride_trees.proofs.ProblemBounds.{AreFitting}
use Rattle.stride_trees.proofs.Lists.{forms_count, row_made}
use Rattle.stride_trees.proofs.NoSystems.{stride_rows, AreStrideRows}
use Rattle.stride_trees.proofs.Rows.{cells_at, AreCellRows}
use Rattle.tree_cuts.proofs.Singles.{loop_inside}
use Rattle.stride_trees.proofs.WriteSystems as standing
use Rattle.stride_trees.proofs.TestForms.{stride_is, IsStrideOf}

-- the rows `M v - f` and `f - M v`, and their numbers
pub record AreLoopRows (rows : List Form) (d up down : ℕ) (f v : RowParts) : Type 0 where
  pub positive : 0 < d
  pub small : d ≤ 2 ^ 32
  pub up_in : up < length rows
  pub down_in : down < length rows
  pub above : (part : Part) → row_part rows part up ≡ (v part *ℤ pos d) -ℤ f part
  pub below : (part : Part) → row_part rows part down ≡ f part -ℤ (v part *ℤ pos d)
  pub small_v : (part : Part) → unsigned_abs (v part) ≤ 1

module _ (n : Nest) (r w : Occurrence) (p : ℕ) (c : Context) (here i : ℕ) (write read : Form) (stride : ℤ)
    (strided : AreStrided n r w p) (small : IsSmallContext c here) (reader : length r.statement.loops ≤ c.vars)
    (write_is : slice_get w.access.subscripts i ≡ Some write) (read_is : slice_get r.access.subscripts i ≡ Some read)
    (is : stride_of write ≡ Some stride) (quotient : ℕ) (order : List RowExpr)
    (order_made : AreMadeSmall (c.vars + length w.statement.loops) order) where
  abbrev pub e : ℕ
  e = length w.statement.loops

  abbrev more : ℕ
  more = c.vars + e

  abbrev d : ℕ
  d = unsigned_abs stride

  abbrev pub place : List Form
  place = writer_place c w

  abbrev forms : List Form
  forms = w.statement.rows

  fits : AreFitting n r w p
  fits = standing.fits n r w p c here strided small reader order order_made

  abbrev pub whole : List Form
  whole = standing.whole n r w p c here strided small reader order order_made

  abbrev laid : List RowExpr
  laid = standing.laid n r w p c here strided small reader order order_made

  laid_made : standing.Made n r w p c here strided small reader order order_made laid
  laid_made = standing.laid_made n r w p c here strided small reader order order_made

  whole_count : length whole ≡ here + (length forms + (2 * length w.access.subscripts + length order))
  whole_count = standing.whole_count n r w p c here strided small reader order order_made

  write_fits : FormFits e write
  write_fits = form_is e write (list_all_at (form_fits e) w.access.subscripts i write fits.writes write_is)

  of_stride : IsStrideOf stride
  of_stride = stride_is e write stride write_fits is

  abbrev pub f : RowParts
  f part = part_of part (widened_form quotient (division_of i write read stride).form)

  -- the rows of its subscript

  abbrev cells : List RowExpr
  cells = cell_rows w.access.subscripts r.access.subscripts place ++ order

  cell : AreCellRows cells i write read place
  cell = cells_at w.access.subscripts r.access.subscripts place i write read order write_is read_is

  at_cell : (k : ℕ) (row : RowExpr) → slice_get cells k ≡ Some row → (part : Part)
      → row_part whole part (here + (length forms + k)) ≡ parts_of row part
  at_cell k row row_is part =
      let domain : List RowExpr = domain_rows forms place in
      let even : here + (length forms + k) ≡ length c.rows + (length domain + k) =
      omega
      (arith, forms_count c.vars c.rows small.rows small.made, small.count, length-domain_rows forms place) in
      ap (row_part whole part) even
      ∙ row_made more laid whole (length c.rows + (length domain + k)) row part laid_made
      (slice_get-append_right c.rows (domain ++ cells) (length domain + k) ∙ slice_get-append_right domain cells k ∙ row_is)

  abbrev pub v : RowParts
  v part = row_part place part (loop_of write.coefs)

  told : AreStrideRows write read place d f v (int_lt (pos 0) stride)
  told = stride_rows quotient write read place stride i
      (write_fits.over ∙ sym (standing.long n r w p c here strided small reader order order_made))
      (list_all_at is_single w.access.subscripts i write fits.kinds write_is) is

  v_small : (part : Part) → unsigned_abs (v part) ≤ 1
  v_small part =
      let k : ℕ = loop_of write.coefs in
      let inside : k < e = omega (arith, loop_inside write.coefs (outside_counts write.coefs stride is), write_fits.over) in
      let same : v part ≡ part_of part (variable_form (c.vars + k + 1) (c.vars + k)) =
      ap (λ o. option_map_or (part_of part) o (pos 0)) (variable_at c.vars e k inside) in
      omega (
        arith,
        ap unsigned_abs same,
        part_of-le 1 (variable_form (c.vars + k + 1) (c.vars + k)) part (variable_within (c.vars + k + 1) (c.vars + k)),
      )

  abbrev pub row : ℕ
  row = here + (length forms + 2 * i)

  first_row : (part : Part) → row_part whole part row ≡ parts_of (minus (at_place write place) (Take read)) part
  first_row part = at_cell (2 * i) (minus (at_place write place) (Take read)) cell.first part

  second_row : (part : Part) → row_part whole part (row + 1) ≡ parts_of (minus (Take read) (at_place write place)) part
  second_row part =
      let next : row + 1 ≡ here + (length forms + (2 * i + 1)) = omega arith in
      ap (row_part whole part) next ∙ at_cell (2 * i + 1) (minus (Take read) (at_place write place)) cell.second part

  inside : i < length w.access.subscripts
  inside = slice_get_within w.access.subscripts i write write_is

  first_in : row < length whole
  first_in = omega (arith, whole_count, inside)

  second_in : row + 1 < length whole
  second_in = omega (arith, whole_count, inside)

  loop_rows : (b : Bool) → AreStrideRows write read place d f v b
      → AreLoopRows whole d (cond b row (row + 1)) (cond b (row + 1) row) f v
  loop_rows true h = record {
    positive = omega (arith, of_stride.at_least);
    small = of_stride.small;
    up_in = first_in;
    down_in = second_in;
    above = λ part. first_row part ∙ h.first part;
    below = λ part. second_row part ∙ h.second part;
    small_v = v_small;
  }
  loop_rows false h = record {
    positive = omega (arith, of_stride.at_least);
    small = of_stride.small;
    up_in = second_in;
    down_in = first_in;
    above = λ part. second_row part ∙ h.second part;
    below = λ part. first_row part ∙ h.first part;
    small_v = v_small;
  }

  pub subscript_rows : (b : Bool) → int_lt (pos 0) stride ≡ b
      → AreLoopRows whole d (cond b row (row + 1)) (cond b (row + 1) row) f v
  subscript_rows b rises = loop_rows b (subst (AreStrideRows write read place d f v) rises told)
