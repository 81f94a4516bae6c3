-- The system of a write before a read, as it is made.
--
-- The rows of the context have no number past 2^50, those of the writer's domain and of the subscripts are small, and
-- the order rows are made already. So each row can be made within 128 bits, and the system's rows are these four lists,
-- one behind the other. What the context's rows say plays no part.
use Rattle.std.proofs.Common.{◌≡◌, ◌+◌, ◌*◌, ◌^◌, ◌≤◌, ℕ, List, ◌++◌, length, map}
use Rattle.std.proofs.Common.{ap, ◌∙◌, subst, arith, append_assoc, length-append}
use Rattle.std.specs.Prelude.{Some, All, slice_get}
use Rattle.std.proofs.lemmas.List.{length-map}
use Rattle.std.proofs.lemmas.List.Elements.{All-append, All-weaker}
use Rattle.std.proofs.lemmas.Option.{slice_get_within}
use Rattle.affine_core.specs.declared.form.Form.{Form}
use Rattle.affine_core.specs.Affine.{widened_form}
use Rattle.tree_graphs.proofs.OrderEdges.{length_variables}
use Rattle.tree_graphs.proofs.ZeroSystems.{variables_taken}
use Rattle.tree_graphs.proofs.EdgeSums.{over_append, over_widened, within_widened}
use Rattle.tree_graphs.proofs.RowBounds.{are_made, forms_append, most_made, small_domain, AreMade, AreTaken}
use Rattle.plain_data.proofs.Lists.{slice_get-append_left, slice_get-append_right}
use Rattle.tree_sums.specs.Parts.{IsWithin}
use Rattle.tree_sums.proofs.RowParts.{made_widens, AreOver-row_forms}
use Rattle.tree_sums.proofs.Within.{IsWithin-weaker}
use Rattle.sanlp.specs.declared.nest.Nest.{Nest}
use Rattle.source_tree.specs.Places.{cell_rows, domain_rows}
use Rattle.source_tree.specs.Rows.{RowExpr, RowSystem, row_forms}
use Rattle.source_tree.specs.Systems.{Context, Occurrence, with_rows, with_write_at, writer_place}
use Rattle.source_tree.proofs.RowLists.{length-domain_rows, length-cell_rows}
use Rattle.stride_trees.specs.Contexts.{AreMadeSmall}
use Rattle.stride_trees.specs.Strides.{AreStrided, IsSmallContext}
use Rattle.stride_trees.proofs.ProblemBounds.{are_fitting, AreFitting}
use Rattle.stride_trees.proofs.MadeRows.{StandAt}
use Rattle.stride_trees.proofs.Lists.{forms_count}
use Rattle.stride_trees.proofs.Rows.{small_cells}
use Rattle.tree_cuts.proofs.RowSources.{IsSmallSystem}

pub stand_behind : (front rows more : List Form) → StandAt (front ++ (rows ++ more)) (length front) rows
stand_behind front rows more i row is =
    slice_get-append_right front (rows ++ more) i ∙ slice_get-append_left rows more i (slice_get_within rows i row is) ∙ is

pub regroup : (c d e l : List RowExpr) → (c ++ (d ++ e)) ++ l ≡ c ++ (d ++ (e ++ l))
regroup c d e l = append_assoc c (d ++ e) l ∙ ap (λ x. c ++ x) (append_assoc d e l)

module _ (n : Nest) (r w : Occurrence) (p : ℕ) (c : Context) (here : ℕ) (strided : AreStrided n r w p)
    (small : IsSmallContext c here) (reader : length r.statement.loops ≤ c.vars) (order : List RowExpr)
    (order_made : AreMadeSmall (c.vars + length w.statement.loops) order) where
  abbrev pub e : ℕ
  e = length w.statement.loops

  abbrev pub more : ℕ
  more = c.vars + e

  abbrev pub place : List Form
  place = writer_place c w

  pub fits : AreFitting n r w p
  fits = are_fitting n r w p strided

  pub long : length place ≡ e
  long = length_variables c.vars e

  pub place_taken : AreTaken more place
  place_taken = variables_taken more c.vars e (omega arith)

  abbrev pub forms : List Form
  forms = w.statement.rows

  abbrev pub writes : List Form
  writes = w.access.subscripts

  abbrev pub reads : List Form
  reads = r.access.subscripts

  pub domain : AreMade more (domain_rows forms place)
  domain = are_made more (domain_rows forms place) (small_domain more e forms place fits.few_loops fits.rows place_taken)

  pub cells : AreMade more (cell_rows writes reads place)
  cells = are_made more (cell_rows writes reads place)
      (small_cells more (length r.statement.loops) e writes reads place (omega (arith, reader)) fits.few_loops fits.writes
      fits.reads place_taken)

  abbrev pub last : List Form
  last = order_made.forms

  pub last_count : length last ≡ length order
  last_count = forms_count more order last order_made.are_made

  abbrev pub wide : List Form
  wide = map (widened_form more) small.rows

  -- the rows behind the context's
  abbrev pub behind : List Form
  behind = domain.forms ++ (cells.forms ++ last)

  abbrev pub whole : List Form
  whole = wide ++ behind

  abbrev pub Made : List RowExpr → Type 0
  Made rows = row_forms more rows ≡ Some whole

  pub wide_made : row_forms more c.rows ≡ Some wide
  wide_made = made_widens c.vars more c.rows small.rows (omega arith) small.made

  pub wide_count : length wide ≡ here
  wide_count = length-map small.rows (widened_form more) ∙ small.count

  pub domain_is : length domain.forms ≡ length forms
  domain_is = domain.count ∙ length-domain_rows forms place

  pub cells_is : length cells.forms ≡ 2 * length writes
  cells_is = cells.count ∙ length-cell_rows writes reads place fits.even

  pub whole_small : IsSmallSystem more whole
  whole_small = record {
    over = over_append more wide (domain.forms ++ (cells.forms ++ last))
        (over_widened c.vars more small.rows (omega arith) small.over)
        (over_append more domain.forms (cells.forms ++ last) domain.over
        (over_append more cells.forms last cells.over (AreOver-row_forms more order last order_made.are_made)));
    within = All-append (IsWithin (2 ^ 90)) wide (domain.forms ++ (cells.forms ++ last))
        (within_widened more (2 ^ 50) (2 ^ 90) small.rows (omega arith) small.within)
        (All-append (IsWithin (2 ^ 90)) domain.forms (cells.forms ++ last) (wider domain.forms domain.within)
        (All-append (IsWithin (2 ^ 90)) cells.forms last (wider cells.forms cells.within) order_made.within));
  } where
    wider : (rows : List Form) → All (IsWithin most_made) rows → All (IsWithin (2 ^ 90)) rows
    wider rows h = All-weaker (IsWithin most_made) (IsWithin (2 ^ 90))
        (λ f k. IsWithin-weaker most_made (2 ^ 90) f (omega arith) k) rows h

  abbrev pub own_system : RowSystem
  own_system = with_rows (with_write_at r c w) order

  -- its rows, one list behind the other
  abbrev pub laid : List RowExpr
  laid = c.rows ++ (domain_rows forms place ++ (cell_rows writes reads place ++ order))

  pub laid_made : row_forms more laid ≡ Some whole
  laid_made =
      forms_append more c.rows (domain_rows forms place ++ (cell_rows writes reads place ++ order)) wide
      (domain.forms ++ (cells.forms ++ last)) wide_made
      (forms_append more (domain_rows forms place) (cell_rows writes reads place ++ order) domain.forms
      (cells.forms ++ last) domain.are
      (forms_append more (cell_rows writes reads place) order cells.forms last cells.are order_made.are_made))

  pub own_made : row_forms more own_system.rows ≡ Some whole
  own_made = ap (row_forms more) (regroup c.rows (domain_rows forms place) (cell_rows writes reads place) order) ∙ laid_made

  pub domain_stand : StandAt whole here domain.forms
  domain_stand = subst (λ n. StandAt whole n domain.forms) wide_count
      (stand_behind wide domain.forms (cells.forms ++ last))

  pub cells_stand : StandAt whole (here + length forms) cells.forms
  cells_stand i row is =
      let even : here + length forms + i ≡ length wide + (length domain.forms + i) =
      omega (arith, wide_count, domain_is) in
      ap (slice_get whole) even ∙ slice_get-append_right wide (domain.forms ++ (cells.forms ++ last)) (length domain.forms + i)
      ∙ stand_behind domain.forms cells.forms last i row is

  pub last_stand : StandAt whole (here + length forms + 2 * length writes) last
  last_stand i row is =
      let even : here + length forms + 2 * length writes + i
      ≡ length wide + (length domain.forms + (length cells.forms + i)) =
      omega (arith, wide_count, domain_is, cells_is) in
      ap (slice_get whole) even
      ∙ slice_get-append_right wide (domain.forms ++ (cells.forms ++ last)) (length domain.forms + (length cells.forms + i))
      ∙ slice_get-append_right domain.forms (cells.forms ++ last) (length cells.forms + i)
      ∙ slice_get-append_right cells.forms last i ∙ is

  pub whole_count : length whole ≡ here + (length forms + (2 * length writes + length order))
  whole_count = omega (
    arith,
    length-append wide (domain.forms ++ (cells.forms ++ last)),
    length-append domain.forms (cells.forms ++ last),
    length-append cells.forms last,
    wide_count,
    domain_is,
    cells_is,
    last_count,
  )
