-- Sources and sinks: the statements that give an array its input values and that read its results.
use Rattle.std.specs.Prelude.{ℕ, ◌+◌, ℤ, pos, ◌-ℤ◌, List, [], ◌∷◌, ◌++◌, map, length, Some, None, if◌then◌else◌}
use Rattle.std.specs.List.{range_with_len, sum_by}
use Rattle.wrap_expr.specs.declared.expr.Expr.TheVariants.{Given, Read}
use Rattle.sanlp.specs.Cells.{natural, is_input, is_output}
use Rattle.sanlp.specs.WellFormed.{own_cell}
use Rattle.sanlp.specs.declared.nest.ArrayDecl.{ArrayDecl}
use Rattle.sanlp.specs.declared.nest.Role.TheVariants.{Source, Sink}
use Rattle.sanlp.specs.declared.nest.Statement.{Statement}
use Rattle.loop_bind.specs.declared.affine.Affine.{Affine}
use Rattle.loop_bind.specs.declared.bounds.Bounds.TheVariants.{Range}
use Rattle.loop_bind.specs.Forms.{constant_form, form_over}
use Rattle.loop_bind.specs.Rows.{loop_rows}

-- The rows of one loop for each extent e, the first being loop number v: `v >= 0` and
-- `e - 1 - v >= 0`. An extent below 0 counts as 0.
abbrev pub extent_rows : ℕ → List ℤ → List Affine
extent_rows v [] = []
extent_rows v (e ∷ extents) =
    loop_rows v (Range (constant_form (pos 0) ∷ []) (constant_form (pos (natural e) -ℤ pos 1) ∷ []))
    ++ extent_rows (v + 1) extents

-- the source and the sink of an array of this number, where the first of the loops round it has
-- this number
abbrev pub source_statement : ℕ → ℕ → List ℤ → Statement
source_statement a l extents =
    record {
      role = Source a;
      loops = range_with_len l (length extents);
      rows = map (form_over (length extents)) (extent_rows 0 extents);
      write = Some (own_cell (length extents) a);
      reads = [];
      expr = Given;
    }

abbrev pub sink_statement : ℕ → ℕ → List ℤ → Statement
sink_statement a l extents =
    record {
      role = Sink a;
      loops = range_with_len l (length extents);
      rows = map (form_over (length extents)) (extent_rows 0 extents);
      write = None;
      reads = own_cell (length extents) a ∷ [];
      expr = Read 0;
    }

-- the sources and the sinks of arrays in declaration order, the first array having number a and the
-- first loop number l
abbrev pub sources_from : ℕ → ℕ → List ArrayDecl → List Statement
sources_from a l [] = []
sources_from a l (array ∷ arrays) =
    if is_input array.kind then source_statement a l array.extents
    ∷ sources_from (a + 1) (l + length array.extents) arrays
    else sources_from (a + 1) l arrays

-- the sinks, each of which reads an output array, with arrays and loops numbered from here
abbrev pub sinks_from : ℕ → ℕ → List ArrayDecl → List Statement
sinks_from a l [] = []
sinks_from a l (array ∷ arrays) =
    if is_output array.kind then sink_statement a l array.extents
    ∷ sinks_from (a + 1) (l + length array.extents) arrays
    else sinks_from (a + 1) l arrays

-- how many loops stand round sources or sinks of arrays with these extents
abbrev pub loop_count : List (List ℤ) → ℕ
loop_count extents = sum_by length extents
