-- A write at one level of order before a read, as a problem of differences over the variables of a context.
use Rattle.std.specs.Prelude.{◌≡◌, ◌≤◌, ◌<◌, ◌^◌, ℕ, ◌-◌, List, [], ◌∷◌, length, Some, slice_get, unsigned_abs, IsTrue}
use Rattle.std.specs.List.{list_all}
use Rattle.affine_core.specs.declared.form.Form.{Form}
use Rattle.sanlp.specs.Bounds.{BoundsAbove}
use Rattle.sanlp.specs.WellFormed.{form_fits}
use Rattle.source_tree.specs.Systems.{Occurrence}
use Rattle.source_tree.specs.declared.reference.Reference.{Reference}
use Rattle.tree_graphs.specs.Class.{is_difference, is_shift}
use Rattle.tree_graphs.specs.Level.{HasLevel}
use Rattle.tree_sums.specs.Parts.{IsWithin}

-- a read with these subscripts
abbrev pub read_with : Reference → List Form → Occurrence
read_with read forms = record {
  number = read.number;
  statement = read.statement.now;
  access = record read.access.now { subscripts = forms };
}

-- a write with these domain rows and subscripts
abbrev pub write_with : Reference → List Form → List Form → Occurrence
write_with write rows forms = record {
  number = write.number;
  statement = record write.statement.now { rows = rows };
  access = record write.access.now { subscripts = forms };
}

-- A subscript of the write, a constant or one loop variable plus a constant, and that of the read, a form over
-- the variables of a context. Their numbers are small, and so are those of their difference.
pub record IsCell (vars depth : ℕ) (write read : Form) : Type 0 where
  pub shift : IsTrue (is_shift write)
  pub fits : IsTrue (form_fits depth write)
  pub over : length read.coefs ≡ vars
  pub within : IsWithin (2 ^ 33 - unsigned_abs write.constant) read

-- as many subscripts of the write as of the read, each two of which are such
abbrev pub AreCells : ℕ → ℕ → List Form → List Form → Type 0
AreCells vars depth [] [] = Unit {0}
AreCells vars depth [] (read ∷ reads) = ⊥
AreCells vars depth (write ∷ writes) [] = ⊥
AreCells vars depth (write ∷ writes) (read ∷ reads) =
    IsCell vars depth write read × AreCells vars depth writes reads

-- A write at level p before a read, over so many variables of a context, of which the reader's loops are the
-- first: the write's domain rows are differences that bound each of its loops above.
pub record IsProblem (vars : ℕ) (r w : Occurrence) (p : ℕ) : Type 0 where
  pub few_vars : vars ≤ 12
  pub reader : length r.statement.loops ≤ vars
  pub few_loops : length w.statement.loops ≤ 6
  pub few_rows : length w.statement.rows ≤ 32
  pub rows : IsTrue (list_all (form_fits (length w.statement.loops)) w.statement.rows)
  pub differences : IsTrue (list_all is_difference w.statement.rows)
  pub bounded : (loop : ℕ) → loop < length w.statement.loops
      → ∥ ((i : ℕ) × (row : Form) × (slice_get w.statement.rows i ≡ Some row)
      × BoundsAbove loop row) ∥₁
  pub few_subscripts : length w.access.subscripts ≤ 6
  pub cells : AreCells vars (length w.statement.loops) w.access.subscripts r.access.subscripts
  pub level : HasLevel r w p
