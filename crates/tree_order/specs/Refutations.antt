-- Proofs that a candidate has no write, or none behind a point.
use Rattle.std.specs.Prelude.{◌≡◌, ◌≤◌, ℕ, List, [], ◌++◌, length, Some, slice_get}
use Rattle.affine_core.specs.declared.form.Form.{Form}
use Rattle.int_polyhedra.specs.declared.system.Proof.{Proof}
use Rattle.int_polyhedra.specs.declared.system.System.{System}
use Rattle.tree_order.specs.Comparisons.{AreForms}
use Rattle.tree_graphs.specs.Contexts.{IsMadeAs}
use Rattle.tree_graphs.specs.Joint.{orders_behind}
use Rattle.tree_graphs.specs.Joint.{ReadAndWrite}
use Rattle.tree_graphs.specs.Edges.{AreLevelRows}
use Rattle.source_tree.specs.Checked.{IsRefuted}
use Rattle.source_tree.specs.Rows.{RowExpr}
use Rattle.source_tree.specs.Systems.{Context, Occurrence, with_rows, with_write_at, writer_place}

-- the proof refutes a write at level p before its read, in each context that is made as these rows
abbrev pub RefutesWrites : ReadAndWrite → System → ℕ → Proof → Type 0
RefutesWrites o context p proof =
    (c : Context) (level : List RowExpr) → IsMadeAs context c
    → AreLevelRows o.read o.write p (writer_place c o.write) level
    → IsRefuted (with_rows (with_write_at o.read c o.write) (level ++ [])) proof

-- the proof refutes a write at level p before its read that stands after this point of w at level q
abbrev pub RefutesBetween : ReadAndWrite → System → ℕ → Occurrence → List Form → ℕ → Proof → Type 0
RefutesBetween o context p w place q proof =
    (c : Context) (level order : List RowExpr) → IsMadeAs context c
    → AreLevelRows o.read o.write p (writer_place c o.write) level
    → slice_get (orders_behind w place c o.write) q ≡ Some order
    → IsRefuted (with_rows (with_write_at o.read c o.write) (level ++ order)) proof

-- a point of a writer, in a context
pub record IsPointIn (context : System) (w : Occurrence) (place : List Form) : Type 0 where
  pub few_loops : length w.statement.loops ≤ 6
  pub deep : length place ≡ length w.statement.loops
  pub forms : AreForms context.vars place
