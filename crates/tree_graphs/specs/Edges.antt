-- Rows on a place as edges of a graph of difference constraints.
use Rattle.std.specs.Prelude.{◌≡◌, ◌≤◌, ◌<◌, ◌^◌, ℕ, suc, ◌-◌, ℤ, pos, negsuc, ◌+ℤ◌, ◌-ℤ◌, List, [], ◌∷◌, ◌++◌, length, drop, nat_lt, All, Some, slice_get, slice_index_or, if◌then◌else◌}
use Rattle.std.specs.Ordering.{int_eq}
use Rattle.affine_core.specs.declared.form.Form.{Form}
use Rattle.affine_core.specs.Affine.{constant_form}
use Rattle.tree_graphs.specs.Asked.{depth_of_write, read_of}
use Rattle.tree_graphs.specs.declared.edges.Edge.{Edge}
use Rattle.tree_graphs.specs.declared.writes.Writes.{Writes}
use Rattle.tree_sums.specs.Parts.{Part, part_of, row_part, IsWithin}
use Rattle.tree_sums.specs.Made.{parts_of}
use Rattle.tree_sums.specs.Shown.{RowParts}
use Rattle.source_tree.specs.Places.{before_rows, cell_rows, domain_rows, order_rows}
use Rattle.source_tree.specs.Rows.{RowExpr}
use Rattle.source_tree.specs.Systems.{Occurrence, reader_place}

-- the first variable with this coefficient, or how many variables there are
abbrev pub node_of : ℤ → List ℤ → ℕ
node_of wanted [] = 0
node_of wanted (c ∷ cs) = if int_eq c wanted then 0 else suc (node_of wanted cs)

-- the edge of a domain row
abbrev pub domain_edge_of : ℕ → Form → Edge
domain_edge_of vars row = record {
  from = node_of (pos 1) row.coefs;
  to = node_of (negsuc 0) row.coefs;
  weight = constant_form vars row.constant;
}

-- the row of an edge at a place: weight + place_from - place_to, where the node behind the last loop stands
-- for 0
abbrev pub edge_parts : List Form → Edge → RowParts
edge_parts place g part =
    (part_of part g.weight +ℤ row_part place part g.from) -ℤ row_part place part g.to

-- these rows are those of these edges, in order
abbrev pub AreEdges : List Form → List RowExpr → List Edge → Type 0
AreEdges place [] [] = Unit {0}
AreEdges place [] (g ∷ edges) = ⊥
AreEdges place (row ∷ rows) [] = ⊥
AreEdges place (row ∷ rows) (g ∷ edges) =
    ((part : Part) → parts_of row part ≡ edge_parts place g part) × AreEdges place rows edges

-- An edge between such nodes, with a weight over the variables of a context. Between two loop variables
-- the weight is a number.
pub record IsEdge (vars depth : ℕ) (g : Edge) : Type 0 where
  pub from : g.from ≤ depth
  pub to : g.to ≤ depth
  pub over : length g.weight.coefs ≡ vars
  pub within : IsWithin (2 ^ 33) g.weight
  pub inner : g.from < depth → g.to < depth → (i : ℕ)
      → slice_index_or g.weight.coefs i (pos 0) ≡ pos 0

-- the rows that a place of the writer is in its domain, writes the read's cell and stands before the reader
-- by these order rows
abbrev pub write_rows : Occurrence → Occurrence → List RowExpr → List Form → List RowExpr
write_rows r w level place =
    domain_rows w.statement.rows place
    ++ (cell_rows w.access.subscripts r.access.subscripts place ++ level)

-- the order rows of a place of the writer before the reader at level p
abbrev pub AreLevelRows : Occurrence → Occurrence → ℕ → List Form → List RowExpr → Type 0
AreLevelRows r w p place level =
    slice_get (before_rows w.number w.statement place r.number r.statement (reader_place r)) p
    ≡ Some level

-- at each place of the writer, its rows at level p are those of these edges
abbrev pub AreEdgesOf : Occurrence → Occurrence → ℕ → List Edge → Type 0
AreEdgesOf r w p edges =
    (place : List Form) (level : List RowExpr) → length place ≡ length w.statement.loops
    → AreLevelRows r w p place level → AreEdges place (write_rows r w level place) edges

-- edges of a graph with these numbers of variables and nodes
pub record IsGraph (vars depth : ℕ) (edges : List Edge) : Type 0 where
  pub each : All (IsEdge vars depth) edges
  pub few : length edges ≤ 56

-- edges were added behind others
abbrev pub IsKept : List Edge → List Edge → Type 0
IsKept old new = (more : List Edge) × (new ≡ old ++ more)

-- edges were added for these rows on a place, behind those of other rows
pub record AddsEdges (w : Writes) (rows : List Form → List RowExpr) (old new : List Edge)
    : Type 0 where
  pub added : (place : List Form) (before : List RowExpr) → length place ≡ depth_of_write w
      → AreEdges place before old → AreEdges place (before ++ rows place) new
  pub each : All (IsEdge w.vars (depth_of_write w)) old
      → All (IsEdge w.vars (depth_of_write w)) new

-- the order rows of a place of the writer before the reader at its level, from this loop on
abbrev pub AreOrderRows : Writes → ℕ → List Form → List RowExpr → Type 0
AreOrderRows w from place rows =
    slice_get (order_rows (w.common - from) (nat_lt w.write.number w.read.number) (drop from place)
    (drop from (reader_place (read_of w)))) (w.level - from)
    ≡ Some rows

-- edges were added for these order rows
pub record AddsOrder (w : Writes) (from : ℕ) (old new : List Edge) : Type 0 where
  pub added : (place : List Form) (before rows : List RowExpr) → length place ≡ depth_of_write w
      → AreOrderRows w from place rows
      → AreEdges place before old → AreEdges place (before ++ rows) new
  pub each : All (IsEdge w.vars (depth_of_write w)) old
      → All (IsEdge w.vars (depth_of_write w)) new
