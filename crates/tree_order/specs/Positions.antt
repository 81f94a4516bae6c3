-- Nodes of candidates' trees in a joined context.
use Rattle.std.specs.Prelude.{◌≡◌, ◌≤◌, ℕ, List, [], ◌∷◌, ◌++◌, map, slice_get, Some}
use Rattle.std.specs.List.{range_with_len, AllZip}
use Rattle.affine_core.specs.declared.form.Form.{Form}
use Rattle.int_polyhedra.specs.declared.system.Proof.{Proof}
use Rattle.int_polyhedra.specs.declared.system.System.{System}
use Rattle.int_polyhedra.specs.declared.system.Term.{Term}
use Rattle.tree_order.specs.Candidates.{IsCandidate}
use Rattle.tree_graphs.specs.Joint.{orders_behind}
use Rattle.tree_order.specs.declared.candidates.Candidate.{Candidate}
use Rattle.tree_order.specs.declared.candidates.Read.{Read}
use Rattle.tree_order.specs.declared.seen.Position.{Position}
use Rattle.tree_graphs.specs.Asked.{read_of, write_of}
use Rattle.tree_graphs.specs.Edges.{AreLevelRows}
use Rattle.tree_graphs.specs.Facts.{form_parts, IsFact}
use Rattle.tree_graphs.specs.Paths.{term_of}
use Rattle.tree_graphs.specs.Simple.{IsLightSum, IsSimple}
use Rattle.tree_graphs.specs.Joint.{IsCheckedFor}
use Rattle.source_tree.specs.Checked.{IsRefuted}
use Rattle.source_tree.specs.Rows.{RowExpr, row_forms}
use Rattle.source_tree.specs.Systems.{Context, with_rows, with_write_at, writer_place}
use Rattle.source_tree.specs.declared.tree.Tree.{Tree}
use Rattle.source_tree.specs.declared.tree.Tree.TheVariants.{Writer, Zero}

-- so many rows from this number on, each shown by itself
abbrev pub own_sums : ℕ → ℕ → List (List Term)
own_sums first count = map (λ row. term_of row ∷ []) (range_with_len first count)

-- The node is checked for a candidate's writes in a context of the candidate's own, whose rows are shown in
-- the joined context.
pub record IsNode (context : System) (c : Candidate) (node : Tree) (sums : List (List Term))
    : Type 0 where
  pub own : Context
  pub made : List Form
  pub vars : own.vars ≡ context.vars
  pub are_made : row_forms own.vars own.rows ≡ Some made
  pub checked : IsCheckedFor (read_of c.writes) (write_of c.writes) c.writes.level own node
  pub shown : AllZip (λ row ts. IsFact context 65536 (form_parts row) ts) made sums
  pub tests : ℕ
  pub simple : IsSimple tests node
  pub few : tests ≤ 65536

-- a node of a candidate of the read
pub record IsAt (r : Read) (context : System) (at : Position) : Type 0 where
  pub candidate : IsCandidate r at.candidate.now
  pub node : IsNode context at.candidate.now at.node.now at.rows

-- the position is a Zero leaf
abbrev pub IsEmptyAt : Position → Type 0
IsEmptyAt at = (proofs : List Proof) × (at.node.now ≡ Zero proofs)

-- the position is a Writer leaf with this point
abbrev pub IsPointAt : Position → List Form → Type 0
IsPointAt at place =
    (proofs : List Proof) × (at.node.now ≡ Writer at.candidate.now.writes.write.number place proofs)

-- The proof of the leaf of a position that none of its candidate's writes stands after its point at this level.
pub record IsOwnProof (context : System) (at : Position) (place : List Form) (level : ℕ)
    (proof : Proof) : Type 0 where
  pub light : IsLightSum proof
  pub refuted : (h : IsNode context at.candidate.now at.node.now at.rows)
      (rows order : List RowExpr)
      → AreLevelRows (read_of at.candidate.now.writes) (write_of at.candidate.now.writes)
      at.candidate.now.writes.level (writer_place h.own (write_of at.candidate.now.writes)) rows
      → slice_get (orders_behind (write_of at.candidate.now.writes) place h.own
      (write_of at.candidate.now.writes)) level ≡ Some order
      → IsRefuted (with_rows (with_write_at (read_of at.candidate.now.writes) h.own
      (write_of at.candidate.now.writes)) (rows ++ order)) proof
