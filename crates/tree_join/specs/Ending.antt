-- What the leaves of the joined tree stand on.
use Rattle.std.specs.Prelude.{◌≡◌, ◌<◌, ◌*◌, ℕ, List, [], ◌++◌, length, map, All, Some, None, Contains}
use Rattle.std.specs.Option.{option_copied}
use Rattle.affine_core.specs.declared.form.Form.{Form}
use Rattle.int_polyhedra.specs.declared.system.Proof.{Proof}
use Rattle.int_polyhedra.specs.declared.system.System.{System}
use Rattle.tree_order.specs.Candidates.{levels_before}
use Rattle.tree_graphs.specs.Contexts.{IsMadeAs}
use Rattle.tree_order.specs.Contexts.{IsPathContext}
use Rattle.tree_graphs.specs.Joint.{orders_behind, IsSum}
use Rattle.tree_order.specs.Reads.{pairs_of}
use Rattle.tree_graphs.specs.Joint.{ReadAndWrite}
use Rattle.tree_order.specs.Seen.{StandsBefore}
use Rattle.tree_order.specs.declared.candidates.Read.{Read}
use Rattle.tree_order.specs.declared.order.Order.{Order}
use Rattle.tree_order.specs.declared.seen.Position.{Position}
use Rattle.tree_join.specs.Joining.{AllAreExcluded, IsBest, IsPath}
use Rattle.tree_join.specs.declared.leaf.Excluded.{Excluded}
use Rattle.tree_join.specs.declared.path.State.{State}
use Rattle.tree_graphs.specs.Asked.{write_of}
use Rattle.tree_graphs.specs.Edges.{AreLevelRows}
use Rattle.tree_graphs.specs.Level.{HasLevel}
use Rattle.source_tree.specs.Checked.{AreRefuted}
use Rattle.source_tree.specs.Rows.{RowExpr, RowSystem}
use Rattle.source_tree.specs.Systems.{Context, Occurrence, with_rows, with_write_at, writer_place}

-- the path ends at a Writer leaf: each candidate was seen, is excluded or is the best
pub record IsLeaf (state : State) (best : Position) (excluded : List Excluded) : Type 0 where
  pub path : IsPath state 0 None
  pub best_is : option_copied state.best ≡ Some best
  pub excluded_are : AllAreExcluded state best state.left.now excluded

-- the path ends at a Zero leaf: each candidate was seen without a point
pub record IsEmptyEnd (state : State) : Type 0 where
  pub path : IsPath state 0 None
  pub none_left : state.left.now ≡ []
  pub no_best : option_copied state.best ≡ None

-- a write and a level of it before its read
pub record IsAskedWrite (state : State) (o : ReadAndWrite) (level : ℕ) : Type 0 where
  pub pair : Contains (pairs_of state.read.now) o
  pub has : HasLevel o.read o.write level

-- and a level of the best before it
pub record IsAskedBetween (state : State) (best : Position) (o : ReadAndWrite) (level q : ℕ)
    : Type 0 where
  pub write : IsAskedWrite state o level
  pub below : q < levels_before (write_of best.candidate.now.writes) o.write

-- a position with a point before the best's, and a level of the best before its candidate's writes
pub record IsBetweenAsked (r : Read) (context : System) (best at : Position) (order : Order)
    (level here : ℕ) : Type 0 where
  pub path : IsPathContext r.context.now.vars 0 context
  pub here_is : here ≡ length context.rows
  pub best_is : IsBest r context best
  pub at_is : IsBest r context at
  pub stands : StandsBefore context (65536 * 896) at best order
  pub below : level < levels_before (write_of best.candidate.now.writes)
      (write_of at.candidate.now.writes)

-- Sums were added for a write at one level before its read, for each level of w before it
pub record AddsOfLevel (o : ReadAndWrite) (context : System) (level : ℕ) (w : Occurrence)
    (place : List Form) (old new : List Proof) : Type 0 where
  pub refuted : (c : Context) (before : List RowSystem) (rows : List RowExpr) → IsMadeAs context c
      → AreLevelRows o.read o.write level (writer_place c o.write) rows → AreRefuted before old
      → AreRefuted (before ++ map
      (λ order. with_rows (with_write_at o.read c o.write) (rows ++ order))
      (orders_behind w place c o.write)) new
  pub sums : All IsSum old → All IsSum new
