-- The tree of a context.
use Rattle.std.specs.Prelude.{◌≡◌, ◌≤◌, ◌^◌, ◌+◌, ℕ, ℤ, List, length, All, Some}
use Rattle.int_polyhedra.specs.declared.system.System.{System}
use Rattle.int_polyhedra.specs.Systems.{AreOver, Meets}
use Rattle.tree_graphs.specs.Asked.{read_of, write_of}
use Rattle.tree_graphs.specs.Level.{IsGreatest}
use Rattle.tree_graphs.specs.Simple.{IsSimple}
use Rattle.tree_graphs.specs.Joint.{IsCheckedFor}
use Rattle.tree_graphs.specs.declared.writes.Writes.{Writes}
use Rattle.tree_sums.specs.Parts.{IsWithin}
use Rattle.source_tree.specs.Gives.{gives}
use Rattle.source_tree.specs.Rows.{row_forms}
use Rattle.source_tree.specs.Systems.{Context}
use Rattle.source_tree.specs.declared.tree.Tree.{Tree}

-- a context: rows over its variables with small numbers, and room for so many more
pub record IsContextOf (w : Writes) (room : ℕ) (context : System) : Type 0 where
  pub vars : context.vars ≡ w.vars
  pub over : AreOver context.vars context.rows
  pub within : All (IsWithin (2 ^ 41)) context.rows
  pub few : length context.rows + room ≤ 4096

-- the reader's domain rows
abbrev pub root_of : Writes → System
root_of w = record { vars = w.vars; rows = w.read.statement.now.rows }

-- A tree is the answer of a context: it is checked there for the writer and the level, with at most so many
-- Tests on a path, and gives the greatest point at each point that meets the context.
pub record IsAnswer (w : Writes) (context : System) (tests : ℕ) (tree : Tree) : Type 0 where
  pub checked : (c : Context) → c.vars ≡ w.vars → row_forms c.vars c.rows ≡ Some context.rows
      → IsCheckedFor (read_of w) (write_of w) w.level c tree
  pub simple : IsSimple tests tree
  pub greatest : (x : List ℤ) → length x ≡ w.vars → Meets context.rows x
      → IsGreatest (read_of w) (write_of w) w.level x (gives tree x)
