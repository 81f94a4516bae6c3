-- The writes of one statement at one level before a read, where the subscripts may be strides.
use Rattle.std.specs.Prelude.{◌≡◌, ◌≤◌, ◌<◌, ◌≤ℤ◌, ◌+◌, ◌^◌, ◌++◌, ℕ, ℤ, pos, List, length, All, Some, slice_get, IsTrue}
use Rattle.affine_core.specs.declared.form.Form.{Form}
use Rattle.affine_core.specs.Affine.{widened_form}
use Rattle.int_polyhedra.specs.declared.system.Proof.{Proof}
use Rattle.int_polyhedra.specs.Systems.{AreOver}
use Rattle.tree_graphs.specs.Level.{common_of, HasLevel, IsGreatest}
use Rattle.tree_sums.specs.Parts.{IsWithin}
use Rattle.sanlp.specs.declared.nest.Nest.{Nest}
use Rattle.source_tree.specs.Gives.{gives}
use Rattle.source_tree.specs.Rows.{row_at, row_forms}
use Rattle.source_tree.specs.Checked.{IsCheckedIn}
use Rattle.source_tree.specs.Systems.{Context, Occurrence, divides_no, just, named_write, root_context}
use Rattle.source_tree.specs.declared.tree.Tree.{Tree}
use Rattle.source_tree.specs.declared.tree.Tree.TheVariants.{Zero}
use Rattle.source_tree.specs.References.{occurrence_of}
use Rattle.tree_cuts.specs.Class.{stride_count, stride_of, writes_strides}
use Rattle.stride_trees.specs.Candidates.{AreNoneCutSums, HasTests, IsCutTree}
use Rattle.stride_trees.specs.Divisions.{divided_context, division_of, divisions_from}
use Rattle.stride_trees.specs.declared.divisions.Division.{Division}
use Rattle.stride_trees.specs.declared.strides.Strides.{Strides}

-- a read of a nest, a write to its array of the forms of the stride class, and a level of order between them
pub record AreStrided (n : Nest) (r w : Occurrence) (p : ℕ) : Type 0 where
  pub reader : slice_get n.statements r.number ≡ Some r.statement
  pub read : (k : ℕ) × (slice_get r.statement.reads k ≡ Some r.access)
  pub write : named_write n r w.number ≡ Some w
  pub strides : IsTrue (writes_strides w)
  pub few : stride_count w ≤ 6
  pub level : HasLevel r w p

-- the read of these
abbrev pub read_of : Strides → Occurrence
read_of s = occurrence_of s.read

-- the write of these
abbrev pub write_of : Strides → Occurrence
write_of s = occurrence_of s.write

-- a read of a nest, a write of its array by differences and strides, and a level of order between them
pub record IsStrided (s : Strides) : Type 0 where
  pub strided : AreStrided s.nest.now (read_of s) (write_of s) s.level
  pub common : s.common ≡ common_of (write_of s) (read_of s)

-- its tests of divisibility
abbrev pub tests_of : Strides → List Division
tests_of s = divisions_from 0 s.write.access.now.subscripts s.read.access.now.subscripts

-- a test of divisibility of one of the write's subscripts
pub record IsTestOf (s : Strides) (d : Division) : Type 0 where
  pub write : Form
  pub read : Form
  pub stride : ℤ
  pub write_is : slice_get s.write.access.now.subscripts d.subscript ≡ Some write
  pub read_is : slice_get s.read.access.now.subscripts d.subscript ≡ Some read
  pub stride_is : stride_of write ≡ Some stride
  pub is : d ≡ division_of d.subscript write read stride

-- how many loops stand round the reader, and round the writer
abbrev pub depth_of_read : Strides → ℕ
depth_of_read s = length s.read.statement.now.loops

-- how many loops stand round the write
abbrev pub depth_of_write : Strides → ℕ
depth_of_write s = length s.write.statement.now.loops

-- how many domain rows the reader has
abbrev pub root_of : Strides → ℕ
root_of s = length s.read.statement.now.rows

-- places for the tests of its subscripts, where the tests' quotients are among so many variables
pub record ArePlaces (s : Strides) (vars : ℕ) (places : List ℕ) : Type 0 where
  pub reader : depth_of_read s ≤ vars
  pub each : All (λ i. depth_of_read s + i < vars) places
  pub enough : stride_count (write_of s) ≤ length places
  pub few : vars ≤ depth_of_read s + 6

-- a context, as it is made: so many rows with small numbers
pub record IsSmallContext (c : Context) (here : ℕ) : Type 0 where
  pub rows : List Form
  pub made : row_forms c.vars c.rows ≡ Some rows
  pub count : length rows ≡ here
  pub over : AreOver c.vars rows
  pub within : All (IsWithin (2 ^ 50)) rows

-- a tree that is checked for the writer and the level
abbrev pub IsCheckedAt : Strides → Context → Tree → Type 0
IsCheckedAt s c tree = IsCheckedIn s.nest.now (read_of s) (just s.write.number s.level) c tree

-- the Zero leaf below the no of a test, in each such context of the test
pub record IsNoLeaf (s : Strides) (here : ℕ) (d : Division) (tree : Tree) : Type 0 where
  pub proofs : List Proof
  pub is : tree ≡ Zero proofs
  pub checked : (c : Context) → depth_of_read s ≤ c.vars → IsSmallContext c here
      → IsCheckedAt s (divides_no c (widened_form c.vars d.form) d.divisor) tree
  pub cuts : (c : Context) → depth_of_read s ≤ c.vars → IsSmallContext c here
      → AreNoneCutSums (read_of s) (write_of s) s.level
      (divides_no c (widened_form c.vars d.form) d.divisor) proofs

-- A tree with these tests before a last yes tree: where that is checked below them, the tree is, in each such context
-- of the first test.
pub record IsTested (s : Strides) (vars here : ℕ) (ds : List Division) (last tree : Tree)
    : Type 0 where
  pub tests : (c : Context) → c.vars ≡ vars → IsSmallContext c here
      → HasTests (read_of s) (write_of s) s.level last c ds tree
  pub checked : (c : Context) → c.vars ≡ vars → IsSmallContext c here
      → IsCheckedAt s (divided_context c ds) last → IsCheckedAt s c tree

-- the context where all its tests say yes
abbrev pub tested_context : Strides → Context
tested_context s = divided_context (root_context (read_of s)) (tests_of s)

-- A tree for that context: it is checked there for the writer and the level, its proofs are Cuts and a Sum, it has
-- few Tests on a path, and gives the greatest point where the quotients behind the reader's values meet the context.
pub record IsLastTree (s : Strides) (tree : Tree) : Type 0 where
  pub checked : IsCheckedAt s (tested_context s) tree
  pub cuts : IsCutTree (read_of s) (write_of s) s.level 3584 (tested_context s) tree
  pub greatest : (x more : List ℤ) → length x ≡ depth_of_read s
      → length (x ++ more) ≡ (tested_context s).vars
      → All (λ row. pos 0 ≤ℤ row_at row (x ++ more)) (tested_context s).rows
      → IsGreatest (read_of s) (write_of s) s.level x (gives tree (x ++ more))
