-- The greatest point of a writer at one level of order before a read: what is asked of their nest.
use Rattle.std.specs.Prelude.{◌≡◌, ℕ, length, Some, slice_get, IsTrue}
use Rattle.sanlp.specs.declared.nest.Nest.{Nest}
use Rattle.tree_graphs.specs.Class.{writes_differences}
use Rattle.tree_graphs.specs.Level.{HasLevel}
use Rattle.tree_graphs.specs.Problems.{read_with, write_with}
use Rattle.tree_graphs.specs.declared.writes.Writes.{Writes}
use Rattle.source_tree.specs.Systems.{Occurrence, named_write, read_at}

-- the read, with the problem's subscripts
abbrev pub read_of : Writes → Occurrence
read_of w = read_with w.read w.read_forms.now

-- the write, with the problem's domain rows and subscripts
abbrev pub write_of : Writes → Occurrence
write_of w = write_with w.write w.rows.now w.write_forms.now

-- how many loops stand round the reader, and round the writer
abbrev pub depth_of_read : Writes → ℕ
depth_of_read w = length w.read.statement.now.loops

-- how many loops stand round the write
abbrev pub depth_of_write : Writes → ℕ
depth_of_write w = length w.write.statement.now.loops

-- a read of a nest, a write to its array that writes differences, and a level of order between them
pub record AreAsked (n : Nest) (r w : Occurrence) (p : ℕ) : Type 0 where
  pub reader : slice_get n.statements r.number ≡ Some r.statement
  pub read : (k : ℕ) × (slice_get r.statement.reads k ≡ Some r.access)
  pub write : named_write n r w.number ≡ Some w
  pub differences : IsTrue (writes_differences w)
  pub level : HasLevel r w p

-- statement u writes the array of read k of statement s
abbrev pub WritesArrayOf : Nest → ℕ → ℕ → ℕ → Type 0
WritesArrayOf n s k u =
    (r : Occurrence) × (w : Occurrence) × (read_at n s k ≡ Some r) × (named_write n r u ≡ Some w)

-- level p is one at which statement u before statement s exists
abbrev pub HasLevelOf : Nest → ℕ → ℕ → ℕ → ℕ → Type 0
HasLevelOf n s k u p =
    (r w : Occurrence) → read_at n s k ≡ Some r → named_write n r u ≡ Some w → HasLevel r w p
