-- The greatest point of one writer at one level of order before a read.
use Rattle.std.specs.Prelude.{◌≡◌, ◌<◌, ℕ, ℤ, pos, ◌<ℤ◌, List, take, slice_index_or, length, false, IsTrue, ◌⊎◌}
use Rattle.sanlp.specs.declared.nest.Nest.{Nest}
use Rattle.sanlp.specs.Loops.{all_hold}
use Rattle.sanlp.specs.Order.{common_loops, IsPoint, PrecedesWithin}
use Rattle.source_tree.specs.Gives.{gives, values}
use Rattle.source_tree.specs.Systems.{Occurrence}
use Rattle.source_tree.specs.declared.tree.Found.{Found}
use Rattle.source_tree.specs.declared.tree.Found.TheVariants.{Zero, At, Dead}
use Rattle.source_tree.specs.declared.tree.Tree.{Tree}

-- how many loops stand round both
abbrev pub common_of : Occurrence → Occurrence → ℕ
common_of w r = common_loops w.statement.loops r.statement.loops

-- the writer before the reader exists at this level: one of the common loops, or, where the writer stands
-- before the reader in the text, the level behind them
abbrev pub HasLevel : Occurrence → Occurrence → ℕ → Type 0
HasLevel r w p = (p < common_of w r) ⊎ ((p ≡ common_of w r) × (w.number < r.number))

-- j stands before x at level p of c common loops: the values of the loops above are equal, and that of loop
-- p, if it is common, is less
abbrev pub PrecedesAt : ℕ → ℕ → List ℤ → List ℤ → Type 0
PrecedesAt c p j x =
    (take p j ≡ take p x) × (p < c → slice_index_or j p (pos 0) <ℤ slice_index_or x p (pos 0))

-- j is a point of the writer that writes the cell that the reader reads at x, and stands before x at level p
pub record WritesBefore (r w : Occurrence) (p : ℕ) (x j : List ℤ) : Type 0 where
  pub deep : length j ≡ length w.statement.loops
  pub in_domain : IsTrue (all_hold w.statement.rows j)
  pub same_cell : values w.access.subscripts j ≡ values r.access.subscripts x
  pub before : PrecedesAt (common_of w r) p j x

-- what is found is the greatest such point, or zero where there is none
abbrev pub IsGreatest : Occurrence → Occurrence → ℕ → List ℤ → Found → Type 0
IsGreatest r w p x Zero = (j : List ℤ) → WritesBefore r w p x j → ⊥
IsGreatest r w p x (At point) =
    (point.statement ≡ w.number) × WritesBefore r w p x point.at
    × ((j : List ℤ) → WritesBefore r w p x j
    → (j ≡ point.at) ⊎ PrecedesWithin (length w.statement.loops) false j point.at)
IsGreatest r w p x Dead = ⊥

-- a tree gives at each point of the reader the greatest point of the writer at a level, or zero where there is none
abbrev pub GivesGreatest : Nest → Occurrence → Occurrence → ℕ → Tree → Type 0
GivesGreatest n r w p tree =
    (x : List ℤ) → IsPoint n (record { statement = r.number; at = x })
    → IsGreatest r w p x (gives tree x)
