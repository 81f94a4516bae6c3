-- Exact trees: at each point of the reader, the last writer or none.
use Rattle.std.specs.Prelude.{◌≡◌, ℕ, ℤ, List, Option, Some, None, slice_get}
use Rattle.sanlp.specs.declared.nest.Nest.{Nest}
use Rattle.sanlp.specs.declared.nest.Point.{Point}
use Rattle.sanlp.specs.Trace.{trace}
use Rattle.sanlp.specs.Writers.{last_writer}
use Rattle.source_tree.specs.Gives.{gives}
use Rattle.source_tree.specs.declared.tree.Found.{Found}
use Rattle.source_tree.specs.declared.tree.Found.TheVariants.{Zero, At, Dead}
use Rattle.source_tree.specs.declared.tree.Tree.{Tree}

-- what was found is the point of this entry, or there is none
abbrev pub IsPointOf : List Point → Option ℕ → Found → Type 0
IsPointOf points writer Zero = writer ≡ None
IsPointOf points writer (At p) = (u : ℕ) × (writer ≡ Some u) × (slice_get points u ≡ Some p)
IsPointOf points writer Dead = ⊥

-- at each point of statement s the tree gives the point of the last writer of what read k reads there, or
-- zero where there is none
abbrev pub IsExact : Nest → ℕ → ℕ → Tree → Type 0
IsExact n s k tree =
    (t : ℕ) (x : List ℤ) → slice_get (trace n) t ≡ Some (record { statement = s; at = x })
    → IsPointOf (trace n) (last_writer n t k) (gives tree x)
