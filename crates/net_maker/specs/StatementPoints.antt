-- The points of a nest's statements.
use Rattle.std.specs.Prelude.{◌≡◌, ℕ, ℤ, List, [], None, Some, slice_get, slice_index_or}
use Rattle.sanlp.specs.declared.nest.Nest.{Nest}
use Rattle.sanlp.specs.declared.nest.Points.{Points}
use Rattle.sanlp.specs.Points.{points_of}
use Rattle.source_tree.specs.declared.tree.Tree.{Tree}
use Rattle.source_tree.specs.Walk.{outcome_of}

-- they are the points of each of the nest's statements
abbrev pub ArePoints : Nest → Points → Type 0
ArePoints n points = points.of ≡ points_of n

-- the tree overflows at no point of statement s
abbrev pub NeverOverflowsIn : Nest → ℕ → Tree → Type 0
NeverOverflowsIn n s tree =
    (f : ℕ) (at : List ℤ) → slice_get (slice_index_or (points_of n) s []) f ≡ Some at
    → outcome_of tree at ≡ None → ⊥
