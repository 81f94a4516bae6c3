use Rattle.std.proofs.Common.{◌≡◌, ◌<◌, ℕ, ℤ, List}
use Rattle.std.specs.Prelude.{None, Some, slice_get}
use Rattle.source_tree.specs.Walk.{outcome_of}
use Rattle.tree_eval.specs.Stretches.{IsStretchOf}
use Rattle.net_maker.proofs.origins.overflows_nowhere.Given as goal

-- the tree overflows at none of the points so far, and the follower has a stretch of the tree
abbrev pub invariant-loop-at : goal.invariant-loop-at
invariant-loop-at l = record {
  passed : (f : ℕ) (at : List ℤ) → f < l.at-index → slice_get l.vectors f ≡ Some at → outcome_of l.tree at ≡ None → ⊥;
  known : IsStretchOf l.tree l.follower;
}
