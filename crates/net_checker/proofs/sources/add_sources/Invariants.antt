use Rattle.std.proofs.Common.{◌≡◌, ℕ, ◌<◌, None, get_or, []}
use Rattle.sanlp.specs.Points.{points_of}
use Rattle.source_tree.specs.Checked.{IsChecked}
use Rattle.net_checker.specs.Tables.{AreProgressions, AreTold}
use Rattle.net_checker.proofs.Tables.{sources_upto}
use Rattle.net_checker.proofs.Usable.{at_vector}
use Rattle.tree_eval.specs.Stretches.{IsStretchOf}
use Rattle.net_checker.proofs.sources.add_sources.Given as goal

-- the tree overflows at no turn so far, their sources are added, the follower has a stretch of the tree, tags are told from
-- this turn on, and the rows that are known are arithmetic progressions
abbrev pub invariant-loop-turn : goal.invariant-loop-turn
invariant-loop-turn l = record {
  passed : (f : ℕ) → f < l.turn → at_vector l.tree (get_or (points_of l.candidate.nest.now) l.statement []) f ≡ None;
  added : (k : ℕ) → IsChecked l.candidate.nest.now l.statement k l.tree
      → l.sources ≡ sources_upto l.candidate.nest.now l.statement k l.turn;
  known : IsStretchOf l.tree l.follower;
  told : AreTold l.candidate.points.now.of l.tree (get_or l.candidate.points.now.of l.statement []) l.turn l.told;
  rows : AreProgressions l.candidate.points.now.of l.rows;
}
