use Rattle.std.proofs.Common.{◌*◌, ◌≤◌, length}
use Rattle.std.specs.Prelude.{All}
use Rattle.tree_order.specs.Candidates.{IsCandidate}
use Rattle.tree_join.proofs.Levels.{HasDeepest}
use Rattle.tree_join.proofs.candidates.candidates_of.Given as goal

-- the candidates of the deepest levels
abbrev pub invariant-loop-outer : goal.invariant-loop-outer
invariant-loop-outer l = record {
  each : All (IsCandidate l.read) l.candidates;
  every : HasDeepest l.read l.outer l.candidates;
  few : length l.candidates ≤ 128 * l.outer;
}
