use Rattle.std.proofs.Common.{◌≡◌, [], length, vec_len}
use Rattle.std.specs.Prelude.{replicate}
use Rattle.std.specs.List.{fold}
use Rattle.sanlp.specs.Trace.{trace}
use Rattle.loop_walk.specs.PointLists.{with_point}
use Rattle.loop_walk.specs.Walks.{IsWalkOf, rest}
use Rattle.loop_walk.proofs.PointLists.{all_exist}
use Rattle.loop_walk.proofs.process_points.points.Given as goal

abbrev pub invariant-loop-point : goal.invariant-loop-point
invariant-loop-point l =
    record {
      walk : IsWalkOf l.nest l.walk;
      count : vec_len l.lists ≡ length l.nest.statements;
      exist : all_exist l.nest (rest l.nest l.walk);
      added : fold with_point l.lists.items (rest l.nest l.walk)
          ≡ fold with_point (replicate (length l.nest.statements) []) (trace l.nest);
    }

abbrev pub decreases-loop-point : goal.decreases-loop-point
decreases-loop-point l = length (rest l.nest l.walk)
