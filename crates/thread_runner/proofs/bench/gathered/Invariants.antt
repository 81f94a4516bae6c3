use Rattle.std.proofs.Common.{◌≡◌, ◌+◌, ◌-◌, ◌++◌, drop, length, vec_capacity}
use Rattle.sanlp.specs.Cells.{is_output}
use Rattle.sanlp.specs.Points.{points_of}
use Rattle.sanlp.specs.WellFormed.{numbers_from, output_numbers}
use Rattle.net_core.specs.Shape.{turns}
use Rattle.net_core.specs.Sound.{sink_lists_from}
use Rattle.thread_runner.specs.Benches.{HaveSpace}
use Rattle.thread_runner.proofs.bench.gathered.Given as goal

abbrev pub invariant-loop-array : goal.invariant-loop-array
invariant-loop-array g l =
    record {
      added : l.arrays.items ++ sink_lists_from (g.K.Keeper.values l.keeper) l.sink (drop l.array-index l.nest.arrays)
          ≡ sink_lists_from (g.K.Keeper.values l.keeper)
          (length l.nest.statements - length (output_numbers l.nest.arrays)) l.nest.arrays;
      sinks : l.sink + length
          (numbers_from (λ array. is_output array.kind) l.array-index (drop l.array-index l.nest.arrays))
          ≡ length l.nest.statements;
      lists : length l.lists.items
          ≡ length (numbers_from (λ array. is_output array.kind) l.array-index (drop l.array-index l.nest.arrays));
      space : HaveSpace (turns (points_of l.nest)) (length l.nest.statements) l.lists.items;
      number : length l.arrays.items ≡ l.array-index;
      capacity : vec_capacity l.arrays ≡ vec_capacity l.initial.arrays;
    }
