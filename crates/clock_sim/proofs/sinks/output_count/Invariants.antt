use Rattle.std.proofs.Common.{◌≡◌, ◌+◌, ◌≤◌, drop, length}
use Rattle.sanlp.specs.Cells.{is_output}
use Rattle.sanlp.specs.WellFormed.{numbers_from}
use Rattle.clock_sim.proofs.sinks.output_count.Given as goal

abbrev pub invariant-loop-array : goal.invariant-loop-array
invariant-loop-array l =
    record {
      counted : l.count + length
          (numbers_from (λ array. is_output array.kind) l.array-index (drop l.array-index l.arrays))
          ≡ length (numbers_from (λ array. is_output array.kind) 0 l.arrays);
      few : l.count ≤ l.array-index;
    }
