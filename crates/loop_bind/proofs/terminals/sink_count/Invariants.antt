use Rattle.std.proofs.Common.{◌≡◌, ◌+◌, length, drop}
use Rattle.sanlp.specs.WellFormed.{output_extents}
use Rattle.loop_bind.proofs.terminals.sink_count.Given as goal

abbrev pub invariant-loop-array : goal.invariant-loop-array
invariant-loop-array l =
    l.count + length (output_extents (drop l.array-index l.arrays)) ≡ length (output_extents l.arrays)
