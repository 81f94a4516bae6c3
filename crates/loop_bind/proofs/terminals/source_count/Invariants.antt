use Rattle.std.proofs.Common.{◌≡◌, ◌+◌, length, drop}
use Rattle.sanlp.specs.WellFormed.{input_extents}
use Rattle.loop_bind.proofs.terminals.source_count.Given as goal

abbrev pub invariant-loop-array : goal.invariant-loop-array
invariant-loop-array l =
    l.count + length (input_extents (drop l.array-index l.arrays)) ≡ length (input_extents l.arrays)
