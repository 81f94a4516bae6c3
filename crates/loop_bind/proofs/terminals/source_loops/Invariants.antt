use Rattle.std.proofs.Common.{◌≡◌, ◌+◌, drop}
use Rattle.sanlp.specs.WellFormed.{input_extents}
use Rattle.loop_bind.specs.Terminals.{loop_count}
use Rattle.loop_bind.proofs.terminals.source_loops.Given as goal

abbrev pub invariant-loop-array : goal.invariant-loop-array
invariant-loop-array l =
    l.count + loop_count (input_extents (drop l.array-index l.arrays)) ≡ loop_count (input_extents l.arrays)
