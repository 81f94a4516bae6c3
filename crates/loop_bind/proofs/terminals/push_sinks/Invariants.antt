use Rattle.std.proofs.Common.{◌≡◌, ◌++◌, drop}
use Rattle.sanlp.specs.WellFormed.{output_extents, array_loops}
use Rattle.loop_bind.specs.Terminals.{sinks_from}
use Rattle.loop_bind.proofs.terminals.push_sinks.Given as goal

abbrev pub invariant-loop-array : goal.invariant-loop-array
invariant-loop-array l =
    (l.statements ++ sinks_from l.number l.next_loop (drop l.array-index l.arrays)
    ≡ l.initial.statements ++ sinks_from 0 l.first_loop l.arrays)
    × (l.body ++ array_loops l.next_loop l.statement (output_extents (drop l.array-index l.arrays))
    ≡ l.initial.body ++ array_loops l.first_loop l.first (output_extents l.arrays))
