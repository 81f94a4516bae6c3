use Rattle.std.proofs.Common.{◌≡◌, ◌++◌, drop}
use Rattle.sanlp.specs.WellFormed.{input_extents, array_loops}
use Rattle.loop_bind.specs.Terminals.{sources_from}
use Rattle.loop_bind.proofs.terminals.push_sources.Given as goal

abbrev pub invariant-loop-array : goal.invariant-loop-array
invariant-loop-array l =
    (l.statements ++ sources_from l.number l.next_loop (drop l.array-index l.arrays)
    ≡ l.initial.statements ++ sources_from 0 0 l.arrays)
    × (l.body ++ array_loops l.next_loop l.statement (input_extents (drop l.array-index l.arrays))
    ≡ l.initial.body ++ array_loops 0 0 (input_extents l.arrays))
