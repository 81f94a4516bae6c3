use Rattle.std.proofs.Common.{◌≡◌, length, map, take}
use Rattle.sanlp.specs.Access.{cell_at}
use Rattle.sanlp.specs.Memory.{cell_value}
use Rattle.loop_run.specs.CellMemory.{memory_of}
use Rattle.loop_run.proofs.along.read_along.Given as goal

abbrev pub invariant-loop-slot : goal.invariant-loop-slot
invariant-loop-slot l =
    (length l.values ≡ 8)
    × (take l.slot l.values ≡ map (cell_value (memory_of l.cells)) (map (cell_at l.at) (take l.slot l.reads)))
