use Rattle.std.proofs.Common.{◌≡◌, ◌++◌, drop}
use Rattle.sanlp.specs.Meaning.{arrays_from}
use Rattle.loop_run.specs.CellMemory.{memory_of}
use Rattle.loop_run.proofs.outputs.output_arrays.Given as goal

abbrev pub invariant-loop-number : goal.invariant-loop-number
invariant-loop-number l =
    l.arrays ++ arrays_from (memory_of l.cells) l.number (drop l.number l.array-items)
    ≡ arrays_from (memory_of l.cells) 0 l.array-items
