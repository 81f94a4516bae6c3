use Rattle.std.proofs.Common.{◌≡◌, ◌≤ℤ◌, map, take}
use Rattle.std.specs.Prelude.{IsTrue}
use Rattle.sanlp.specs.Loops.{interval}
use Rattle.sanlp.specs.Meaning.{exec_node, in_turn, turns}
use Rattle.loop_run.specs.CellMemory.{memory_of}
use Rattle.loop_walk.specs.EnteredLoops.{turns_within}
use Rattle.loop_run.proofs.run.+run.Given as goal

abbrev pub invariant-run_parts-loop-part : goal.invariant-run_parts-loop-part
invariant-run_parts-loop-part l =
    memory_of l.cells
    ≡ in_turn (map (exec_node l.nest l.inputs) (take l.part-index l.parts)) l.at (memory_of l.initial.cells)

abbrev pub invariant-run_turns-loop-value : goal.invariant-run_turns-loop-value
invariant-run_turns-loop-value l =
    (turns (in_turn (map (exec_node l.nest l.inputs) l.parts)) (interval l.value l.last) l.at (memory_of l.cells)
    ≡ turns (in_turn (map (exec_node l.nest l.inputs) l.parts)) (interval l.first l.last) l.at
    (memory_of l.initial.cells))
    × (l.first ≤ℤ l.value)
    × IsTrue (turns_within l.parts l.at (interval l.value l.last))
