use Rattle.std.proofs.Common.{◌≡◌, ◌≤ℤ◌, ◌++◌, map, take}
use Rattle.std.specs.Prelude.{IsTrue}
use Rattle.loop_walk.specs.EnteredLoops.{turns_within}
use Rattle.fire_runs.specs.Runs.{processes_in, processes_of}
use Rattle.fire_runs.proofs.runs.+runs.Given as goal
use Rattle.sanlp.specs.Loops.{interval}
use Rattle.sanlp.specs.Trace.{all_points, trace_node, turn_points}

-- the fires of the parts so far were added
abbrev pub invariant-add_parts-loop-part : goal.invariant-add_parts-loop-part
invariant-add_parts-loop-part l =
    processes_in l.runs.items
    ≡ processes_in l.initial.runs.items ++ processes_of (all_points (map trace_node (take l.part-index l.parts)) l.at)

-- the fires of the turns before this one were added
abbrev pub invariant-add_turns-loop-value : goal.invariant-add_turns-loop-value
invariant-add_turns-loop-value l =
    (processes_in l.runs.items ++ processes_of (turn_points (all_points (map trace_node l.body))
    (interval l.value l.last) l.at)
    ≡ processes_in l.initial.runs.items
    ++ processes_of (turn_points (all_points (map trace_node l.body)) (interval l.first l.last) l.at))
    × (l.first ≤ℤ l.value)
    × IsTrue (turns_within l.body l.at (interval l.value l.last))
