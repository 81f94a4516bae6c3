use Rattle.std.proofs.Common.{◌≡◌, ◌≤ℤ◌, map, drop}
use Rattle.sanlp.specs.Loops.{interval}
use Rattle.loop_walk.specs.Counting.{counted_node, counted_parts, counted_turns}
use Rattle.loop_walk.proofs.count.+count.Given as goal

abbrev pub invariant-count_parts-loop-part : goal.invariant-count_parts-loop-part
invariant-count_parts-loop-part l =
    counted_parts (map counted_node (drop l.part-index l.parts)) l.at l.count
    ≡ counted_parts (map counted_node l.parts) l.at l.initial.count

abbrev pub invariant-count_turns-loop-value : goal.invariant-count_turns-loop-value
invariant-count_turns-loop-value l =
    (counted_turns (map counted_node l.parts) l.at (interval l.value l.last) l.count
    ≡ counted_turns (map counted_node l.parts) l.at (interval l.first l.last) l.initial.count)
    × (l.first ≤ℤ l.value)
