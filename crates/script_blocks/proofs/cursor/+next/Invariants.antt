use Rattle.std.proofs.Common.{◌≡◌, ◌-◌, drop, length}
use Rattle.script_blocks.specs.Places.{left, left_of_parts}
use Rattle.script_blocks.proofs.cursor.+next.Given as goal

abbrev pub invariant-next_from_part-loop-frame : goal.invariant-next_from_part-loop-frame
invariant-next_from_part-loop-frame g l =
    left_of_parts l.frame (left l.deeper) (drop l.frame.part l.parts)
    ≡ left_of_parts l.initial.frame (left l.initial.deeper) (drop l.initial.frame.part l.parts)

abbrev pub decreases-next_from_part-loop-frame : goal.decreases-next_from_part-loop-frame
decreases-next_from_part-loop-frame g l = length l.parts - l.frame.part
