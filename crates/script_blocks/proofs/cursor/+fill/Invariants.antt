use Rattle.std.proofs.Common.{◌≡◌, ◌-◌, ◌++◌, true, drop, length}
use Rattle.script_blocks.specs.Expansion.{parts_expansion}
use Rattle.script_blocks.specs.Places.{left, left_of_parts, left_of_turns}
use Rattle.script_blocks.proofs.cursor.+fill.Given as goal

abbrev pub invariant-fill_from_part-loop-frame : goal.invariant-fill_from_part-loop-frame
invariant-fill_from_part-loop-frame g l =
    l.initial.batch ++ left_of_parts l.initial.frame (left l.initial.deeper) (drop l.initial.frame.part l.parts)
    ≡ l.batch ++ left_of_parts l.frame (left l.deeper) (drop l.frame.part l.parts)

abbrev pub decreases-fill_from_part-loop-frame : goal.decreases-fill_from_part-loop-frame
decreases-fill_from_part-loop-frame g l = length l.parts - l.frame.part

abbrev pub invariant-fill_of_new_turns-turns : goal.invariant-fill_of_new_turns-turns
invariant-fill_of_new_turns-turns g l =
    (l.frame.inside ≡ true)
    × (l.frame.part ≡ l.initial.frame.part)
    × (left l.deeper l.body ≡ parts_expansion l.body)
    × (l.initial.batch ++ left_of_turns l.initial.frame (left l.initial.deeper) l.body
    ≡ l.batch ++ left_of_turns l.frame (left l.deeper) l.body)

abbrev pub decreases-fill_of_new_turns-turns : goal.decreases-fill_of_new_turns-turns
decreases-fill_of_new_turns-turns g l = l.frame.later
