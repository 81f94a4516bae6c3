use Rattle.std.proofs.Common.{◌≡◌, ◌-◌, ◌-ℤ◌, [], drop, length}
use Rattle.std.specs.Prelude.{IsTrue}
use Rattle.sanlp.specs.Cells.{natural}
use Rattle.loop_walk.specs.Walking.{left, left_of_parts, left_of_turns, parts_valid, turns_valid, valid}
use Rattle.loop_walk.proofs.walk.+next.Given as goal

abbrev pub invariant-next_of_turns-turns : goal.invariant-next_of_turns-turns
invariant-next_of_turns-turns l =
    (left_of_turns l.frame (left l.deeper) l.body l.at
    ≡ left_of_turns l.initial.frame (left l.initial.deeper) l.body l.at)
    × IsTrue (turns_valid l.frame (valid l.deeper) l.body l.at)
    × (l.frame.part ≡ l.initial.frame.part)
    × (l.frame.inside ≡ l.initial.frame.inside)
    × (l.run ≡ [])

abbrev pub decreases-next_of_turns-turns : goal.decreases-next_of_turns-turns
decreases-next_of_turns-turns l = natural (l.frame.last -ℤ l.frame.value)

abbrev pub invariant-next_part-loop-frame : goal.invariant-next_part-loop-frame
invariant-next_part-loop-frame l =
    (left_of_parts l.frame (left l.deeper) (drop l.frame.part l.parts) l.at
    ≡ left_of_parts l.initial.frame (left l.initial.deeper) (drop l.initial.frame.part l.parts) l.at)
    × IsTrue (parts_valid l.frame (valid l.deeper) (drop l.frame.part l.parts) l.at)
    × (l.run ≡ [])

abbrev pub decreases-next_part-loop-frame : goal.decreases-next_part-loop-frame
decreases-next_part-loop-frame l = length l.parts - l.frame.part
