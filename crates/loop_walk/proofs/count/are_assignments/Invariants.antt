use Rattle.std.proofs.Common.{◌≡◌, drop}
use Rattle.std.specs.List.{list_all}
use Rattle.loop_walk.specs.Counting.{is_assignment}
use Rattle.loop_walk.proofs.count.are_assignments.Given as goal

abbrev pub invariant-loop-part : goal.invariant-loop-part
invariant-loop-part l = list_all is_assignment (drop l.part-index l.parts) ≡ list_all is_assignment l.parts
