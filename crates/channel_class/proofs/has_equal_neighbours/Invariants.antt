use Rattle.std.proofs.Common.{◌≡◌, ◌-◌, drop}
use Rattle.channel_class.specs.Classes.{has_repeat}
use Rattle.channel_class.proofs.has_equal_neighbours.Given as goal

abbrev pub invariant-loop-at : goal.invariant-loop-at
invariant-loop-at l = has_repeat (drop (l.at - 1) l.sorted) ≡ has_repeat l.sorted
