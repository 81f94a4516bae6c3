use Rattle.std.proofs.Common.{◌≡◌, ◌-◌, drop}
use Rattle.channel_class.specs.Classes.{never_falls}
use Rattle.channel_class.proofs.never_falls.Given as goal

abbrev pub invariant-loop-at : goal.invariant-loop-at
invariant-loop-at l = never_falls (drop (l.at - 1) l.uses) ≡ never_falls l.uses
