use Rattle.std.proofs.Common.{◌≡◌, take}
use Rattle.net_core.proofs.copies.are_same_channels.Given as goal

abbrev pub invariant-loop-at : goal.invariant-loop-at
invariant-loop-at l = take l.at l.channels ≡ take l.at l.others
