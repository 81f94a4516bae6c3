use Rattle.std.proofs.Common.{◌≡◌, take, true}
use Rattle.std.specs.List.{list_all}
use Rattle.net_checker.specs.Firings.{is_within}
use Rattle.net_checker.proofs.fitting_fires.are_within.Given as goal

abbrev pub invariant-loop-read : goal.invariant-loop-read
invariant-loop-read l = list_all (is_within l.slots) (take l.read l.refs) ≡ true
