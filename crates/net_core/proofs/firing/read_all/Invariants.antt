use Rattle.std.proofs.Common.{◌≡◌, map, take}
use Rattle.net_core.specs.Rules.{read_slot}
use Rattle.net_core.proofs.firing.read_all.Given as goal

abbrev pub invariant-loop-number : goal.invariant-loop-number
invariant-loop-number l = l.values ≡ map (read_slot l.slots) (take l.number l.refs)
