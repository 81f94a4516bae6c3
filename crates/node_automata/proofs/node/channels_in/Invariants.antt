use Rattle.std.proofs.Common.{◌≡◌}
use Rattle.std.specs.Prelude.{◌==◌}
use Rattle.std.specs.List.{filter, range_with_len}
use Rattle.net_core.specs.Machine.{net_of}
use Rattle.node_automata.proofs.node.channels_in.Given as goal

abbrev pub invariant-loop-number : goal.invariant-loop-number
invariant-loop-number l = l.gets ≡ filter (λ c. (net_of l.network).reader c == l.process) (range_with_len 0 l.number)
