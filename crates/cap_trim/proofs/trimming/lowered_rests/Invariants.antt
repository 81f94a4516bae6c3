use Rattle.std.proofs.Common.{◌≡◌, map}
use Rattle.std.specs.List.{range_with_len}
use Rattle.net_core.specs.Machine.{net_of}
use Rattle.cap_trim.specs.Capacities.{lowered_network}
use Rattle.net_core.specs.Progress.{at_capacities}
use Rattle.cap_trim.specs.Rests.{rest}
use Rattle.cap_trim.proofs.trimming.lowered_rests.Given as goal

abbrev pub invariant-loop-at : goal.invariant-loop-at
invariant-loop-at l =
    record {
      rests : l.rests ≡ map (λ c. rest (lowered_network (at_capacities (net_of l.wired.network.now) l.fn.capacities) c))
          (range_with_len 0 l.at);
      same : l.capacities ≡ l.fn.capacities;
    }
