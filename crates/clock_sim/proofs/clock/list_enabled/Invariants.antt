use Rattle.std.proofs.Common.{◌≡◌, filter, vec_capacity}
use Rattle.std.specs.List.{range_with_len}
use Rattle.net_core.specs.Held.{run_of}
use Rattle.net_core.specs.Machine.{net_of, enabled}
use Rattle.clock_sim.proofs.clock.list_enabled.Given as goal

abbrev pub invariant-loop-auto : goal.invariant-loop-auto
invariant-loop-auto g l =
    record {
      listed : l.list.items ≡ filter (enabled (net_of l.network) (run_of l.state)) (range_with_len 0 l.auto-index);
      room : vec_capacity l.list ≡ vec_capacity l.initial.list;
    }
