use Rattle.std.proofs.Common.{◌≡◌, ◌≤◌, ◌-◌, length, vec_capacity}
use Rattle.net_core.specs.Held.{held_of, run_of, IsFor}
use Rattle.net_core.specs.Machine.{net_of}
use Rattle.clock_sim.specs.Clocks.{after_clocks, clocks, enabled_processes}
use Rattle.clock_sim.proofs.clock.run_by_clock.Given as goal

-- So many clocks have passed, and the list has the processes of the next one.
abbrev pub invariant-loop-state : goal.invariant-loop-state
invariant-loop-state g l =
    record {
      run : run_of l.state ≡ after_clocks (net_of l.network) (g.F.Firing.meaning l.rule) l.clocks;
      state : IsFor (net_of l.network) (held_of l.state);
      next : l.list.items ≡ enabled_processes (net_of l.network) (run_of l.state);
      few : l.clocks ≤ clocks (net_of l.network);
      room : length l.autos ≤ vec_capacity l.list;
    }

abbrev pub decreases-loop-state : goal.decreases-loop-state
decreases-loop-state g l = clocks (net_of l.network) - l.clocks
