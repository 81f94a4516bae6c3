use Rattle.std.proofs.Common.{◌≡◌, ◌≤◌, ◌-◌, suc, not, length}
use Rattle.net_core.specs.Machine.{net_of}
use Rattle.net_core.specs.Rules.{tags}
use Rattle.port_clocks.specs.PortClocks.{after_port_clocks, is_still_after, port_clocks}
use Rattle.port_sim.specs.Windows.{IsAt}
use Rattle.port_sim.proofs.counting.clock_count.Given as goal

-- So many clocks had an event, and the one behind them has passed too.
abbrev pub invariant-loop-more : goal.invariant-loop-more
invariant-loop-more l =
    record {
      at : IsAt (net_of l.wired.network.now) (after_port_clocks (net_of l.wired.network.now) tags (suc l.clocks)) l.ports;
      more : l.more ≡ not (is_still_after (net_of l.wired.network.now) l.clocks);
      few : l.clocks ≤ port_clocks (net_of l.wired.network.now);
      before : length l.before.items ≡ length l.wired.network.now.channels;
    }

abbrev pub decreases-loop-more : goal.decreases-loop-more
decreases-loop-more l = port_clocks (net_of l.wired.network.now) - l.clocks
