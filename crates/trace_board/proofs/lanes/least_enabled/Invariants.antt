use Rattle.std.proofs.Common.{◌≡◌, ℕ, ◌<◌, false}
use Rattle.net_core.specs.Held.{run_of}
use Rattle.net_core.specs.Machine.{net_of, enabled}
use Rattle.trace_board.specs.Lanes.{IsOfLane}
use Rattle.trace_board.proofs.lanes.least_enabled.Given as goal

abbrev pub invariant-loop-at : goal.invariant-loop-at
invariant-loop-at l = (q : ℕ) → q < l.at → IsOfLane l.lane l.lanes q → enabled (net_of l.network) (run_of l.state) q
    ≡ false
