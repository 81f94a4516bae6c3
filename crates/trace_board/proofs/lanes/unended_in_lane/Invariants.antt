use Rattle.std.proofs.Common.{◌≡◌, ℕ, ◌<◌, length}
use Rattle.net_core.specs.Held.{run_of}
use Rattle.net_core.specs.Machine.{net_of}
use Rattle.trace_board.specs.Lanes.{IsOfLane}
use Rattle.trace_board.proofs.lanes.unended_in_lane.Given as goal

abbrev pub invariant-loop-at : goal.invariant-loop-at
invariant-loop-at l = (q : ℕ) → q < l.at → IsOfLane l.lane l.lanes q
    → ((run_of l.state).local q).position ≡ length ((net_of l.network).script q)
