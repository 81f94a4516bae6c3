use Rattle.std.proofs.Common.{◌≡◌, ◌-◌, length}
use Rattle.net_core.specs.Machine.{net_of}
use Rattle.net_core.specs.Shape.{events_below}
use Rattle.trace_board.proofs.workers.finish.Given as goal

-- the board is still of the same network
abbrev pub invariant-loop : goal.invariant-loop
invariant-loop l = l.board.network ≡ l.initial.board.network

-- the events that are left
abbrev pub decreases-loop : goal.decreases-loop
decreases-loop l = events_below (net_of l.board.network) (net_of l.board.network).processes - length l.board.history
