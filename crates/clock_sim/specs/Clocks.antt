-- The clocked run of a network: one clock for all processes, and at each clock at most one event of each process.
use Rattle.std.specs.Prelude.{◌<◌, ◌≤◌, ◌==◌, ℕ, zero, suc, Bool, List, [], ◌++◌, length}
use Rattle.std.specs.List.{filter, position_or_len, range_with_len}
use Rattle.net_core.specs.Machine.{Net, State, Rule, start, enabled, IsRun, IsStuck}
use Rattle.net_core.specs.Orders.{EndsAll, reached}
use Rattle.net_core.specs.Rules.{tags}
use Rattle.net_core.specs.Shape.{events_below}

-- the processes whose next event is enabled in a state, ascending
abbrev pub enabled_processes : {T : Type 0} → Net → State T → List ℕ
enabled_processes n s = filter (enabled n s) (range_with_len 0 n.processes)

-- The processes that step in the first so many clocks. At each clock every process whose next event is enabled in the state
-- at the clock's beginning does that event, in ascending order of processes.
abbrev pub clocked_run : {T : Type 0} → Net → Rule T → ℕ → List ℕ
clocked_run n rule zero = []
clocked_run n rule (suc k) =
    clocked_run n rule k ++ enabled_processes n (reached n rule (clocked_run n rule k))

-- the state after so many clocks
abbrev pub after_clocks : {T : Type 0} → Net → Rule T → ℕ → State T
after_clocks n rule k = reached n rule (clocked_run n rule k)

-- whether no process is enabled after so many clocks, whatever fires give
abbrev pub is_stuck_after : Net → ℕ → Bool
is_stuck_after n k = length (enabled_processes n (after_clocks n tags k)) == 0

-- The number of clocks: the run ends at the first state in which no process is enabled. It is looked for after at most as
-- many clocks as the scripts have events.
unfoldable pub clocks : Net → ℕ
clocks n = position_or_len (is_stuck_after n) (range_with_len 0 (events_below n n.processes))

-- The clocked run is a run of the machine, and it ends all.
pub record ClockedRunEnds {T : Type 0} (n : Net) (rule : Rule T) : Type 0 where
  -- what is enabled at a clock's beginning is still enabled when its turn comes
  pub in_turn : (k : ℕ)
      → IsRun n rule (after_clocks n rule k) (enabled_processes n (after_clocks n rule k))
  -- so the events of the first so many clocks are a run
  pub run : (k : ℕ) → IsRun n rule (start n) (clocked_run n rule k)
  -- each clock before the end has an event
  pub events : (k : ℕ) → k < clocks n → 0 < length (enabled_processes n (after_clocks n rule k))
  -- at the end no process is enabled
  pub stuck : IsStuck n (after_clocks n rule (clocks n))
  -- and all have ended
  pub ends : EndsAll n rule (clocked_run n rule (clocks n))
  -- there are at most as many clocks as events
  pub few : clocks n ≤ events_below n n.processes
