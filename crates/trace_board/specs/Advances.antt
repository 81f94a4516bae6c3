-- What an advance of a lane tells, and what it leaves.
use Rattle.std.specs.Prelude.{ℕ, List, [], ◌∷◌, ◌++◌}
use Rattle.net_core.specs.Machine.{Net, State}
use Rattle.trace_board.specs.declared.lanes.Advance.{Advance}
use Rattle.trace_board.specs.declared.lanes.Advance.TheVariants.{Stepped, Idle, Done}
use Rattle.trace_board.specs.Lanes.{IsLeastEnabled, IsLaneIdle, HasLaneEnded}

-- in which state each answer comes
abbrev pub Tells : {T : Type 0} → Net → State T → ℕ → ℕ → Advance → Type 0
Tells n s lane lanes (Stepped p) = IsLeastEnabled n s lane lanes p
Tells n s lane lanes Idle = IsLaneIdle n s lane lanes
Tells n s lane lanes Done = HasLaneEnded n s lane lanes

-- the history after an advance: one event more where a process stepped
abbrev pub history_after : List ℕ → Advance → List ℕ
history_after history (Stepped p) = history ++ p ∷ []
history_after history Idle = history
history_after history Done = history
