-- Lanes: the processes of a network dealt out to so many workers in turn.
use Rattle.std.specs.Prelude.{◌≡◌, ◌<◌, ◌%◌, ℕ, true, false, length}
use Rattle.net_core.specs.Machine.{Net, State, enabled}

-- process p is of a lane: divided by the number of lanes, its number leaves the lane's
abbrev pub IsOfLane : ℕ → ℕ → ℕ → Type 0
IsOfLane lane lanes p = p % lanes ≡ lane

-- the least enabled process of a lane
abbrev pub IsLeastEnabled : {T : Type 0} → Net → State T → ℕ → ℕ → ℕ → Type 0
IsLeastEnabled n s lane lanes p =
    IsOfLane lane lanes p × (enabled n s p ≡ true)
    × ((q : ℕ) → q < p → IsOfLane lane lanes q → enabled n s q ≡ false)

-- no process of a lane is enabled
abbrev pub IsLaneStuck : {T : Type 0} → Net → State T → ℕ → ℕ → Type 0
IsLaneStuck n s lane lanes = (p : ℕ) → IsOfLane lane lanes p → enabled n s p ≡ false

-- every process of a lane is at its script's end
abbrev pub HasLaneEnded : {T : Type 0} → Net → State T → ℕ → ℕ → Type 0
HasLaneEnded n s lane lanes =
    (p : ℕ) → IsOfLane lane lanes p → (s.local p).position ≡ length (n.script p)

-- process p is of a lane and not at its script's end
abbrev pub IsUnendedInLane : {T : Type 0} → Net → State T → ℕ → ℕ → ℕ → Type 0
IsUnendedInLane n s lane lanes p =
    IsOfLane lane lanes p × ((s.local p).position < length (n.script p))

-- no process of a lane is enabled, and one hasn't ended
abbrev pub IsLaneIdle : {T : Type 0} → Net → State T → ℕ → ℕ → Type 0
IsLaneIdle n s lane lanes =
    IsLaneStuck n s lane lanes × ((p : ℕ) × IsUnendedInLane n s lane lanes p)
