-- Capacities with which a network ends within a number of clocks.
use Rattle.std.specs.Prelude.{◌<◌, ℕ}
use Rattle.net_core.specs.Machine.{Net, Rule, HasEnded}
use Rattle.cap_trim.specs.Capacities.{lowered_network}
use Rattle.clock_sim.specs.Clocks.{after_clocks}

-- all have ended after so many clocks of the clocked run
abbrev pub EndsWithin : {T : Type 0} → Net → Rule T → ℕ → Type 0
EndsWithin n rule count = HasEnded n (after_clocks n rule count)

-- With its capacities the network ends within so many clocks. With the capacity of one channel less by 1, where it isn't 0,
-- it doesn't: it takes more clocks, or sticks.
pub record HasMinimalCapacities {T : Type 0} (n : Net) (rule : Rule T) (count : ℕ) : Type 0 where
  pub ends : EndsWithin n rule count
  pub none_less : (c : ℕ) → c < n.channels → 0 < n.capacity c
      → EndsWithin (lowered_network n c) rule count → ⊥
