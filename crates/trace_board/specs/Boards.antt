-- Boards: a network, a state of its machine over tags, and the history that led there.
use Rattle.std.specs.Prelude.{◌≡◌, ◌≤◌, ℕ, List}
use Rattle.sanlp.specs.declared.nest.Tag.{Tag}
use Rattle.net_core.specs.declared.network.Network.{Network}
use Rattle.net_core.specs.Held.{Held, IsFor}
use Rattle.net_core.specs.Machine.{State, net_of, start, IsRun}
use Rattle.net_core.specs.Orders.{reached}
use Rattle.net_core.specs.Rules.{tags}
use Rattle.net_core.specs.Shape.{events_below}

-- What a board keeps: its history is a run of its network from the start, its state is where that run leads, and
-- there is room for all events.
pub record IsBoard (network : Network) (held : Held Tag) (history : List ℕ)
    (room : ℕ) : Type 0 where
  pub run : IsRun (net_of network) tags (start (net_of network)) history
  pub state : held.run ≡ reached (net_of network) tags history
  pub holds : IsFor (net_of network) held
  pub events : events_below (net_of network) (net_of network).processes ≤ room

-- what contracts see of a board: its network, and which processes made the events so far, in order
pub record NetworkRun : Type 0 where
  pub network : Network
  pub history : List ℕ

-- a network with the processes that made its events so far
abbrev pub network_run : Network → List ℕ → NetworkRun
network_run network history = record { network = network; history = history }

-- the history is a run of the network from the start
abbrev pub IsRunFromStart : NetworkRun → Type 0
IsRunFromStart b = IsRun (net_of b.network) tags (start (net_of b.network)) b.history

-- the state of a board: where its history leads
abbrev pub state_of : NetworkRun → State Tag
state_of b = reached (net_of b.network) tags b.history
