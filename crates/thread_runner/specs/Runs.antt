-- What a run of a network by threads needs and gives.
use Rattle.std.specs.Prelude.{◌≡◌, ◌<◌, ◌≤◌, ℕ, ℤ, List, length, Some, slice_get}
use Rattle.sanlp.specs.declared.nest.Inputs.{Inputs}
use Rattle.sanlp.specs.declared.nest.Nest.{Nest}
use Rattle.net_core.specs.declared.network.Network.{Network}
use Rattle.net_core.specs.Rooms.{Store, fresh_store}
use Rattle.sanlp.specs.Laws.{values_of}
use Rattle.sanlp.specs.Points.{points_of}
use Rattle.net_core.specs.Machine.{net_of}
use Rattle.net_core.specs.Shape.{FitsNumbers}
use Rattle.net_core.specs.Sound.{IsSound}
use Rattle.node_runner.specs.Nodes.{Ports, stream, incoming, outgoing}

-- Process p's ends, through which nothing has gone: it gets from the channels that it reads and puts to those that it
-- writes, and their streams are the values of their tokens.
pub record IsEndsOf (nest : Nest) (network : Network) (d : Inputs) (p : ℕ)
    (from to : Ports) : Type 0 where
  pub incoming : (c : ℕ) → from c ≡ incoming (stream nest network d) network p c
  pub outgoing : (c : ℕ) → to c ≡ outgoing (stream nest network d) network p c

-- one for each process, in order
pub record AreEndsOf {E : Type 0} (from to : E → Ports) (nest : Nest) (network : Network)
    (d : Inputs) (ends : List E) : Type 0 where
  pub number : length ends ≡ length network.processes
  pub each : (p : ℕ) (e : E) → slice_get ends p ≡ Some e → IsEndsOf nest network d p (from e) (to e)

-- process p may work in this room with these ends
pub record MayWork {E : Type 0} (from to : E → Ports) (nest : Nest) (points : List (List (List ℤ)))
    (d : Inputs) (network : Network) (p : ℕ) (room : Store ℤ) (ends : E) : Type 0 where
  pub points_are : points ≡ points_of nest
  pub numbers : FitsNumbers (net_of network)
  pub sound : IsSound nest network
  pub there : p < length network.processes
  pub room_is : room ≡ fresh_store (net_of network) p
  pub ends_are : IsEndsOf nest network d p (from ends) (to ends)

-- the first processes may work in these rooms with these ends
pub record MayStart {E : Type 0} (from to : E → Ports) (nest : Nest) (points : List (List (List ℤ)))
    (d : Inputs) (network : Network) (rooms : List (Store ℤ)) (ends : List E) : Type 0 where
  pub points_are : points ≡ points_of nest
  pub numbers : FitsNumbers (net_of network)
  pub sound : IsSound nest network
  pub there : length rooms ≤ length network.processes
  pub same : length ends ≡ length rooms
  pub rooms_are : (p : ℕ) (room : Store ℤ) → slice_get rooms p ≡ Some room
      → room ≡ fresh_store (net_of network) p
  pub ends_are : (p : ℕ) (e : E) → slice_get ends p ≡ Some e
      → IsEndsOf nest network d p (from e) (to e)

-- each process has kept the values of its points
abbrev pub HaveKept : Nest → Inputs → List (Store ℤ) → Type 0
HaveKept nest d rooms = (p : ℕ) (room : Store ℤ) → slice_get rooms p ≡ Some room
    → room.kept ≡ values_of nest d p
