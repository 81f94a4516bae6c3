-- The memory of a run.
use Rattle.std.specs.Prelude.{◌≡◌, ◌+◌, ◌≤◌, ℕ, ℤ, List, [], length, Some, slice_get, vec_capacity}
use Rattle.std.specs.Option.{option_map_or}
use Rattle.std.specs.declared.vec.Vec.{Vec}
use Rattle.std.specs.Global.{Global}
use Rattle.sanlp.specs.declared.nest.Nest.{Nest}
use Rattle.sanlp.specs.Points.{points_of}
use Rattle.sanlp.specs.WellFormed.{output_numbers}
use Rattle.net_core.specs.declared.network.Network.{Network}
use Rattle.net_core.specs.Held.{held_of, run_of, IsFor}
use Rattle.net_core.specs.Machine.{net_of, start}
use Rattle.net_core.specs.Shape.{turns}
use Rattle.net_core.specs.Rooms.{Store, fresh_store}
use Rattle.thread_runner.specs.declared.bench.Bench.{Bench}

-- what a process has kept in its room; a process that isn't there has nothing
abbrev pub kept_in : List (Store ℤ) → ℕ → List ℤ
kept_in rooms p = option_map_or (λ room. room.kept) (slice_get rooms p) []

-- a fresh room for each of so many processes, in order
pub record AreFreshRooms (network : Network) (many : ℕ) (rooms : List (Store ℤ)) : Type 0 where
  pub number : length rooms ≡ many
  pub each : (p : ℕ) (room : Store ℤ) → slice_get rooms p ≡ Some room
      → room ≡ fresh_store (net_of network) p

-- Each list is empty. The first has room for the values of the last process before `past`, the next for those of the one
-- before it, and so on.
abbrev pub HaveSpace : (ℕ → ℕ) → ℕ → List (Vec ℤ Global) → Type 0
HaveSpace values past lists =
    (i : ℕ) (list : Vec ℤ Global) → slice_get lists i ≡ Some list
    → (list.items ≡ []) × ((p : ℕ) → p + i + 1 ≡ past → values p ≤ vec_capacity list)

-- no process has begun, and there is room for all that the processes keep and all that is answered
pub record IsFreshBench (nest : Nest) (network : Network) (bench : Bench) : Type 0 where
  pub rooms : AreFreshRooms network (length network.processes) bench.rooms.items
  pub lists : length bench.lists.items ≡ length (output_numbers nest.arrays)
  pub space : HaveSpace (turns (points_of nest)) (length nest.statements) bench.lists.items
  pub arrays : bench.arrays.items ≡ []
  pub arrays_space : length nest.arrays ≤ vec_capacity bench.arrays
  pub opening : run_of bench.state ≡ start (net_of network)
  pub state : IsFor (net_of network) (held_of bench.state)
