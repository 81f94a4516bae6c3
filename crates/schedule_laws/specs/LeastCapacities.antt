-- What `trim` comes to where it is done, and which capacities are least.
use Rattle.std.specs.Prelude.{◌≡◌, ℕ, List, Some, length, slice_index}
use Rattle.cap_trim.specs.Capacities.{NoneEndsBelow, SticksBelow}
use Rattle.command_answers.specs.declared.status.Status.TheVariants.{Done}
use Rattle.command_line.specs.declared.words.Command.TheVariants.{Trim}
use Rattle.command_line.specs.declared.words.Order.{Order}
use Rattle.call_endings.specs.Outcomes.{Outcome}
use Rattle.compaan_top.specs.Outcome.{IsOutcome}
use Rattle.net_core.specs.declared.network.Network.{Network}
use Rattle.net_core.specs.Machine.{net_of}
use Rattle.net_core.specs.Sound.{IsSound}
use Rattle.sanlp.specs.declared.nest.Nest.{Nest}
use Rattle.witness_plan.specs.Sequential.{with_capacities}

-- an order to `trim` comes to this outcome on a bundle, and capacities were written
pub record WritesCapacities (order : Order) (bundle : List ℕ) (written : Outcome) : Type 0 where
  pub command : order.command ≡ Trim
  pub outcome : IsOutcome (Some order) bundle written
  pub done : written.status ≡ Done

-- With these capacities, one for each channel, the network is sound for the nest, and with none below them does any run end
-- all. With one place less in a single channel the network sticks at that channel's list of positions.
pub record AreLeast (nest : Nest) (network : Network) (capacities : List ℕ) (rests : List (List ℕ)) : Type 0 where
  pub each : length capacities ≡ length network.channels
  pub sound : IsSound nest (with_capacities network capacities)
  pub none_below : NoneEndsBelow (net_of network) (slice_index capacities)
  pub sticks : SticksBelow (net_of (with_capacities network capacities)) rests
