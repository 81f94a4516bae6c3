-- How many events the first processes of a network have.
use Rattle.std.proofs.Common.{◌≡◌, ℕ, ◌+◌, ◌<◌, ◌^◌, List, [], length, get_or, ap, ◌∙◌, arith, add-one}
use Rattle.std.specs.Option.{option_map_or}
use Rattle.net_core.specs.declared.network.Event.{Event}
use Rattle.net_core.specs.declared.network.Network.{Network}
use Rattle.net_core.specs.declared.network.Process.{Process}
use Rattle.net_core.specs.Machine.{net_of}
use Rattle.net_core.specs.Shape.{FitsNumbers, events_below}
use Rattle.net_core.proofs.PutCounts.{events_grow}
use Rattle.plain_data.proofs.Lists.{slice_get_read_same}

module _ (network : Network) (items : List Process) (i : ℕ) (process : Process) (same : items ≡ network.processes)
    (lt : i < length items) (is : process ≡ get_or items i process) where
  pub events_more : events_below (net_of network) (i + 1) ≡ events_below (net_of network) i + length process.script
  events_more =
      let found = slice_get_read_same network.processes items i process same lt is in
      let script : (net_of network).script i ≡ process.script =
      ap (λ o. option_map_or (λ (process : Process). process.script) o []) found in
      ap (events_below (net_of network)) (add-one i)
      ∙ ap (λ (events : List Event). events_below (net_of network) i + length events) script

  pub events_within : FitsNumbers (net_of network) → events_below (net_of network) i + length process.script < 2 ^ 32
  events_within numbers =
      let there : i + 1 < (net_of network).processes + 1 = omega (arith, lt, ap length same) in
      omega (
        arith,
        events_more,
        events_grow (net_of network) (i + 1) (net_of network).processes (omega (arith, there)),
        numbers.events,
      )
