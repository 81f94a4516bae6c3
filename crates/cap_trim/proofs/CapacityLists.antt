-- The network that has a list of capacities, and the one with least capacities.
--
-- A network has its capacities in its channels, and the definition changes them as a function. A network that is
-- given a function's list has that function for its capacities, if it is 0 past the channels (`net_listed`); and
-- of two lists that are given one after the other the later one stands (`capacities_twice`). Giving channels their
-- least capacities lets none grow, so past the channels they are still 0 (`last_none`). So the network that is
-- given their list is the one with least capacities (`net_is`). That these are least isn't a matter of this file.
use Rattle.std.proofs.Common.{◌≡◌, ℕ, ◌≤◌, true, List, [], ◌∷◌, map, length}
use Rattle.std.proofs.Common.{refl, sym, ap, ◌∙◌, inl, inr, arith}
use Rattle.std.specs.List.{range_with_len}
use Rattle.std.specs.Option.{option_map_or}
use Rattle.std.proofs.lemmas.Bool.{cases_lt}
use Rattle.std.proofs.lemmas.List.FromFn.{get_or-map-range_with_len, length-map-range_with_len}
use Rattle.std.proofs.lemmas.Option.{slice_get_past}
use mathlib.Core.Path.{fun_ext}
use Rattle.net_core.specs.declared.network.Channel.{Channel}
use Rattle.net_core.specs.declared.network.Network.{Network}
use Rattle.net_core.specs.Machine.{Net, net_of}
use Rattle.net_core.proofs.Fresh.{no_capacity}
use Rattle.witness_plan.specs.Sequential.{channels_with, with_capacities}
use Rattle.witness_plan.proofs.OtherCapacities.{net_kept, length-channels_with}
use Rattle.witness_plan.proofs.NeverFull.{capacity_given}
use Rattle.cap_trim.specs.Capacities.{capacity_list, trimmed_network, with_room}
use Rattle.net_core.specs.Progress.{at_capacities}
use Rattle.cap_trim.specs.Rests.{can_end}
use Rattle.cap_trim.proofs.LeastCapacities.{before_ends, before_is, last_within}
use Rattle.cap_trim.proofs.Turns.{at_listed}

abbrev with_places : Channel → ℕ → Channel
with_places x places = record x { capacity = places }

-- the later capacities stand
channels_twice : (channels : List Channel) (first later : List ℕ)
    → channels_with (channels_with channels first) later ≡ channels_with channels later
channels_twice [] first later = refl
channels_twice (x ∷ channels) [] [] = ap (λ l. with_places x 0 ∷ l) (channels_twice channels [] [])
channels_twice (x ∷ channels) [] (z ∷ later) = ap (λ l. with_places x z ∷ l) (channels_twice channels [] later)
channels_twice (x ∷ channels) (y ∷ first) [] = ap (λ l. with_places x 0 ∷ l) (channels_twice channels first [])
channels_twice (x ∷ channels) (y ∷ first) (z ∷ later) =
    ap (λ l. with_places x z ∷ l) (channels_twice channels first later)

pub capacities_twice : (network : Network) (first later : List ℕ)
    → with_capacities (with_capacities network first) later ≡ with_capacities network later
capacities_twice network first later =
    ap (λ (channels : List Channel). let changed : Network =
    record { processes = network.processes; channels = channels } in changed)
    (channels_twice network.channels first later)

-- the network with the list of some capacities is the one with these capacities
pub net_listed : (network : Network) (room : ℕ → ℕ) → ((c : ℕ) → length network.channels ≤ c → room c ≡ 0)
    → net_of (with_capacities network (map room (range_with_len 0 (length network.channels))))
    ≡ with_room (net_of network) room
net_listed network room none =
    let places = map room (range_with_len 0 (length network.channels)) in
    let same : (net_of (with_capacities network places)).capacity ≡ room =
    fun_ext (λ c. elim (cases_lt c (length network.channels)) [
      | inl lt ↦
          capacity_given network.channels places c lt
          (omega (arith, lt, length-map-range_with_len room 0 (length network.channels)))
          ∙ get_or-map-range_with_len room 0 (length network.channels) c c 0 lt (omega arith)
      | inr past ↦
          ap (λ o. option_map_or (λ (x : Channel). x.capacity) o 0)
          (slice_get_past (channels_with network.channels places) c
          (omega (arith, past, length-channels_with network.channels places)))
          ∙ sym (none c past)
    ]) in
    net_kept network places ∙ ap (with_room (net_of network)) same

-- The network with least capacities

module _ (network : Network) where
  abbrev pub n : Net
  n = net_of network

  pub last_is : trimmed_network n ≡ with_room n (trimmed_network n).capacity
  unfolding trimmed_network
  last_is = before_is n n.channels

  last_none : (c : ℕ) → length network.channels ≤ c → (trimmed_network n).capacity c ≡ 0
  unfolding trimmed_network
  last_none c past = omega (arith, last_within n c, no_capacity network c past)

  pub list_is : capacity_list (trimmed_network n)
      ≡ map (trimmed_network n).capacity (range_with_len 0 (length network.channels))
  list_is =
      ap (λ m. map (trimmed_network n).capacity (range_with_len 0 m)) (ap (λ (x : Net). x.channels) last_is)

  pub last_long : length (capacity_list (trimmed_network n)) ≡ length network.channels
  last_long =
      ap length list_is ∙ length-map-range_with_len (trimmed_network n).capacity 0 (length network.channels)

  pub net_is : (places : List ℕ) → places ≡ capacity_list (trimmed_network n)
      → net_of (with_capacities network places) ≡ trimmed_network n
  net_is places is =
      ap (λ l. net_of (with_capacities network l)) (is ∙ list_is)
      ∙ net_listed network (trimmed_network n).capacity last_none ∙ sym last_is

  -- a list of the capacities gives it back
  pub at_last : (places : List ℕ) → places ≡ capacity_list (trimmed_network n)
      → at_capacities n places ≡ trimmed_network n
  at_last places is =
      ap (at_capacities n) is
      ∙ sym (ap (λ (x : Net). at_capacities x (capacity_list (trimmed_network n))) last_is)
      ∙ at_listed (trimmed_network n)
      (λ c past. last_none c (omega (arith, past, ap (λ (x : Net). x.channels) last_is)))

  pub last_can : can_end n ≡ true → can_end (trimmed_network n) ≡ true
  unfolding trimmed_network
  last_can can = before_ends n n.channels can
