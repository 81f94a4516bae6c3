-- The capacities of a network's channels.
use Rattle.std.proofs.Common.{◌≡◌, ℕ, zero, suc, List, [], ◌∷◌, map, length, slice_get, get_or, refl}
use Rattle.std.specs.Option.{option_map_or}
use Rattle.std.proofs.lemmas.List.{length-map}
use Rattle.std.proofs.lemmas.List.FromFn.{fill_by_all}
use Rattle.net_core.specs.declared.network.Channel.{Channel}
use Rattle.net_core.specs.declared.network.Network.{Network}
use Rattle.net_core.specs.Machine.{net_of}
use Rattle.cap_trim.specs.Capacities.{capacity_list}

capacity_read : (channels : List Channel) (c : ℕ)
    → get_or (map (λ (x : Channel). x.capacity) channels) c 0
    ≡ option_map_or (λ (x : Channel). x.capacity) (slice_get channels c) 0
capacity_read [] c = refl
capacity_read (x ∷ channels) zero = refl
capacity_read (x ∷ channels) (suc c) = capacity_read channels c

-- the channels' capacities, one after the other
pub capacities_are : (network : Network)
    → map (λ (x : Channel). x.capacity) network.channels ≡ capacity_list (net_of network)
capacities_are network =
    fill_by_all (net_of network).capacity (map (λ (x : Channel). x.capacity) network.channels)
    (length network.channels) 0 (length-map network.channels (λ (x : Channel). x.capacity))
    (λ c lt. capacity_read network.channels c)
