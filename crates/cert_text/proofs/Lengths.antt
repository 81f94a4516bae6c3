-- A network that a text stands for has fewer than 2 ^ 32 events.
use Rattle.std.proofs.Common.{◌≡◌, ℕ, zero, suc, ◌+◌, ◌≤◌, List, [], ◌∷◌, length, map, take}
use Rattle.std.proofs.Common.{slice_get, refl, ap, ◌∙◌, arith}
use Rattle.std.specs.List.{sum_by}
use Rattle.std.specs.Option.{option_map_or}
use Rattle.std.proofs.lemmas.List.{length-map, take_all}
use Rattle.std.proofs.lemmas.List.Sums.{sum_by-cons}
use Rattle.net_core.specs.declared.network.Event.{Event}
use Rattle.net_core.specs.declared.network.Network.{Network}
use Rattle.net_core.specs.declared.network.Process.{Process}
use Rattle.net_core.specs.Machine.{net_of}
use Rattle.net_core.specs.Shape.{FitsNumbers, events_below}
use Rattle.source_tree.specs.declared.cert.Cert.{Cert}
use Rattle.cert_text.specs.Folding.{process_of, scripts}
use Rattle.cert_text.specs.StandsFor.{StandsFor}

abbrev script_at : List Process → ℕ → List Event
script_at ps k = option_map_or (λ (p : Process). p.script) (slice_get ps k) []

abbrev scripts_in : List Process → List (List Event)
scripts_in ps = map (λ (p : Process). p.script) ps

one_more : (ps : List Process) (k : ℕ)
    → sum_by length (take (suc k) (scripts_in ps)) ≡ sum_by length (take k (scripts_in ps)) + length (script_at ps k)
one_more [] zero = refl
one_more [] (suc k) = refl
one_more (p ∷ ps) zero = omega (arith, sum_by-cons (length {A = Event}) p.script [])
one_more (p ∷ ps) (suc k) =
    omega (
      arith,
      one_more ps k,
      sum_by-cons (length {A = Event}) p.script (take (suc k) (scripts_in ps)),
      sum_by-cons (length {A = Event}) p.script (take k (scripts_in ps)),
    )

events_are : (network : Network) (k : ℕ) → events_below (net_of network) k ≡ sum_by length (take k (scripts network))
events_are network zero = refl
events_are network (suc k) = omega (arith, events_are network k, one_more network.processes k)

-- the events of all scripts together
pub all_events : (network : Network)
    → events_below (net_of network) (length network.processes) ≡ sum_by length (scripts network)
all_events network =
    let count : length (scripts network) ≤ length network.processes =
    omega (arith, length-map network.processes (λ (p : Process). p.script)) in
    events_are network (length network.processes)
    ∙ ap (λ (ss : List (List Event)). sum_by length ss) (take_all (length network.processes) (scripts network) count)

pub few_events : (text : List ℕ) (network : Network) (cert : Cert) → StandsFor text network cert
    → FitsNumbers (net_of network)
few_events text network cert k =
    let processes : length network.processes ≡ length k.folded.processes =
    ap (λ (n : Network). length n.processes) k.of_network ∙ length-map k.folded.processes process_of in
    let channels : length network.channels ≡ length k.folded.channels =
    ap (λ (n : Network). length n.channels) k.of_network in
    record {
      processes = omega (arith, processes, k.in_range.process_count);
      channels = omega (arith, channels, k.in_range.channel_count);
      events = omega (arith, all_events network, k.short.events);
    }
