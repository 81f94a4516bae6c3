-- In a sound network the sinks have kept the arrays after the nest, whatever the order of the ports.
--
-- Where all events have come, each process has kept the values of its fires. A run of the scripts that ends all
-- leaves the same (net_core), and of that the arrays are known.
use Rattle.std.proofs.Common.{◌≡◌, ℕ, ◌-◌, ℤ, List, [], length, ap, sym, ◌∙◌}
use mathlib.Core.Path.{fun_ext}
use Rattle.sanlp.specs.declared.nest.Inputs.{Inputs}
use Rattle.sanlp.specs.declared.nest.Nest.{Nest}
use Rattle.sanlp.specs.Meaning.{arrays}
use Rattle.sanlp.specs.WellFormed.{output_numbers}
use Rattle.net_core.specs.declared.network.Network.{Network}
use Rattle.net_core.specs.Machine.{net_of}
use Rattle.net_core.specs.Orders.{reached}
use Rattle.net_core.specs.Rules.{values}
use Rattle.net_core.specs.Sound.{IsSound, sink_lists, sink_lists_from, tag_value}
use Rattle.net_core.proofs.FireValues.{gives_values}
use Rattle.net_core.proofs.PlaceValues.{ended_kept}
use Rattle.port_runs.specs.Ports.{AllHaveCome, IsPortRun, EventPlace, port_reached, port_start}
use Rattle.port_runs.proofs.PortValues.{all_kept}

pub port_arrays : (nest : Nest) (network : Network) (d : Inputs) (run : List EventPlace) → IsSound nest network
    → IsPortRun (net_of network) (values nest d) (port_start (net_of network)) run
    → AllHaveCome (net_of network) (port_reached (net_of network) (values nest d) run)
    → sink_lists nest (port_reached (net_of network) (values nest d) run).run ≡ arrays nest d
port_arrays nest network d run sound is all =
    let n = net_of network in
    let rule = values nest d in
    let v = tag_value nest d in
    let wired = sound.fits.shaped.wired in
    let gives = gives_values nest network sound.fits sound.names d in
    let full = (sound.ends d).ends [] tt in
    let same : (p : ℕ)
    → ((port_reached n rule run).run.local p).kept ≡ ((reached n rule full.0).local p).kept =
    λ p. all_kept n rule wired v gives run is all p
    ∙ sym (ended_kept n rule wired v full.0 gives full.1 full.2 p) in
    ap (λ (kept : ℕ → List ℤ).
    sink_lists_from kept (length nest.statements - length (output_numbers nest.arrays)) nest.arrays) (fun_ext same)
    ∙ sound.arrays d full.0 (full.1, full.2)
