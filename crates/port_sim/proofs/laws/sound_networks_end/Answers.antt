use Rattle.std.proofs.Common.{[]}
use Rattle.sanlp.specs.declared.nest.Inputs.{Inputs}
use Rattle.net_core.specs.Machine.{net_of}
use Rattle.net_core.specs.Rules.{tags, values}
use Rattle.port_sim.proofs.laws.sound_networks_end.Goals as goal

pub returns : goal.returns
returns c nest network sound =
    let n = net_of network in
    let wired = sound.fits.shaped.wired in
    let nothing : Inputs = record { arrays = [] } in
    let all = (sound.ends nothing).ends [] tt in
    c.port_clocks_end.ensures n tags wired
    (c.every_order.ensures.ends n (values nest nothing) tags all.0 wired (all.1, all.2))
