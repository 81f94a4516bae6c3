use Rattle.std.proofs.Common.{[]}
use Rattle.sanlp.specs.declared.nest.Inputs.{Inputs}
use Rattle.net_core.specs.Machine.{net_of}
use Rattle.net_core.specs.Rules.{values}
use Rattle.port_clocks.specs.PortClocks.{PortClocksEnd}
use Rattle.rtl_line.specs.declared.words.Policy.{Policy}
use Rattle.rtl_answers.specs.Networks.{network_for}
use Rattle.rtl_answers.proofs.laws.answered_port_clocks_end.Goals as goal

pub returns : goal.returns
returns c =
    let nest = c.args.nest.now in
    let nothing : Inputs = record { arrays = [] } in
    let sound = c.answered_clocks_are_those_of_designs.ensures.sound in
    let ends : (policy : Policy) (d : Inputs) → PortClocksEnd (net_of (network_for policy nest)) (values nest d) =
    λ policy d. c.port_clocks_compute.ensures.ends nest (network_for policy nest) d (sound policy) in
    record {
      ends = ends;
      arrays = λ policy d.
          c.port_clocks_compute.ensures.arrays nest (network_for policy nest) d (sound policy);
      few = λ policy. (ends policy nothing).few;
    }
