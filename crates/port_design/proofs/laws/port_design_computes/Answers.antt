use Rattle.std.proofs.Common.{◌∙◌}
use Rattle.net_core.specs.Machine.{net_of}
use Rattle.net_core.specs.Rules.{values}
use Rattle.net_core.specs.Sound.{tag_value}
use Rattle.net_core.proofs.FireValues.{gives_values}
use Rattle.port_clocks.specs.PortClocks.{port_clocks}
use Rattle.port_design.proofs.Clocked.{outputs_alike, takes_clocks, values_found}
use Rattle.port_design.proofs.laws.port_design_computes.Goals as goal

pub returns : goal.returns
returns c = record {
  clocks = λ nest network controls d sound apart give.
      takes_clocks (net_of network) controls (values nest d) sound.fits.shaped.wired apart give
      (c.port_clocks_compute.ensures.ends nest network d sound) (c.port_runs_compute.ensures.ends nest network d sound);
  arrays = λ nest network controls d sound apart give.
      outputs_alike nest (net_of network) controls (values nest d) sound.fits.shaped.wired apart give
      (port_clocks (net_of network))
      ∙ c.port_clocks_compute.ensures.arrays nest network d sound;
  reads = λ nest network controls d sound apart give.
      values_found nest network sound d controls apart give
      (λ run is.
      c.port_runs_name.ensures.named (net_of network) (values nest d) (tag_value nest d) run sound.fits.shaped.wired
      (gives_values nest network sound.fits sound.names d) is);
}
