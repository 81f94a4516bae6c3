use Rattle.std.proofs.Common.{◌∙◌}
use Rattle.net_core.specs.Machine.{net_of}
use Rattle.net_core.specs.Rules.{values}
use Rattle.clock_sim.specs.Clocks.{clocks}
use Rattle.design_clocks.proofs.Clocked.{outputs_alike, takes_clocks}
use Rattle.design_clocks.proofs.FilledSlots.{values_found}
use Rattle.design_clocks.proofs.laws.design_computes.Goals as goal

pub returns : goal.returns
returns c = record {
  clocks = λ nest network controls d sound give.
      takes_clocks (net_of network) controls (values nest d) sound.fits.shaped.wired give
      (c.clocked_run_computes.ensures.ends nest network d sound) (sound.ends d);
  arrays = λ nest network controls d sound give.
      outputs_alike nest (net_of network) controls (values nest d) sound.fits.shaped.wired give
      (clocks (net_of network))
      ∙ c.clocked_run_computes.ensures.arrays nest network d sound;
  reads = λ nest network controls d sound give.
      values_found nest network sound d controls give (c.clocked_run_computes.ensures.ends nest network d sound);
}
