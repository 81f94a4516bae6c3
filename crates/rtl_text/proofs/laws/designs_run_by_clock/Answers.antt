use Rattle.net_core.specs.Machine.{net_of}
use Rattle.net_core.specs.Rules.{values}
use Rattle.rtl_text.specs.Designs.{controls_of}
use Rattle.rtl_text.proofs.DesignClocks.{give_scripts}
use Rattle.rtl_text.proofs.laws.designs_run_by_clock.Goals as goal

pub returns : goal.returns
returns c = record {
  scripts = give_scripts c.controls_give_scripts.ensures.once;
  runs = λ nest network text d shaped design.
      c.design_runs_by_clock.ensures (net_of network) (controls_of design.units) (values nest d) shaped.wired
      (give_scripts c.controls_give_scripts.ensures.once nest network design.units shaped design.are_units);
  clocks = λ nest network text d sound design.
      c.design_computes.ensures.clocks nest network (controls_of design.units) d sound
      (give_scripts c.controls_give_scripts.ensures.once nest network design.units sound.fits.shaped design.are_units);
  arrays = λ nest network text d sound design.
      c.design_computes.ensures.arrays nest network (controls_of design.units) d sound
      (give_scripts c.controls_give_scripts.ensures.once nest network design.units sound.fits.shaped design.are_units);
  reads = λ nest network text d sound design.
      c.design_computes.ensures.reads nest network (controls_of design.units) d sound
      (give_scripts c.controls_give_scripts.ensures.once nest network design.units sound.fits.shaped design.are_units);
}
