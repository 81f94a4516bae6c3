use Rattle.net_core.specs.Machine.{net_of}
use Rattle.net_core.specs.Rules.{values}
use Rattle.port_rtl.specs.Controls.{port_controls}
use Rattle.port_rtl.proofs.Items.{give_items}
use Rattle.port_rtl.proofs.laws.port_designs_run_by_clock.Goals as goal

pub returns : goal.returns
returns c = record {
  items = give_items;
  runs = λ nest network text d shaped apart design.
      c.port_design_runs_by_clock.ensures (net_of network) (port_controls (net_of network) design.units) (values nest d)
      shaped.wired apart (give_items nest network design.units design.are_units);
  clocks = λ nest network text d sound apart design.
      c.port_design_computes.ensures.clocks nest network (port_controls (net_of network) design.units) d sound apart
      (give_items nest network design.units design.are_units);
  arrays = λ nest network text d sound apart design.
      c.port_design_computes.ensures.arrays nest network (port_controls (net_of network) design.units) d sound apart
      (give_items nest network design.units design.are_units);
  reads = λ nest network text d sound apart design.
      c.port_design_computes.ensures.reads nest network (port_controls (net_of network) design.units) d sound apart
      (give_items nest network design.units design.are_units);
}
