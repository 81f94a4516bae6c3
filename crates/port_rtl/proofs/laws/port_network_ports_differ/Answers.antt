use Rattle.port_rtl.specs.Designs.{units_of}
use Rattle.port_rtl.proofs.laws.port_network_ports_differ.Goals as goal

pub returns : goal.returns
returns c = record {
  names = λ nest network units are_units.
      c.network_ports_differ.ensures.names nest network (units_of units)
      (c.port_units_are_units.ensures nest network units are_units);
  unnumbered = λ nest network units are_units.
      c.network_ports_differ.ensures.unnumbered nest network (units_of units)
      (c.port_units_are_units.ensures nest network units are_units);
}
