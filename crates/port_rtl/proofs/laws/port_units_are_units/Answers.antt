use Rattle.node_automata.specs.Automata.{automata}
use Rattle.port_rtl.proofs.Units.{units_are}
use Rattle.port_rtl.proofs.laws.port_units_are_units.Goals as goal

pub returns : goal.returns
returns c = λ nest network units are_units. units_are (automata nest network) units are_units
