use Rattle.rtl_text.proofs.NetworkPorts.{entity_has_network_ports, port_names_differ}
use Rattle.rtl_text.proofs.NumberedNames.{no_port_is_numbered}
use Rattle.rtl_text.proofs.laws.network_ports_differ.Goals as goal

pub returns : goal.returns
returns c = record {
  entity = entity_has_network_ports;
  names = port_names_differ;
  unnumbered = no_port_is_numbered;
}
