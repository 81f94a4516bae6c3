use Rattle.unit_text.proofs.Ports.{entity_has_ports}
use Rattle.rtl_text.proofs.Joins.{joins_have_names, node_has_joins}
use Rattle.rtl_text.proofs.laws.node_ports_are_joined_in_order.Goals as goal

pub returns : goal.returns
returns c = record { entity = entity_has_ports; node = node_has_joins; names = joins_have_names }
