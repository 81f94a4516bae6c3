use Rattle.std.proofs.Common.{refl}
use Rattle.port_rtl.proofs.laws.port_units_make_a_design.Goals as goal

pub returns : goal.returns
returns c = λ nest network units are_units. record { units = units; are_units = are_units; text_is = refl }
