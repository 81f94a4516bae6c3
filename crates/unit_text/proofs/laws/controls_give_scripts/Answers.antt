use Rattle.unit_text.proofs.Sequences.{gives_items, gives_rounds}
use Rattle.unit_text.proofs.laws.controls_give_scripts.Goals as goal

pub returns : goal.returns
returns c = record {
  once = λ auto unit is. gives_items auto.events unit.control is.control_is;
  again = λ auto unit count is. gives_rounds auto.events unit.control is.control_is count;
}
