use Rattle.std.proofs.Common.{refl, subst}
use Rattle.unit_text.specs.Units.{IsSequencerOf}
use Rattle.port_text.proofs.unit.get_control.Goals as goal

pub returns : goal.returns
returns c = record {
  channel_is = refl;
  waits_is = c.in_ok-port.ensures.waits;
  items_are = subst (λ items. IsSequencerOf items c.in_ok-items.items) c.in_ok-port.ensures.items c.in_ok-items.ensures;
}
