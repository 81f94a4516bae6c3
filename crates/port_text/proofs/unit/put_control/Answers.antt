use Rattle.std.proofs.Common.{refl, subst}
use Rattle.unit_text.specs.Units.{IsSequencerOf}
use Rattle.port_text.proofs.unit.put_control.Goals as goal

pub returns : goal.returns
returns c = record {
  channel_is = refl;
  items_are = subst (λ items. IsSequencerOf items c.in_ok-items.items) c.in_ok-port.ensures c.in_ok-items.ensures;
}
