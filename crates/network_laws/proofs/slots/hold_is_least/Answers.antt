use Rattle.reorder_slots.proofs.Laws.{keeps_until_used}
use Rattle.network_laws.proofs.FewestSlots.{hold_fits, hold_is_live, live_in_hold, own_slots_within}
use Rattle.network_laws.proofs.slots.hold_is_least.Goals as goal

pub returns : goal.returns
returns c =
    record {
      enough = keeps_until_used;
      within = own_slots_within;
      least = hold_fits;
      live = live_in_hold;
      met = hold_is_live;
    }
