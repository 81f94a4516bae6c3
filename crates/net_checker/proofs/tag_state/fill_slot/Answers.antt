use Rattle.net_checker.proofs.SlotLemmas.{row_set}
use Rattle.net_checker.proofs.tag_state.fill_slot.Goals as goal

pub returns : goal.returns
returns c =
    row_set c.args.slots.now.items c.args.process c.index_mut.result.now c.fill.new.self c.args.slot c.args.tag
    c.requires c.index_mut.ensures.value c.in_ok-fill.ensures
