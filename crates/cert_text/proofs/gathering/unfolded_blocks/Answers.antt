use Rattle.cert_text.proofs.PartLists.{item_expansion, item_proper}
use Rattle.cert_text.proofs.gathering.unfolded_blocks.Goals as goal

pub loop-item-preserved : goal.loop-item-preserved
loop-item-preserved g c =
    let parts = c.loop-item.parts.items in
    let all = c.push.new.self.items in
    record {
      expansion = item_expansion parts all c.loop-item.yielded c.in-Some.item c.in_ok-push.ensures.items
          c.loop-item.invariant.expansion;
      proper = item_proper parts all c.in-Some.item c.in_ok-push.ensures.items c.loop-item.invariant.proper;
    }
