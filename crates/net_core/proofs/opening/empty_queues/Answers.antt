use Rattle.std.proofs.Common.{◌≡◌, ◌<◌, ◌∙◌, length, slice_get, Some, ap, refl, sym, arith}
use Rattle.std.proofs.lemmas.Option.{get_or_from_slice_get, slice_get_read}
use Rattle.net_core.specs.Machine.{net_of}
use Rattle.net_core.specs.Shape.{put_count}
use Rattle.net_core.proofs.Fresh.{empty_more, queue_room_is}
use Rattle.net_core.proofs.opening.empty_queues.Goals as goal

pub loop-at-preserved : goal.loop-at-preserved
loop-at-preserved g c =
    let network = c.args.wired.now.network.now in
    let n = net_of network in
    let at = c.loop-at.at in
    let lt : at < length network.channels =
    omega (arith, c.loop-at-test.true, ap length c.as_slice-channel-items.ensures) in
    let counts = c.in_ok-counts.counts.items in
    let found : slice_get counts at ≡ Some c.index.result.now =
    slice_get_read counts (length counts) at c.index.result.now refl
    (omega (arith, c.in_ok-counts.ensures.length)) c.index.ensures in
    let puts : c.index.result.now ≡ put_count n at =
    sym (get_or_from_slice_get counts at c.index.result.now 0 found) ∙ c.in_ok-counts.ensures.counts at lt in
    let room =
    queue_room_is network c.as_slice-channel-items.result.now at _ c.min-room.result c.index.result.now
    c.as_slice-channel-items.ensures c.loop-at-test.true c.min-room.ensures puts in
    empty_more n c.loop-at.queues.items c.push.new.self.items c.in_ok-with_capacity.field-0 at c.loop-at.invariant
    c.in_ok-push.ensures.items
    c.in_ok-with_capacity.ensures.items (c.in_ok-with_capacity.ensures.exact ∙ room)
