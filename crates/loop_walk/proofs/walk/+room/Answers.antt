use Rattle.std.proofs.Common.{◌≤◌, ◌+◌, ◌-◌, arith, vec_len}
use Rattle.loop_walk.proofs.Rooms.{room_more}
use Rattle.loop_walk.proofs.walk.+room.Goals as goal

pub make_room-loop-part-preserved : goal.make_room-loop-part-preserved
make_room-loop-part-preserved t c =
    let before = vec_len c.loop-part.frames - (c.args.depth + 1) in
    let after = vec_len c.make_room_for_node.new.frames - (c.args.depth + 1) in
    let grows = c.in_ok-make_room_for_node.ensures.grows in
    let le : vec_len c.loop-part.frames - (c.args.depth + 1) ≤ vec_len c.make_room_for_node.new.frames -
    (c.args.depth + 1) = omega arith in (
      omega arith,
      omega arith,
      room_more c.args.parts.now c.loop-part.part-index c.part-item.result before after c.loop-part-test.true
          c.part-item.is le c.loop-part.invariant.2 c.in_ok-make_room_for_node.ensures.room,
    )
