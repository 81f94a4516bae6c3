use Rattle.std.proofs.Common.{◌≤◌, ◌<◌, ◌+◌, take, vec_len}
use Rattle.script_blocks.specs.Nesting.{parts_nesting}
use Rattle.script_blocks.proofs.cursor.+room.Given as goal

abbrev pub invariant-make_room-loop-part : goal.invariant-make_room-loop-part
invariant-make_room-loop-part g l =
    (vec_len l.initial.frames ≤ vec_len l.frames)
    × (l.depth + 1 ≤ vec_len l.frames)
    × (l.depth + parts_nesting (take l.part-index l.parts) < vec_len l.frames)
