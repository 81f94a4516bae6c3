use Rattle.std.proofs.Common.{◌≤◌, ◌+◌, ◌-◌, map, take, vec_len}
use Rattle.std.specs.Prelude.{IsTrue}
use Rattle.std.specs.List.{list_all}
use Rattle.loop_walk.specs.Walking.{node_room}
use Rattle.loop_walk.proofs.walk.+room.Given as goal

abbrev pub invariant-make_room-loop-part : goal.invariant-make_room-loop-part
invariant-make_room-loop-part l =
    (l.depth + 1 ≤ vec_len l.frames)
    × (vec_len l.initial.frames ≤ vec_len l.frames)
    × IsTrue (list_all (λ room. room (vec_len l.frames - (l.depth + 1))) (map node_room (take l.part-index l.parts)))
