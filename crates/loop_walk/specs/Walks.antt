-- A walk over the points of a nest.
use Rattle.std.specs.Prelude.{List, [], ◌++◌, IsTrue, vec_len}
use Rattle.sanlp.specs.declared.nest.Nest.{Nest}
use Rattle.sanlp.specs.declared.nest.Point.{Point}
use Rattle.loop_walk.specs.declared.walk.Walk.{Walk}
use Rattle.loop_walk.specs.Walking.{left, parts_room, valid}

-- the walk was made from this nest
pub record IsWalkOf (n : Nest) (walk : Walk) : Type 0 where
  pub room : IsTrue (parts_room n.body (vec_len walk.frames))
  pub loops_within : IsTrue (valid walk.frames.items n.body [])

-- the points of the trace that the walk has not given yet
unfoldable pub rest : Nest → Walk → List Point
rest n walk = walk.run ++ left walk.frames.items n.body []
