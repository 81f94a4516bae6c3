-- The executed statements with their iteration vectors, in order.
use Rattle.std.specs.Prelude.{ℤ, List, [], ◌∷◌, ◌++◌, map, if◌then◌else◌}
use Rattle.std.specs.List.{flat_map}
use Rattle.sanlp.specs.declared.nest.Nest.{Nest}
use Rattle.sanlp.specs.declared.nest.Node.{Node}
use Rattle.sanlp.specs.declared.nest.Node.TheOpen.{Node-F, Loop, Guard, Assign}
use Rattle.sanlp.specs.declared.nest.Node.TheFolds.{fold-Node}
use Rattle.sanlp.specs.declared.nest.Point.{Point}
use Rattle.sanlp.specs.Loops.{loop_values, all_hold}

-- the points that a part of the body executes, at the values of the loops round it
abbrev pub PointsAt : Type 0
PointsAt = List ℤ → List Point

abbrev pub all_points : List PointsAt → PointsAt
all_points parts at = flat_map (λ part. part at) parts

-- a body at each value of its loop's variable
abbrev pub turn_points : PointsAt → List ℤ → PointsAt
turn_points body values at = flat_map (λ v. body (at ++ v ∷ [])) values

abbrev pub trace_step : Node-F PointsAt → PointsAt
trace_step (Loop id lower upper step body) at =
    turn_points (all_points body) (loop_values lower upper step at) at
trace_step (Guard rows body) at = if all_hold rows at then all_points body at else []
trace_step (Assign s) at = record { statement = s; at = at } ∷ []

abbrev pub trace_node : Node → PointsAt
trace_node = fold-Node PointsAt trace_step

-- the executed statements with their iteration vectors, in order
unfoldable pub trace : Nest → List Point
trace n = all_points (map trace_node n.body) []
