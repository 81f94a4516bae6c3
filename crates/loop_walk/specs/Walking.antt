-- The state of a walk over a nest: what is left of the trace.
use Rattle.std.specs.Prelude.{ℕ, zero, suc, ℤ, pos, ◌+ℤ◌, Bool, true, false, ◌&&◌, List, [], ◌∷◌, ◌++◌, map, drop, if◌then◌else◌}
use Rattle.std.specs.List.{list_all}
use Rattle.sanlp.specs.declared.nest.Node.{Node, out-Node}
use Rattle.sanlp.specs.declared.nest.Node.TheOpen.{Node-F, Loop, Guard, Assign}
use Rattle.sanlp.specs.declared.nest.Node.TheFolds.{fold-Node}
use Rattle.sanlp.specs.declared.nest.Point.{Point}
use Rattle.sanlp.specs.Loops.{interval}
use Rattle.sanlp.specs.Trace.{PointsAt, all_points, trace_node, turn_points}
use Rattle.loop_walk.specs.declared.walk.Frame.{Frame}
use Rattle.sanlp.specs.Size.{is_loop_value, node_within}
use Rattle.loop_walk.specs.EnteredLoops.{parts_within, turns_within}

-- what is left of a body, at the values of the loops round it
abbrev pub Left : Type 0
Left = List Node → List ℤ → List Point

-- the turn that the loop is in, of which `inner` is left, and the later ones
abbrev pub left_of_turns : Frame → Left → List Node → PointsAt
left_of_turns f inner body at =
    inner body (at ++ f.value ∷ [])
    ++ turn_points (all_points (map trace_node body)) (interval (f.value +ℤ pos 1) f.last) at

-- an assignment that was entered is done
abbrev pub left_inside : Frame → Left → Node-F Node → PointsAt
left_inside f inner (Loop id lower upper step body) at = left_of_turns f inner body at
left_inside f inner (Guard rows body) at = inner body at
left_inside f inner (Assign s) at = []

abbrev pub left_of_node : Frame → Left → Node → PointsAt
left_of_node f inner node at =
    if f.inside then left_inside f inner (out-Node node) at else trace_node node at

-- the part that the walk is at, and the later ones
abbrev pub left_of_parts : Frame → Left → List Node → PointsAt
left_of_parts f inner [] at = []
left_of_parts f inner (node ∷ others) at =
    left_of_node f inner node at ++ all_points (map trace_node others) at

-- one frame for each body that the walk is in, outermost first
abbrev pub left : List Frame → Left
left [] parts at = []
left (f ∷ frames) parts at = left_of_parts f (left frames) (drop f.part parts) at

-- The loops that the walk is in have values within their limit, and so have those that it will enter.
abbrev pub Valid : Type 0
Valid = List Node → List ℤ → Bool

abbrev pub turns_valid : Frame → Valid → List Node → List ℤ → Bool
turns_valid f inner body at =
    is_loop_value f.value && is_loop_value f.last
    && turns_within body at (interval (f.value +ℤ pos 1) f.last) && inner body (at ++ f.value ∷ [])

abbrev pub inside_valid : Frame → Valid → Node-F Node → List ℤ → Bool
inside_valid f inner (Loop id lower upper step body) at = turns_valid f inner body at
inside_valid f inner (Guard rows body) at = inner body at
inside_valid f inner (Assign s) at = true

abbrev pub node_valid : Frame → Valid → Node → List ℤ → Bool
node_valid f inner node at =
    if f.inside then inside_valid f inner (out-Node node) at else node_within node at

abbrev pub parts_valid : Frame → Valid → List Node → List ℤ → Bool
parts_valid f inner [] at = true
parts_valid f inner (node ∷ others) at = node_valid f inner node at && parts_within others at

abbrev pub valid : List Frame → Valid
valid [] parts at = true
valid (f ∷ frames) parts at = parts_valid f (valid frames) (drop f.part parts) at

-- This many frames are enough for the bodies in a part, and for a body: one, and those of its parts.
abbrev pub body_room : List (ℕ → Bool) → ℕ → Bool
body_room parts zero = false
body_room parts (suc frames) = list_all (λ part. part frames) parts

abbrev pub room_step : Node-F (ℕ → Bool) → ℕ → Bool
room_step (Loop id lower upper step body) frames = body_room body frames
room_step (Guard rows body) frames = body_room body frames
room_step (Assign s) frames = true

abbrev pub node_room : Node → ℕ → Bool
node_room = fold-Node (ℕ → Bool) room_step

abbrev pub parts_room : List Node → ℕ → Bool
parts_room parts frames = body_room (map node_room parts) frames
