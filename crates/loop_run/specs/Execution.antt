-- The statements that stand in a body, as its execution asks them.
use Rattle.std.specs.Prelude.{ℕ, ◌+◌, Bool, false, ◌==◌, List, map, slice_get}
use Rattle.std.specs.List.{list_all}
use Rattle.std.specs.Option.{option_map_or}
use Rattle.sanlp.specs.declared.nest.Node.{Node}
use Rattle.sanlp.specs.declared.nest.Node.TheOpen.{Node-F, Loop, Guard, Assign}
use Rattle.sanlp.specs.declared.nest.Node.TheFolds.{fold-Node}
use Rattle.sanlp.specs.declared.nest.Statement.{Statement}
use Rattle.sanlp.specs.WellFormed.{depth_of}

-- a statement that exists and has this many loops
abbrev pub is_of_depth : List Statement → ℕ → ℕ → Bool
is_of_depth statements depth s =
    option_map_or (λ found. depth_of found == depth) (slice_get statements s) false

-- each statement that stands in a part exists, and has as many loops as stand round it
abbrev pub placed_step : List Statement → Node-F (ℕ → Bool) → ℕ → Bool
placed_step statements (Loop id lower upper step body) depth =
    list_all (λ part. part (depth + 1)) body
placed_step statements (Guard rows body) depth = list_all (λ part. part depth) body
placed_step statements (Assign s) depth = is_of_depth statements depth s

abbrev pub node_placed : List Statement → Node → ℕ → Bool
node_placed statements = fold-Node (ℕ → Bool) (placed_step statements)

abbrev pub all_placed : List Statement → List Node → ℕ → Bool
all_placed statements parts depth =
    list_all (λ part. part depth) (map (node_placed statements) parts)
