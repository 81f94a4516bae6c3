-- The sequential meaning of a nest.
use Rattle.std.specs.Prelude.{ℕ, ◌+◌, ℤ, List, [], ◌∷◌, ◌++◌, map, Option, Some, None, if◌then◌else◌}
use Rattle.std.specs.List.{fold}
use Rattle.sanlp.specs.declared.nest.ArrayDecl.{ArrayDecl}
use Rattle.sanlp.specs.declared.nest.Inputs.{Inputs}
use Rattle.sanlp.specs.declared.nest.Nest.{Nest}
use Rattle.sanlp.specs.declared.nest.Node.{Node}
use Rattle.sanlp.specs.declared.nest.Node.TheOpen.{Node-F, Loop, Guard, Assign}
use Rattle.sanlp.specs.declared.nest.Node.TheFolds.{fold-Node}
use Rattle.sanlp.specs.declared.nest.Point.{Point}
use Rattle.sanlp.specs.Access.{write_of, result_of}
use Rattle.sanlp.specs.Cells.{Cell, all_subscripts, is_output}
use Rattle.sanlp.specs.Loops.{loop_values, all_hold}
use Rattle.sanlp.specs.Memory.{Memory, no_cells, cell_value, with_cell}

abbrev pub store : Memory → Option Cell → ℤ → Memory
store m None v = m
store m (Some cell) v = with_cell m cell v

-- A point reads its cells, evaluates and writes. A sink, which has no write, changes nothing.
abbrev pub execute : Nest → Inputs → Memory → Point → Memory
execute n d m p = store m (write_of n p) (result_of n d p (cell_value m))

-- what a part of the body does, at the values of the loops round it
abbrev pub Action : Type 0
Action = List ℤ → Memory → Memory

abbrev pub in_turn : List Action → Action
in_turn actions at m = fold (λ m action. action at m) m actions

-- a body at each value of its loop's variable
abbrev pub turns : Action → List ℤ → Action
turns body values at m = fold (λ m v. body (at ++ v ∷ []) m) m values

abbrev pub exec_step : Nest → Inputs → Node-F Action → Action
exec_step n d (Loop id lower upper step body) at m =
    turns (in_turn body) (loop_values lower upper step at) at m
exec_step n d (Guard rows body) at m = if all_hold rows at then in_turn body at m else m
exec_step n d (Assign s) at m = execute n d m (record { statement = s; at = at })

abbrev pub exec_node : Nest → Inputs → Node → Action
exec_node n d = fold-Node Action (exec_step n d)

-- the memory after the nest
unfoldable pub exec : Nest → Inputs → Memory
exec n d = in_turn (map (exec_node n d) n.body) [] no_cells

-- the values of array number a in row-major order, if it is an output
abbrev pub output_values : Memory → ℕ → ArrayDecl → List ℤ
output_values m a array =
    if is_output array.kind then map (λ at. cell_value m (a, at)) (all_subscripts array.extents)
    else []

abbrev pub arrays_from : Memory → ℕ → List ArrayDecl → List (List ℤ)
arrays_from m a [] = []
arrays_from m a (array ∷ arrays) = output_values m a array ∷ arrays_from m (a + 1) arrays

-- the cells of each output array after the nest, in row-major order
abbrev pub arrays : Nest → Inputs → List (List ℤ)
arrays n d = arrays_from (exec n d) 0 n.arrays
