-- The size of a nest, counted in walking order.
use Rattle.std.specs.Prelude.{◌≡◌, ℕ, ◌+◌, ℤ, Bool, true, false, List, [], ◌∷◌, ◌++◌, map, Result, Ok, Err, IsTrue, if◌then◌else◌, nat_lt, nat_le}
use Rattle.std.specs.List.{list_all}
use Rattle.affine_core.specs.declared.form.Form.{Form}
use Rattle.sanlp.specs.declared.nest.Nest.{Nest}
use Rattle.sanlp.specs.declared.nest.Node.{Node}
use Rattle.sanlp.specs.declared.nest.Node.TheOpen.{Node-F, Loop, Guard, Assign}
use Rattle.sanlp.specs.declared.nest.Node.TheFolds.{fold-Node}
use Rattle.sanlp.specs.Loops.{all_hold, interval, loop_values}
use Rattle.sanlp.specs.Size.{is_loop_value, loop_within, size_limit}
use Rattle.loop_walk.specs.declared.count.SizeError.{SizeError}
use Rattle.loop_walk.specs.declared.count.SizeError.TheVariants.{Limit, LoopValue}

-- each value is within the limit
abbrev pub are_loop_values : List ℤ → Bool
are_loop_values values = list_all is_loop_value values

-- the values of a loop whose forms are within the limit run from the first to the last
pub record IsLoopRange (lower upper : List Form) (step : ℤ) (at : List ℤ)
    (first last : ℤ) : Type 0 where
  pub within : loop_within lower upper at ≡ true
  pub values : loop_values lower upper step at ≡ interval first last
  pub first_within : IsTrue (is_loop_value first)
  pub last_within : IsTrue (is_loop_value last)

-- The count after a part, given the count before it, or the first refusal.
abbrev pub Count : Type 0
Count = ℕ → Result ℕ SizeError

-- one more executed statement or begun turn
abbrev pub one_more : Count
one_more count = if nat_lt count size_limit then Ok (count + 1) else Err (Limit (size_limit + 1))

abbrev pub and_then : Result ℕ SizeError → Count → Result ℕ SizeError
and_then (Ok count) next = next count
and_then (Err refusal) next = Err refusal

abbrev pub in_order : List Count → Count
in_order [] count = Ok count
in_order (part ∷ parts) count = and_then (part count) (in_order parts)

abbrev pub counted_parts : List (List ℤ → Count) → List ℤ → Count
counted_parts parts at = in_order (map (λ part. part at) parts)

-- a count, unless it passes the limit
abbrev pub capped : ℕ → Result ℕ SizeError
capped count = if nat_le count size_limit then Ok count else Err (Limit (size_limit + 1))

-- whether a part is an assignment
abbrev pub assignment_step : Node-F Bool → Bool
assignment_step (Loop id lower upper step body) = false
assignment_step (Guard rows body) = false
assignment_step (Assign s) = true

abbrev pub is_assignment : Node → Bool
is_assignment = fold-Node Bool assignment_step

-- a turn of a loop is counted when it begins
abbrev pub counted_turn : List (List ℤ → Count) → List ℤ → ℤ → Count
counted_turn body at value count = and_then (one_more count) (counted_parts body (at ++ value ∷ []))

abbrev pub counted_turns : List (List ℤ → Count) → List ℤ → List ℤ → Count
counted_turns body at values = in_order (map (counted_turn body at) values)

-- a loop's forms are looked at when it is entered
abbrev pub count_step : Node-F (List ℤ → Count) → List ℤ → Count
count_step (Loop id lower upper step body) at count =
    if loop_within lower upper at then counted_turns body at (loop_values lower upper step at) count
    else Err (LoopValue id)
count_step (Guard rows body) at count =
    if all_hold rows at then counted_parts body at count else Ok count
count_step (Assign s) at count = one_more count

abbrev pub counted_node : Node → List ℤ → Count
counted_node = fold-Node (List ℤ → Count) count_step

-- the number of executed statements and loop turns, or the first refusal in walking order
unfoldable pub counted : Nest → Result ℕ SizeError
counted n = counted_parts (map counted_node n.body) [] 0
