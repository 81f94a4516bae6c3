-- The size of a nest: the length of its trace and the number of its loop turns. The limits of the size
-- and of the forms of loops.
use Rattle.std.specs.Prelude.{◌≤◌, ℕ, ◌+◌, ℤ, Bool, true, ◌&&◌, List, [], ◌∷◌, ◌++◌, map, length, IsTrue, if◌then◌else◌, nat_le, unsigned_abs}
use Rattle.std.specs.List.{list_all, sum_by}
use Rattle.affine_core.specs.declared.form.Form.{Form}
use Rattle.affine_core.specs.Affine.{form_at}
use Rattle.sanlp.specs.declared.nest.Nest.{Nest}
use Rattle.sanlp.specs.declared.nest.Node.{Node}
use Rattle.sanlp.specs.declared.nest.Node.TheOpen.{Node-F, Loop, Guard, Assign}
use Rattle.sanlp.specs.declared.nest.Node.TheFolds.{fold-Node}
use Rattle.sanlp.specs.Loops.{loop_values, all_hold}
use Rattle.sanlp.specs.Trace.{trace}

-- how many turns the loops of a part of the body make, at the values of the loops round it
abbrev pub turns_step : Node-F (List ℤ → ℕ) → List ℤ → ℕ
turns_step (Loop id lower upper step body) at =
    sum_by (λ v. sum_by (λ part. part (at ++ v ∷ [])) body + 1) (loop_values lower upper step at)
turns_step (Guard rows body) at = if all_hold rows at then sum_by (λ part. part at) body else 0
turns_step (Assign s) at = 0

abbrev pub turns_of_node : Node → List ℤ → ℕ
turns_of_node = fold-Node (List ℤ → ℕ) turns_step

-- how many turns all loops make
abbrev pub loop_turns : Nest → ℕ
loop_turns n = sum_by (λ part. part []) (map turns_of_node n.body)

-- the length of the trace and the number of loop turns
unfoldable pub size : Nest → ℕ
size n = length (trace n) + loop_turns n

-- the greatest size
abbrev pub size_limit : ℕ
size_limit = 8388608

-- the greatest absolute value of a form of an entered loop
abbrev pub loop_value_limit : ℕ
loop_value_limit = 4611686018427387904

-- whether a value is within ±2^62
abbrev pub is_loop_value : ℤ → Bool
is_loop_value value = nat_le (unsigned_abs value) loop_value_limit

-- the value of each form is within the limit
abbrev pub all_within : List Form → List ℤ → Bool
all_within forms at = list_all (λ form. is_loop_value (form_at form at)) forms

-- the bounds of a loop that is entered are within ±2^62
abbrev pub loop_within : List Form → List Form → List ℤ → Bool
loop_within lower upper at = all_within lower at && all_within upper at

-- each loop that is entered has only forms whose values are within the limit
abbrev pub within_step : Node-F (List ℤ → Bool) → List ℤ → Bool
within_step (Loop id lower upper step body) at =
    loop_within lower upper at
    && list_all (λ v. list_all (λ part. part (at ++ v ∷ [])) body) (loop_values lower upper step at)
within_step (Guard rows body) at =
    if all_hold rows at then list_all (λ part. part at) body else true
within_step (Assign s) at = true

abbrev pub node_within : Node → List ℤ → Bool
node_within = fold-Node (List ℤ → Bool) within_step

-- The size is within its limit, and so are the forms of each loop that is entered.
pub record SizeIsOk (n : Nest) : Type 0 where
  pub size_within : size n ≤ size_limit
  pub loops_within : IsTrue (list_all (λ node. node []) (map node_within n.body))
