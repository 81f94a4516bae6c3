-- What the type of a nest keeps. This file names no `Nest`.
use Rattle.std.specs.Prelude.{◌≡◌, ◌≤◌, IsTrue, ℕ, ◌+◌, ◌-◌, ℤ, pos, negsuc, neg_ℤ, int_le, List, [], ◌∷◌, ◌++◌, map, length, take, drop, replicate, Bool, true, false, not, ◌&&◌, ◌||◌, ◌==◌, nat_eq, nat_lt, nat_le, is_some, Some, None, slice_get, if◌then◌else◌}
use Rattle.std.specs.List.{list_all, list_any, flat_map, range_with_len, sum_by}
use Rattle.std.specs.Option.{option_map_or}
use Rattle.std.specs.Ordering.{int_eq}
use Rattle.std.specs.Cmp.Lexicographic.{pointwise}
use Rattle.affine_core.specs.declared.form.Form.{Form}
use Rattle.affine_core.specs.Affine.{form_product, form_sum, variable_form, widened_form}
use Rattle.wrap_expr.specs.declared.expr.Expr.{Expr}
use Rattle.wrap_expr.specs.declared.expr.Expr.TheVariants as expr
use Rattle.wrap_expr.specs.declared.expr.Expr.TheOpen.{Expr-F, Const, Var, Read, Given, Add, Sub, Mul, Min, Max, Neg}
use Rattle.wrap_expr.specs.declared.expr.Expr.TheFolds.{fold-Expr}
use Rattle.wrap_expr.specs.Value.{uses_only}
use Rattle.sanlp.specs.declared.nest.Access.{Access}
use Rattle.sanlp.specs.declared.nest.ArrayDecl.{ArrayDecl}
use Rattle.sanlp.specs.declared.nest.Node.{Node}
use Rattle.sanlp.specs.declared.nest.Node.TheOpen.{Node-F, Loop, Guard, Assign}
use Rattle.sanlp.specs.declared.nest.Node.TheFolds.{fold-Node}
use Rattle.sanlp.specs.declared.nest.Role.{Role}
use Rattle.sanlp.specs.declared.nest.Role.TheVariants as role
use Rattle.sanlp.specs.declared.nest.Statement.{Statement}
use Rattle.sanlp.specs.Around.{loops_round}
use Rattle.sanlp.specs.Cells.{is_input, is_output}

-- Arrays

-- no two names are the same
abbrev pub all_differ : List (List ℕ) → Bool
all_differ [] = true
all_differ (name ∷ names) = not (list_any (pointwise nat_eq name) names) && all_differ names

-- the numbers of the arrays that pass, the first array having number a
abbrev pub numbers_from : (ArrayDecl → Bool) → ℕ → List ArrayDecl → List ℕ
numbers_from passes a [] = []
numbers_from passes a (array ∷ arrays) =
    if passes array then a ∷ numbers_from passes (a + 1) arrays
    else numbers_from passes (a + 1) arrays

abbrev pub extents_where : (ArrayDecl → Bool) → List ArrayDecl → List (List ℤ)
extents_where passes [] = []
extents_where passes (array ∷ arrays) =
    if passes array then array.extents ∷ extents_where passes arrays
    else extents_where passes arrays

-- the input arrays and the output arrays in declaration order: their numbers and their extents
abbrev pub input_numbers : List ArrayDecl → List ℕ
input_numbers arrays = numbers_from (λ array. is_input array.kind) 0 arrays

abbrev pub output_numbers : List ArrayDecl → List ℕ
output_numbers arrays = numbers_from (λ array. is_output array.kind) 0 arrays

-- the extents of the arrays that have a source
abbrev pub input_extents : List ArrayDecl → List (List ℤ)
input_extents arrays = extents_where (λ array. is_input array.kind) arrays

-- the extents of the arrays that have a sink
abbrev pub output_extents : List ArrayDecl → List (List ℤ)
output_extents arrays = extents_where (λ array. is_output array.kind) arrays

-- Statements

abbrev pub depth_of : Statement → ℕ
depth_of s = length s.loops

-- a number within the range of coefficients and constants, 4294967296 and below in size
abbrev pub is_moderate : ℤ → Bool
is_moderate c = int_le (negsuc 4294967295) c && int_le c (pos 4294967296)

-- a form over this many variables with moderate numbers
abbrev pub form_fits : ℕ → Form → Bool
form_fits depth form =
    (length form.coefs == depth) && is_moderate form.constant && list_all is_moderate form.coefs

-- an access to an array that exists, with as many subscripts as the array has extents
abbrev pub access_fits : List ArrayDecl → ℕ → Access → Bool
access_fits arrays depth access =
    option_map_or (λ array. length access.subscripts == length array.extents)
    (slice_get arrays access.array) false
    && list_all (form_fits depth) access.subscripts

abbrev pub gives_step : Expr-F Bool → Bool
gives_step (Const c) = false
gives_step (Var v) = false
gives_step (Read k) = false
gives_step Given = true
gives_step (Add a b) = a || b
gives_step (Sub a b) = a || b
gives_step (Mul a b) = a || b
gives_step (Min a b) = a || b
gives_step (Max a b) = a || b
gives_step (Neg a) = a

-- whether an expression names the input value
abbrev pub uses_given : Expr → Bool
uses_given = fold-Expr Bool gives_step

-- an assignment writes and names no input value
abbrev pub assigns : Role → Statement → Bool
assigns (role.Source a) s = true
assigns role.Assign s = is_some s.write && not (uses_given s.expr)
assigns (role.Sink a) s = true

-- of these facts those that speak of one statement
abbrev pub statement_fits : List ArrayDecl → Statement → Bool
statement_fits arrays s =
    nat_le (depth_of s) 6 && nat_le (length s.reads) 8 && nat_le (length s.rows) 32
    && list_all (form_fits (depth_of s)) s.rows
    && option_map_or (access_fits arrays (depth_of s)) s.write true
    && list_all (access_fits arrays (depth_of s)) s.reads
    && uses_only (depth_of s) (length s.reads) s.expr
    && assigns s.role s

-- the cell of array a whose subscripts are the loop values
abbrev pub own_cell : ℕ → ℕ → Access
own_cell depth a =
    record { array = a; subscripts = map (variable_form depth) (range_with_len 0 depth) }

-- A statement with the accesses and the expression of its role: a source reads nothing and writes the
-- input value to its own cell, and a sink writes nothing and reads its own cell. An assignment may have
-- any.
abbrev pub in_role : Role → Statement → Statement
in_role (role.Source a) s =
    record s { write = Some (own_cell (depth_of s) a); reads = []; expr = expr.Given }
in_role role.Assign s = s
in_role (role.Sink a) s =
    record s { write = None; reads = own_cell (depth_of s) a ∷ []; expr = expr.Read 0 }

-- the roles of all statements: the sources, this many assignments, the sinks
abbrev pub roles_of : List ArrayDecl → ℕ → List Role
roles_of arrays assignments =
    map role.Source (input_numbers arrays)
    ++ (replicate assignments role.Assign ++ map role.Sink (output_numbers arrays))

-- The body

-- a step within 1 to 2147483647; a loop of a step above 1 has exactly one lower form
abbrev pub step_fits : List Form → ℤ → Bool
step_fits lower step =
    int_le (pos 1) step && int_le step (pos 2147483647)
    && (int_eq step (pos 1) || (length lower == 1))

-- A part of the body inside so many loops: its loops have bounds and steps, its forms fit, and no more
-- than 6 loops stand round anything.
abbrev pub forms_fit_step : Node-F (ℕ → Bool) → ℕ → Bool
forms_fit_step (Loop id lower upper step body) depth =
    nat_lt depth 6 && nat_lt 0 (length lower) && nat_lt 0 (length upper)
    && list_all (form_fits depth) lower && list_all (form_fits depth) upper
    && step_fits lower step && list_all (λ part. part (depth + 1)) body
forms_fit_step (Guard rows body) depth =
    list_all (form_fits depth) rows && list_all (λ part. part depth) body
forms_fit_step (Assign s) depth = true

abbrev pub forms_fit : Node → ℕ → Bool
forms_fit = fold-Node (ℕ → Bool) forms_fit_step

-- of these facts those that speak of the forms of the body
abbrev pub all_forms_fit : List Node → ℕ → Bool
all_forms_fit parts depth = list_all (λ fits. fits depth) (map forms_fit parts)

-- the numbers of the loops, in the order of the text
abbrev pub loops_step : Node-F (List ℕ) → List ℕ
loops_step (Loop id lower upper step body) = id ∷ flat_map (λ part. part) body
loops_step (Guard rows body) = flat_map (λ part. part) body
loops_step (Assign s) = []

abbrev pub loops_of : Node → List ℕ
loops_of = fold-Node (List ℕ) loops_step

abbrev pub all_loops : List Node → List ℕ
all_loops parts = flat_map (λ part. part) (map loops_of parts)

-- a statement's number where it stands in the body, with the loops and rows round it, outermost
-- first
pub record Place : Type 0 where
  pub statement : ℕ
  pub loops : List ℕ
  pub rows : List Form

-- the row `v - lower >= 0` of a lower form of a loop of step 1, whose variable v comes after those of
-- the form
abbrev pub lower_row : Form → Form
lower_row form =
    let negated = form_product (negsuc 0) form in
    record negated { coefs = negated.coefs ++ pos 1 ∷ [] }

-- the row `upper - v >= 0` of an upper form
abbrev pub upper_row : Form → Form
upper_row form = record form { coefs = form.coefs ++ negsuc 0 ∷ [] }

-- the row `upper - lower - step * turn >= 0` of an upper form of a loop of a step above 1, whose
-- variable is the turn
abbrev pub turn_row : ℤ → Form → Form → Form
turn_row step lower upper =
    let difference = form_sum upper (form_product (negsuc 0) lower) in
    record difference { coefs = difference.coefs ++ neg_ℤ step ∷ [] }

-- The rows of a loop inside so many loops. With step 1: those of its lower forms, then those of its
-- upper forms. With a step above 1: `turn >= 0`, then for its one lower form the row of each upper form.
abbrev pub bound_rows : ℕ → List Form → List Form → ℤ → List Form
bound_rows depth lower upper step =
    if int_eq step (pos 1) then map lower_row lower ++ map upper_row upper
    else variable_form (depth + 1) depth ∷ flat_map (λ form. map (turn_row step form) upper) lower

-- where the statements of a part of the body stand, given the loops and rows round the part
abbrev pub Places : Type 0
Places = List ℕ → List Form → List Place

abbrev pub in_each : List Places → Places
in_each parts loops rows = flat_map (λ part. part loops rows) parts

abbrev pub places_step : Node-F Places → Places
places_step (Loop id lower upper step body) loops rows =
    in_each body (loops ++ id ∷ []) (rows ++ bound_rows (length loops) lower upper step)
places_step (Guard guards body) loops rows = in_each body loops (rows ++ guards)
places_step (Assign s) loops rows =
    record { statement = s; loops = loops; rows = map (widened_form (length loops)) rows } ∷ []

abbrev pub places_of : Node → Places
places_of = fold-Node Places places_step

abbrev pub all_places : List Node → Places
all_places parts = in_each (map places_of parts)

-- the statements with the loops and rows that they say, the first statement having number k
abbrev pub said_from : ℕ → List Statement → List Place
said_from k [] = []
said_from k (s ∷ statements) =
    record { statement = k; loops = s.loops; rows = s.rows } ∷ said_from (k + 1) statements

-- the loops round sources or sinks of arrays with these extents; the first loop and the first statement
-- have these numbers
abbrev pub array_loops : ℕ → ℕ → List (List ℤ) → List Node
array_loops id s [] = []
array_loops id s (extents ∷ rest) =
    loops_round id 0 extents s ∷ array_loops (id + length extents) (s + 1) rest

-- the parts of the body between the first and the last so many
abbrev pub between : ℕ → ℕ → List Node → List Node
between first last body = take (length body - (first + last)) (drop first body)

-- the body with the loops of the sources before its other parts, and those of the sinks after them
abbrev pub framed : List ArrayDecl → List Statement → List Node → List Node
framed arrays statements body =
    let inputs = input_extents arrays in
    let outputs = output_extents arrays in
    array_loops 0 0 inputs
    ++ (between (length inputs) (length outputs) body
    ++ array_loops (length (all_loops body) - sum_by length outputs)
    (length statements - length outputs) outputs)

-- the facts that every nest has: numbers in range, statements in order, loops and rows as they stand round them,
-- limits
pub record IsWellFormed (arrays : List ArrayDecl) (statements : List Statement)
    (body : List Node) : Type 0 where
  pub few_statements : length statements ≤ 64
  pub names_differ : IsTrue (all_differ (map (λ array. array.name) arrays))
  pub few_extents : IsTrue (list_all (λ array. nat_le (length array.extents) 6) arrays)
  -- sources in declaration order, assignments, sinks in declaration order
  pub roles_in_order : map (λ s. s.role) statements
      ≡ roles_of arrays
      (length statements - (length (input_numbers arrays) + length (output_numbers arrays)))
  pub in_roles : map (λ s. in_role s.role s) statements ≡ statements
  pub statements_fit : IsTrue (list_all (statement_fits arrays) statements)
  -- each statement stands once in the body, in ascending order, in the loops and rows that it says
  pub placed : all_places body [] [] ≡ said_from 0 statements
  pub loops_numbered : all_loops body ≡ range_with_len 0 (length (all_loops body))
  pub forms_fit : IsTrue (all_forms_fit body 0)
  pub ends_framed : body ≡ framed arrays statements body
