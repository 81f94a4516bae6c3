-- Two worked nests with a step, computed from the definitions.
use Rattle.std.proofs.Common.{◌≡◌, ℕ, pos, negsuc, List, [], ◌∷◌, refl, lit≤}
use Rattle.std.specs.Prelude.{codes, Some, None}
use Rattle.affine_core.specs.declared.form.Form.{Form}
use Rattle.wrap_expr.specs.declared.expr.Expr.{Expr, Const, Var, Read, Given, Add, Mul}
use Rattle.sanlp.specs.declared.nest.Access.{Access}
use Rattle.sanlp.specs.declared.nest.ArrayDecl.{ArrayDecl}
use Rattle.sanlp.specs.declared.nest.Inputs.{Inputs}
use Rattle.sanlp.specs.declared.nest.Kind.TheVariants as kind
use Rattle.sanlp.specs.declared.nest.Nest.{Nest}
use Rattle.sanlp.specs.declared.nest.Node.{Node, Loop, Assign}
use Rattle.sanlp.specs.declared.nest.Point.{Point}
use Rattle.sanlp.specs.declared.nest.Role.TheVariants as role
use Rattle.sanlp.specs.declared.nest.Statement.{Statement}
use Rattle.sanlp.specs.Examples.{loop_to, number, rows_to}
use Rattle.sanlp.specs.Loops.{loop_values}
use Rattle.sanlp.specs.Points.{points_of}
use Rattle.sanlp.specs.Trace.{trace}
use Rattle.sanlp.specs.WellFormed.{IsWellFormed}
use Rattle.sanlp.specs.Writers.{last_before, values_before}
use Rattle.sanlp.proofs.Folds.{fold_add, fold_add_at, fold_assign, fold_assign_at, fold_assign_at_both, fold_const}
use Rattle.sanlp.proofs.Folds.{fold_const_at, fold_given, fold_given_at, fold_loop, fold_loop_at, fold_loop_at_both}
use Rattle.sanlp.proofs.Folds.{fold_mul, fold_mul_at, fold_read, fold_read_at, fold_var, fold_var_at}

-- the variable of the loop
abbrev turn : Form
turn = record { constant = pos 0; coefs = pos 1 ∷ [] }

-- in x[5]; out y[5]; for (i = 0; i < 5; i += 2) y[i] = x[i];
abbrev x_and_y : List ArrayDecl
x_and_y =
    record { name = codes "x"; kind = kind.Input; extents = pos 5 ∷ [] }
    ∷ record { name = codes "y"; kind = kind.Output; extents = pos 5 ∷ [] } ∷ []

abbrev cell : ℕ → Form → Access
cell a subscript = record { array = a; subscripts = subscript ∷ [] }

-- the value 2 t that i has in turn t
abbrev doubled : Form
doubled = record { constant = pos 0; coefs = pos 2 ∷ [] }

abbrev copies : List Statement
copies =
    record {
      role = role.Source 0;
      loops = 0 ∷ [];
      rows = rows_to (pos 4);
      write = Some (cell 0 turn);
      reads =
          [];
      expr = Given;
    }
    ∷ record {
      role = role.Assign;
      loops = 1 ∷ [];
      rows = record { constant = pos 0; coefs = pos 1 ∷ [] }
          ∷ record { constant = pos 4; coefs = negsuc 1 ∷ [] } ∷ [];
      write = Some (cell 1 doubled);
      reads = cell 0 doubled
          ∷ [];
      expr = Read 0;
    }
    ∷ record {
      role = role.Sink 1;
      loops = 2 ∷ [];
      rows = rows_to (pos 4);
      write = None;
      reads = cell 1 turn
          ∷ [];
      expr = Read 0;
    } ∷ []

abbrev copies_body : List Node
copies_body =
    loop_to 0 (pos 4) (Assign 0 ∷ []) ∷ Loop 1 (number (pos 0) ∷ []) (number (pos 4) ∷ []) (pos 2)
    (Assign 1 ∷ []) ∷ loop_to 2 (pos 4) (Assign 2 ∷ []) ∷ []

copies_well_formed : IsWellFormed x_and_y copies copies_body
copies_well_formed = record {
  few_statements = lit≤ tt;
  names_differ = refl;
  few_extents = refl;
  roles_in_order = refl;
  in_roles = refl;
  statements_fit = simp (fold_read, fold_given);
  placed = simp (fold_loop_at_both, fold_assign_at_both);
  loops_numbered = simp (fold_loop, fold_assign);
  forms_fit = simp (fold_loop_at, fold_assign_at);
  ends_framed = simp (fold_loop, fold_assign);
}

abbrev stepped_copies : Nest
stepped_copies = record { arrays = x_and_y; statements = copies; body = copies_body; well_formed = copies_well_formed }

-- the assignment has three points: the turns 0, 1 and 2
stepped_points : points_of stepped_copies
    ≡ ((pos 0 ∷ []) ∷ (pos 1 ∷ []) ∷ (pos 2 ∷ []) ∷ (pos 3 ∷ []) ∷ (pos 4 ∷ []) ∷ [])
    ∷ ((pos 0 ∷ []) ∷ (pos 1 ∷ []) ∷ (pos 2 ∷ []) ∷ [])
    ∷ ((pos 0 ∷ []) ∷ (pos 1 ∷ []) ∷ (pos 2 ∷ []) ∷ (pos 3 ∷ []) ∷ (pos 4 ∷ []) ∷ []) ∷ []
unfolding points_of trace
stepped_points = simp (fold_loop_at, fold_assign_at)

abbrev one_to_five : Inputs
one_to_five = record { arrays = (pos 1 ∷ pos 2 ∷ pos 3 ∷ pos 4 ∷ pos 5 ∷ []) ∷ [] ∷ [] }

abbrev at : ℕ → ℕ → Point
at s i = record { statement = s; at = pos i ∷ [] }

abbrev copies_points : List Point
copies_points =
    at 0 0 ∷ at 0 1 ∷ at 0 2 ∷ at 0 3 ∷ at 0 4 ∷ at 1 0 ∷ at 1 1 ∷ at 1 2 ∷ at 2 0 ∷ at 2 1 ∷ at 2 2 ∷ at 2 3 ∷ at 2 4
    ∷ []

copies_trace : trace stepped_copies ≡ copies_points
unfolding trace
copies_trace = simp (fold_loop_at, fold_assign_at)

-- y[0], y[2] and y[4] are those of x, and the others are 0
copies_values : values_before stepped_copies one_to_five copies_points 13
    ≡ pos 1 ∷ pos 2 ∷ pos 3 ∷ pos 4 ∷ pos 5 ∷ pos 1 ∷ pos 3 ∷ pos 5 ∷ pos 1 ∷ pos 0 ∷ pos 3 ∷ pos 0 ∷ pos 5 ∷ []
unfolding values_before last_before
copies_values = simp (fold_read_at, fold_given_at)

-- out y; for (i = 1; i <= 8; i += 3) y = y + i;
abbrev just_y : List ArrayDecl
just_y = record { name = codes "y"; kind = kind.Output; extents = [] } ∷ []

abbrev scalar_y : Access
scalar_y = record { array = 0; subscripts = [] }

-- the value 1 + 3 t that i has in turn t
abbrev tripled : Expr
tripled = Add (Const (pos 1)) (Mul (Const (pos 3)) (Var 0))

abbrev adds : List Statement
adds =
    record {
      role = role.Assign;
      loops = 0 ∷ [];
      rows = turn ∷ record { constant = pos 7; coefs = negsuc 2 ∷ [] }
          ∷ [];
      write = Some scalar_y;
      reads = scalar_y ∷ [];
      expr = Add (Read 0) tripled;
    }
    ∷ record { role = role.Sink 0; loops = []; rows = []; write = None; reads = scalar_y ∷ []; expr = Read 0 } ∷ []

abbrev adds_body : List Node
adds_body = Loop 0 (number (pos 1) ∷ []) (number (pos 8) ∷ []) (pos 3) (Assign 0 ∷ []) ∷ Assign 1 ∷ []

adds_well_formed : IsWellFormed just_y adds adds_body
adds_well_formed = record {
  few_statements = lit≤ tt;
  names_differ = refl;
  few_extents = refl;
  roles_in_order = refl;
  in_roles = refl;
  statements_fit = simp (fold_add, fold_const, fold_mul, fold_read, fold_var);
  placed = simp (fold_loop_at_both, fold_assign_at_both);
  loops_numbered = simp (fold_loop, fold_assign);
  forms_fit = simp (fold_loop_at, fold_assign_at);
  ends_framed = refl;
}

abbrev stepped_sum : Nest
stepped_sum = record { arrays = just_y; statements = adds; body = adds_body; well_formed = adds_well_formed }

abbrev sum_points : List Point
sum_points = at 0 0 ∷ at 0 1 ∷ at 0 2 ∷ record { statement = 1; at = [] } ∷ []

sum_trace : trace stepped_sum ≡ sum_points
unfolding trace
sum_trace = simp (fold_loop_at, fold_assign_at)

-- 1, 1 + 4 and 5 + 7, and what is printed
sum_values : values_before stepped_sum (record { arrays = [] ∷ [] }) sum_points 4 ≡ pos 1 ∷ pos 5 ∷ pos 12 ∷ pos 12 ∷ []
unfolding values_before last_before
sum_values = simp (fold_add_at, fold_const_at, fold_mul_at, fold_read_at, fold_var_at)

-- a loop from -7 to 2 by 4, one with no turns, one of the greatest step, and one with two upper forms
from_below : loop_values (number (negsuc 6) ∷ []) (number (pos 2) ∷ []) (pos 4) [] ≡ pos 0 ∷ pos 1 ∷ pos 2 ∷ []
from_below = refl

no_turns : loop_values (number (pos 3) ∷ []) (number (pos 2) ∷ []) (pos 2) [] ≡ []
no_turns = refl

greatest_step : loop_values (number (negsuc 2) ∷ []) (number (pos 9) ∷ []) (pos 2147483647) [] ≡ pos 0 ∷ []
greatest_step = refl

two_uppers : loop_values (number (pos 0) ∷ []) (number (pos 9) ∷ number (pos 4) ∷ []) (pos 2) []
    ≡ pos 0 ∷ pos 1 ∷ pos 2 ∷ []
two_uppers = refl
