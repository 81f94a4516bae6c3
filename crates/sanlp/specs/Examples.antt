-- Two worked nests, for tests.
use Rattle.std.specs.Prelude.{ℕ, ℤ, pos, negsuc, List, [], ◌∷◌, codes, Some, None}
use Rattle.affine_core.specs.declared.form.Form.{Form}
use Rattle.wrap_expr.specs.declared.expr.Expr.{Expr, Const, Var, Read, Add}
use Rattle.sanlp.specs.declared.nest.Access.{Access}
use Rattle.sanlp.specs.declared.nest.ArrayDecl.{ArrayDecl}
use Rattle.sanlp.specs.declared.nest.Kind.TheVariants as kind
use Rattle.sanlp.specs.declared.nest.Node.{Node, Loop, Assign}
use Rattle.sanlp.specs.declared.nest.Role.TheVariants as role
use Rattle.sanlp.specs.declared.nest.Statement.{Statement}

-- the number c, as a form without variables
abbrev pub number : ℤ → Form
number c = record { constant = c; coefs = [] }

-- i >= 0 and last - i >= 0
abbrev pub rows_to : ℤ → List Form
rows_to last =
    record { constant = pos 0; coefs = pos 1 ∷ [] }
    ∷ record { constant = last; coefs = negsuc 0 ∷ [] } ∷ []

-- a loop from 0 to `last`
abbrev pub loop_to : ℕ → ℤ → List Node → Node
loop_to id last body = Loop id (number (pos 0) ∷ []) (number last ∷ []) (pos 1) body

-- the cell v, and the cell y[i]
abbrev pub scalar : Access
scalar = record { array = 1; subscripts = [] }

abbrev pub element : Access
element = record { array = 0; subscripts = record { constant = pos 0; coefs = pos 1 ∷ [] } ∷ [] }

-- out y[extent]; var v;
abbrev pub y_and_v : ℤ → List ArrayDecl
y_and_v extent =
    record { name = codes "y"; kind = kind.Output; extents = extent ∷ [] }
    ∷ record { name = codes "v"; kind = kind.Var; extents = [] } ∷ []

-- v = .., with these reads
abbrev pub sets_v : ℤ → List Access → Expr → Statement
sets_v last reads value =
    record {
      role = role.Assign;
      loops = 0 ∷ [];
      rows = rows_to last;
      write = Some scalar;
      reads = reads;
      expr = value;
    }

-- y[i] = v
abbrev pub sets_y : ℤ → Statement
sets_y last =
    record {
      role = role.Assign;
      loops = 0 ∷ [];
      rows = rows_to last;
      write = Some element;
      reads = scalar ∷ [];
      expr = Read 0;
    }

abbrev pub sink_of_y : ℤ → Statement
sink_of_y last =
    record {
      role = role.Sink 0;
      loops = 1 ∷ [];
      rows = rows_to last;
      write = None;
      reads = element ∷ [];
      expr = Read 0;
    }

-- out y[4]; var v; for (i = 0; i < 4; i++) { v = v + i; y[i] = v; }
abbrev pub sums_statements : List Statement
sums_statements =
    sets_v (pos 3) (scalar ∷ []) (Add (Read 0) (Var 0)) ∷ sets_y (pos 3) ∷ sink_of_y (pos 3) ∷ []

abbrev pub sums_body : List Node
sums_body = loop_to 0 (pos 3) (Assign 0 ∷ Assign 1 ∷ []) ∷ loop_to 1 (pos 3) (Assign 2 ∷ []) ∷ []

-- out y[3]; var v; for (i = 0; i < 3; i++) { y[i] = v; v = i; v = v + 10; }
abbrev pub delayed_statements : List Statement
delayed_statements =
    sets_y (pos 2) ∷ sets_v (pos 2) [] (Var 0)
    ∷ sets_v (pos 2) (scalar ∷ []) (Add (Read 0) (Const (pos 10))) ∷ sink_of_y (pos 2) ∷ []

abbrev pub delayed_body : List Node
delayed_body =
    loop_to 0 (pos 2) (Assign 0 ∷ Assign 1 ∷ Assign 2 ∷ []) ∷ loop_to 1 (pos 2) (Assign 3 ∷ []) ∷ []
