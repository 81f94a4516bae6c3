-- The systems of the leaves of a tree, and their contexts.
use Rattle.std.specs.Prelude.{◌≡◌, ℕ, ◌+◌, ◌==◌, ℤ, List, [], ◌∷◌, ◌++◌, map, length, take, drop, Option, Some, None, slice_get, if◌then◌else◌}
use Rattle.std.specs.List.{flat_map}
use Rattle.std.specs.Option.{option_and_then, option_map}
use Rattle.affine_core.specs.declared.form.Form.{Form}
use Rattle.affine_core.specs.Affine.{variable_form}
use Rattle.sanlp.specs.declared.nest.Access.{Access}
use Rattle.sanlp.specs.declared.nest.Nest.{Nest}
use Rattle.sanlp.specs.declared.nest.Statement.{Statement}
use Rattle.source_tree.specs.Places.{variables, at_place, domain_rows, cell_rows, differ_rows, before_rows, same_rows}
use Rattle.source_tree.specs.Rows.{RowExpr, Take, Plus, Times, RowSystem, number, minus, one_less, below_zero, equal_rows}

-- a read or a write: its statement's number, the statement and the access
pub record Occurrence : Type 0 where
  pub number : ℕ
  pub statement : Statement
  pub access : Access

-- read k of statement s, if there is one
abbrev pub read_at : Nest → ℕ → ℕ → Option Occurrence
read_at n s k =
    option_and_then
    (λ st. option_map (λ access. record { number = s; statement = st; access = access })
    (slice_get st.reads k))
    (slice_get n.statements s)

-- a statement's write, if it writes the array
abbrev pub write_to : ℕ → ℕ → Statement → Option Occurrence
write_to array u s =
    option_and_then
    (λ access. if access.array == array
    then Some (record { number = u; statement = s; access = access }) else None)
    s.write

-- the write of the statement that a leaf names, if it exists and writes the read's array
abbrev pub named_write : Nest → Occurrence → ℕ → Option Occurrence
named_write n r w = option_and_then (write_to r.access.array w) (slice_get n.statements w)

abbrev pub with_write : Option Occurrence → List Occurrence → List Occurrence
with_write None more = more
with_write (Some write) more = write ∷ more

-- the writes of these statements to the array, ascending; the first statement has number u
abbrev pub writes_from : ℕ → ℕ → List Statement → List Occurrence
writes_from array u [] = []
writes_from array u (s ∷ statements) =
    with_write (write_to array u s) (writes_from array (u + 1) statements)

-- the writes of the read's array
abbrev pub array_writes : Nest → Occurrence → List Occurrence
array_writes n r = writes_from r.access.array 0 n.statements

-- A context: so many variables, and rows over them. The first variables are the reader's loops.
pub record Context : Type 0 where
  pub vars : ℕ
  pub rows : List RowExpr

abbrev pub more_rows : Context → List RowExpr → Context
more_rows c rows = record { vars = c.vars; rows = c.rows ++ rows }

abbrev pub one_more : Context → List RowExpr → Context
one_more c rows = record { vars = c.vars + 1; rows = c.rows ++ rows }

-- the context of a whole tree: the reader's domain rows
abbrev pub root_context : Occurrence → Context
root_context r = record { vars = length r.statement.loops; rows = map Take r.statement.rows }

-- the contexts below a Test: form >= 0, and -form - 1 >= 0
abbrev pub test_yes : Context → Form → Context
test_yes c form = more_rows c (Take form ∷ [])

abbrev pub test_no : Context → Form → Context
test_no c form = more_rows c (below_zero (Take form) ∷ [])

-- d times the quotient, which is the variable of this number
abbrev pub multiple : ℤ → ℕ → RowExpr
multiple d q = Times d (Take (variable_form (q + 1) q))

-- form - d q >= 0 and d q - form >= 0
abbrev pub divided_rows : ℕ → Form → ℤ → List RowExpr
divided_rows q form d = equal_rows (Take form) (multiple d q)

-- form - d q - 1 >= 0 and d q + d - 1 - form >= 0
abbrev pub undivided_rows : ℕ → Form → ℤ → List RowExpr
undivided_rows q form d =
    one_less (minus (Take form) (multiple d q))
    ∷ minus (one_less (Plus (multiple d q) (number d))) (Take form) ∷ []

-- the contexts below a Divides, with one variable more, which is the quotient
abbrev pub divides_yes : Context → Form → ℤ → Context
divides_yes c form d = one_more c (divided_rows c.vars form d)

abbrev pub divides_no : Context → Form → ℤ → Context
divides_no c form d = one_more c (undivided_rows c.vars form d)

-- for which writers and levels of order a tree is checked: for all, or for one of each
pub data Which : Type 0 where
  every : Which
  just : ℕ → ℕ → Which

-- of the levels of writer u, those for which the tree is checked
abbrev pub chosen_levels : {X : Type 0} → Which → ℕ → List X → List X
chosen_levels every u levels = levels
chosen_levels (just w p) u levels = if u == w then take 1 (drop p levels) else []

-- whether a leaf may name this statement
abbrev pub MayName : Which → ℕ → Type 0
MayName every w = Unit {0}
MayName (just u p) w = w ≡ u

-- the reader's loop values
abbrev pub reader_place : Occurrence → List Form
reader_place r = variables 0 (length r.statement.loops)

-- the loop values of a writer's point j, whose variables follow those of the context
abbrev pub writer_place : Context → Occurrence → List Form
writer_place c u = variables c.vars (length u.statement.loops)

abbrev pub with_rows : Context → List RowExpr → RowSystem
with_rows c more = record { vars = c.vars; rows = c.rows ++ more }

-- A context with the rows that a point j of writer u writes the read's cell: its domain rows and the cell
-- rows.
abbrev pub with_write_at : Occurrence → Context → Occurrence → Context
with_write_at r c u = record {
  vars = c.vars + length u.statement.loops;
  rows = c.rows ++ (domain_rows u.statement.rows (writer_place c u)
      ++ cell_rows u.access.subscripts r.access.subscripts (writer_place c u));
}

-- The systems of a write of u to the read's cell at a point j before the read: one for each level p of
-- that order and each of the further orders q.
abbrev pub write_systems : Occurrence → Which → Context → (Occurrence → List (List RowExpr))
    → Occurrence → List RowSystem
write_systems r which c further u =
    flat_map (λ p. map (λ q. with_rows (with_write_at r c u) (p ++ q)) (further u))
    (chosen_levels which u.number
    (before_rows u.number u.statement (writer_place c u) r.number r.statement (reader_place r)))

-- the systems of a Zero leaf: for each writer and level, a write before the read
abbrev pub zero_systems : Nest → Occurrence → Which → Context → List RowSystem
zero_systems n r which c = flat_map (write_systems r which c (λ u. [] ∷ [])) (array_writes n r)

-- where the writer is the reader's statement: its point is the reader's
abbrev pub same_systems : Occurrence → Context → Occurrence → List Form → List RowSystem
same_systems r c w place =
    if w.number == r.number then with_rows c (same_rows (reader_place r) place) ∷ [] else []

-- the systems of a Writer leaf: its point is outside the domain of its statement
abbrev pub outside_systems : Context → Occurrence → List Form → List RowSystem
outside_systems c w place =
    map (λ row. with_rows c (below_zero (at_place row place) ∷ [])) w.statement.rows

-- it writes another cell
abbrev pub cell_systems : Occurrence → Context → Occurrence → List Form → List RowSystem
cell_systems r c w place =
    map (λ row. with_rows c (row ∷ [])) (differ_rows w.access.subscripts r.access.subscripts place)

-- it is not before the read
abbrev pub after_systems : Occurrence → Context → Occurrence → List Form → List RowSystem
after_systems r c w place =
    map (with_rows c) (before_rows r.number r.statement (reader_place r) w.number w.statement place)
    ++ same_systems r c w place

-- there is a write between its point and the read
abbrev pub between_systems : Nest → Occurrence → Which → Context → Occurrence → List Form
    → List RowSystem
between_systems n r which c w place =
    flat_map
    (write_systems r which c
    (λ u. before_rows w.number w.statement place u.number u.statement (writer_place c u)))
    (array_writes n r)

abbrev pub writer_systems : Nest → Occurrence → Which → Context → Occurrence → List Form
    → List RowSystem
writer_systems n r which c w place =
    outside_systems c w place
    ++ (cell_systems r c w place
    ++ (after_systems r c w place ++ between_systems n r which c w place))

-- the system of a Dead leaf: its context
abbrev pub dead_systems : Context → List RowSystem
dead_systems c = record { vars = c.vars; rows = c.rows } ∷ []
