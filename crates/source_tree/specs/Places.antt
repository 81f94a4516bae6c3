-- Rows about places. A place is a list of forms, one for each loop of a statement: their values are an iteration vector.
use Rattle.std.specs.Prelude.{ℕ, zero, suc, ◌+◌, ℤ, Bool, nat_lt, List, [], ◌∷◌, ◌++◌, map, if◌then◌else◌}
use Rattle.affine_core.specs.declared.form.Form.{Form}
use Rattle.affine_core.specs.Affine.{variable_form}
use Rattle.sanlp.specs.declared.nest.Statement.{Statement}
use Rattle.sanlp.specs.Order.{common_loops}
use Rattle.source_tree.specs.Rows.{RowExpr, Take, Plus, Times, number, one_less, minus, equal_rows}

-- the variables from number i on, so many
abbrev pub variables : ℕ → ℕ → List Form
variables i zero = []
variables i (suc k) = variable_form (i + 1) i ∷ variables (i + 1) k

-- each coefficient times the place's form, added in order to what comes before
abbrev pub plus_terms : RowExpr → List ℤ → List Form → RowExpr
plus_terms sum [] place = sum
plus_terms sum (c ∷ cs) [] = sum
plus_terms sum (c ∷ cs) (form ∷ place) = plus_terms (Plus sum (Times c (Take form))) cs place

-- a form over a statement's loops, at a place: its constant, and then each coefficient times the place's form
abbrev pub at_place : Form → List Form → RowExpr
at_place form place = plus_terms (number form.constant) form.coefs place

-- a place is in a domain
abbrev pub domain_rows : List Form → List Form → List RowExpr
domain_rows rows place = map (λ row. at_place row place) rows

-- Each subscript of a write at a place is that of a read. The forms of the read are over the reader's
-- loops, which are the first variables.
abbrev pub cell_rows : List Form → List Form → List Form → List RowExpr
cell_rows [] reads place = []
cell_rows (write ∷ writes) [] place = []
cell_rows (write ∷ writes) (read ∷ reads) place =
    equal_rows (at_place write place) (Take read) ++ cell_rows writes reads place

-- a subscript of a write at a place differs from that of a read: for each, that it is above, and that it is below
abbrev pub differ_rows : List Form → List Form → List Form → List RowExpr
differ_rows [] reads place = []
differ_rows (write ∷ writes) [] place = []
differ_rows (write ∷ writes) (read ∷ reads) place =
    one_less (minus (at_place write place) (Take read))
    ∷ one_less (minus (Take read) (at_place write place)) ∷ differ_rows writes reads place

-- The order rows of one place before another, for each level from 0 on, where c loops are common: at a
-- level below c the loops above are equal and that loop is earlier. At level c all of them are equal,
-- and the level exists where the first statement's number is less.
abbrev pub order_rows : ℕ → Bool → List Form → List Form → List (List RowExpr)
order_rows zero less a b = if less then [] ∷ [] else []
order_rows (suc c) less [] b = []
order_rows (suc c) less (v ∷ a) [] = []
order_rows (suc c) less (v ∷ a) (w ∷ b) =
    (one_less (minus (Take w) (Take v)) ∷ [])
    ∷ map (λ rows. equal_rows (Take v) (Take w) ++ rows) (order_rows c less a b)

-- place a of statement u stands before place b of statement s: the order rows of each level
abbrev pub before_rows : ℕ → Statement → List Form → ℕ → Statement → List Form → List (List RowExpr)
before_rows u su a s ss b = order_rows (common_loops su.loops ss.loops) (nat_lt u s) a b

-- two places are equal in all loops
abbrev pub same_rows : List Form → List Form → List RowExpr
same_rows [] b = []
same_rows (v ∷ a) [] = []
same_rows (v ∷ a) (w ∷ b) = equal_rows (Take v) (Take w) ++ same_rows a b
