-- The stride class of a read: what its array's writers write, and where, is told by differences of loop variables and by
-- multiples of them.
use Rattle.std.specs.Prelude.{◌≡◌, ◌≤◌, ◌==◌, ◌&&◌, ◌||◌, ℕ, ℤ, pos, negsuc, Bool, not, is_some, nat_lt, nat_le, unsigned_abs, Option, Some, IsTrue}
use Rattle.std.specs.List.{count_by, find, list_all, sum_by}
use Rattle.std.specs.Ordering.{int_eq}
use Rattle.affine_core.specs.declared.form.Form.{Form}
use Rattle.tree_graphs.specs.Class.{count_of, IsInDifferenceClass}
use Rattle.sanlp.specs.declared.nest.Nest.{Nest}
use Rattle.source_tree.specs.Systems.{Occurrence, array_writes, read_at}

-- how many variables have a coefficient other than 0
abbrev pub variable_count : Form → ℕ
variable_count form = count_by (λ c. not (int_eq c (pos 0))) form.coefs

-- a constant, or one variable with a coefficient other than 0, plus a constant
abbrev pub is_single : Form → Bool
is_single form = nat_le (variable_count form) 1

-- two variables, with coefficients 1 and -1
abbrev pub is_pair : Form → Bool
is_pair form =
    (variable_count form == 2)
    && ((count_of (pos 1) form == 1) && (count_of (negsuc 0) form == 1))

-- the coefficient outside -1 to 1, if there is one
abbrev pub stride_of : Form → Option ℤ
stride_of form = find (λ c. nat_lt 1 (unsigned_abs c)) form.coefs

-- a coefficient lies outside -1 to 1
abbrev pub is_stride : Form → Bool
is_stride form = is_some (stride_of form)

-- Each subscript of the write is a constant, or one loop variable with a coefficient other than 0 plus a
-- constant. Each domain row of its statement has no variable, one variable with any coefficient, or two
-- variables with coefficients 1 and -1.
abbrev pub writes_strides : Occurrence → Bool
writes_strides w =
    list_all is_single w.access.subscripts
    && list_all (λ row. is_single row || is_pair row) w.statement.rows

-- how many subscripts of the write have a coefficient outside -1 to 1
abbrev pub stride_count : Occurrence → ℕ
stride_count w = count_by is_stride w.access.subscripts

-- Read k of statement s is there, and so does each write of its array; over all these writes together, at most
-- 6 subscripts have a coefficient outside -1 to 1.
pub record IsInStrideClass (n : Nest) (s k : ℕ) : Type 0 where
  pub read : Occurrence
  pub is_read : read_at n s k ≡ Some read
  pub each : IsTrue (list_all writes_strides (array_writes n read))
  pub few : sum_by stride_count (array_writes n read) ≤ 6

-- a read of the difference class is in the stride class
abbrev pub HoldsDifferences : Type 0
HoldsDifferences = (n : Nest) (s k : ℕ) → IsInDifferenceClass n s k → IsInStrideClass n s k
