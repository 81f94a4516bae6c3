-- Each loop round a statement is bounded above by one of the statement's rows.
use Rattle.std.specs.Prelude.{◌≡◌, ◌<◌, ℕ, pos, ◌<ℤ◌, length, Some, slice_get, slice_index_or}
use Rattle.affine_core.specs.declared.form.Form.{Form}
use Rattle.sanlp.specs.declared.nest.Nest.{Nest}
use Rattle.sanlp.specs.declared.nest.Statement.{Statement}

-- The row takes off the variable of this loop, and has none of the loops inside it: so it holds up to
-- some value of the loop's variable alone, which the loops round the loop fix.
pub record BoundsAbove (loop : ℕ) (row : Form) : Type 0 where
  pub taken_off : slice_index_or row.coefs loop (pos 0) <ℤ pos 0
  pub none_inside : (v : ℕ) → loop < v → slice_index_or row.coefs v (pos 0) ≡ pos 0

-- each loop round a statement has a row of the statement that takes off the loop's variable and has no loop inside it
abbrev pub IsBoundedAbove : Nest → Type 0
IsBoundedAbove n =
    (s : ℕ) (statement : Statement) (loop : ℕ) → slice_get n.statements s ≡ Some statement
    → loop < length statement.loops
    → (i : ℕ) × (row : Form) × (slice_get statement.rows i ≡ Some row) × BoundsAbove loop row
