-- The value of an expression, in 64-bit two's complement.
use Rattle.std.specs.Prelude.{ℕ, ℤ, pos, List, slice_index_or, Bool, true, ◌&&◌, nat_lt, IsTrue}
use Rattle.std.specs.Int.{w64, int_min, int_max, int_wrapping_add, int_wrapping_sub, int_wrapping_mul, int_wrapping_neg}
use Rattle.wrap_expr.specs.declared.expr.Expr.{Expr}
use Rattle.wrap_expr.specs.declared.expr.Expr.TheOpen.{Expr-F, Const, Var, Read, Given, Add, Sub, Mul, Min, Max, Neg}
use Rattle.wrap_expr.specs.declared.expr.Expr.TheFolds.{fold-Expr}

-- what an expression is evaluated over: the iteration vector, the values read, and the input value
pub record Operands : Type 0 where
  pub at : List ℤ
  pub reads : List ℤ
  pub given : ℤ

abbrev pub value_step : Expr-F (Operands → ℤ) → Operands → ℤ
value_step (Const c) o = c
value_step (Var v) o = slice_index_or o.at v (pos 0)
value_step (Read k) o = slice_index_or o.reads k (pos 0)
value_step Given o = o.given
value_step (Add a b) o = int_wrapping_add w64 (a o) (b o)
value_step (Sub a b) o = int_wrapping_sub w64 (a o) (b o)
value_step (Mul a b) o = int_wrapping_mul w64 (a o) (b o)
value_step (Min a b) o = int_min (a o) (b o)
value_step (Max a b) o = int_max (a o) (b o)
value_step (Neg a) o = int_wrapping_neg w64 (a o)

-- the value of an expression in 64-bit two's complement
abbrev pub value_of : Expr → Operands → ℤ
value_of = fold-Expr (Operands → ℤ) value_step

-- every variable is below `depth`, and every read below `slots`
abbrev pub uses_step : ℕ → ℕ → Expr-F Bool → Bool
uses_step depth slots (Const c) = true
uses_step depth slots (Var v) = nat_lt v depth
uses_step depth slots (Read k) = nat_lt k slots
uses_step depth slots Given = true
uses_step depth slots (Add a b) = a && b
uses_step depth slots (Sub a b) = a && b
uses_step depth slots (Mul a b) = a && b
uses_step depth slots (Min a b) = a && b
uses_step depth slots (Max a b) = a && b
uses_step depth slots (Neg a) = a

abbrev pub uses_only : ℕ → ℕ → Expr → Bool
uses_only depth slots = fold-Expr Bool (uses_step depth slots)

-- an expression names no loop and no read past these numbers
abbrev pub UsesOnly : ℕ → ℕ → Expr → Type 0
UsesOnly depth slots e = IsTrue (uses_only depth slots e)
