-- The text of an expression.
use Rattle.std.specs.Prelude.{ℕ, ℤ, List, [], ◌∷◌, ◌++◌, codes, decimal}
use Rattle.std.specs.List.{concat}
use Rattle.wrap_expr.specs.declared.expr.Expr.{Expr}
use Rattle.wrap_expr.specs.declared.expr.Expr.TheOpen.{Expr-F, Const, Var, Read, Given, Add, Sub, Mul, Min, Max, Neg}
use Rattle.wrap_expr.specs.declared.expr.Expr.TheFolds.{fold-Expr}
use Rattle.vhdl_text.specs.declared.expression.Naming.{Naming}
use Rattle.vhdl_text.specs.declared.expression.Naming.TheVariants.{Arrays, Signals}
use Rattle.vhdl_text.specs.Literals.{literal}

-- an operand behind a text, and a parenthesis
abbrev pub last_operand : List ℕ → List ℕ → List ℕ
last_operand before a = concat (before ∷ a ∷ codes ")" ∷ [])

-- two operands: what stands before the first, between them, and behind the second
abbrev pub pair : List ℕ → List ℕ → List ℕ → List ℕ → List ℕ
pair before a between b = before ++ (a ++ last_operand between b)

abbrev pub constant : ℤ → List ℕ
constant value = concat (codes "signed'(" ∷ literal value ∷ codes ")" ∷ [])

-- loop variable n at the fire's point, and what the fire's reference of this read names
abbrev pub variable : Naming → ℕ → List ℕ
variable Arrays n = codes "v" ++ (decimal n ++ codes "(arg(pc))")
variable Signals n = codes "v" ++ decimal n

abbrev pub read_value : Naming → ℕ → List ℕ
read_value Arrays k = codes "pick(slot, r" ++ (decimal k ++ codes "(arg(pc)))")
read_value Signals k = codes "pick(slot, r" ++ (decimal k ++ codes "_here)")

abbrev pub expr_step : Naming → Expr-F (List ℕ) → List ℕ
expr_step naming (Const c) = constant c
expr_step naming (Var n) = variable naming n
expr_step naming (Read k) = read_value naming k
expr_step naming Given = codes "given"
expr_step naming (Add a b) = pair (codes "(") a (codes " + ") b
expr_step naming (Sub a b) = pair (codes "(") a (codes " - ") b
expr_step naming (Mul a b) = pair (codes "mul(") a (codes ", ") b
expr_step naming (Min a b) = pair (codes "least(") a (codes ", ") b
expr_step naming (Max a b) = pair (codes "most(") a (codes ", ") b
expr_step naming (Neg a) = last_operand (codes "(zero - ") a

-- an expression with its operators as VHDL has them, or as calls of the node's functions
abbrev pub expr_text : Naming → Expr → List ℕ
expr_text naming = fold-Expr (List ℕ) (expr_step naming)
