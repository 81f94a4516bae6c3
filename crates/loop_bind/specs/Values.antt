-- Right sides: the expression, its reads in text order, and each reason that stands in it.
use Rattle.std.specs.Prelude.{ℕ, ◌+◌, ℤ, pos, ◌==◌, List, [], ◌∷◌, ◌++◌, map, length, Option, Some, None, not, if◌then◌else◌}
use Rattle.std.specs.Ordering.{int_eq}
use Rattle.affine_core.specs.declared.form.Form.{Form}
use Rattle.wrap_expr.specs.declared.expr.Expr.{Expr, Const, Var, Read}
use Rattle.wrap_expr.specs.declared.expr.Expr as expr
use Rattle.sanlp.specs.declared.nest.Access.{Access as Reference}
use Rattle.loop_grammar.specs.declared.tree.BinarySign.{BinarySign}
use Rattle.loop_grammar.specs.declared.tree.BinarySign.TheVariants.{Add, Sub, Mul}
use Rattle.loop_grammar.specs.declared.tree.Operand.{Operand, para-Operand}
use Rattle.loop_grammar.specs.declared.tree.Operand.TheOpen.{Operand-F, Number, Access, Binary, Neg, Min, Max}
use Rattle.loop_bind.specs.declared.error.BindError.{BindError}
use Rattle.loop_bind.specs.declared.error.BindError.TheVariants.{UnknownName, WrongCount, TooManyReads}
use Rattle.loop_bind.specs.declared.scope.Place.TheVariants.{Body}
use Rattle.loop_bind.specs.declared.scope.What.{What}
use Rattle.loop_bind.specs.declared.scope.What.TheVariants.{Parameter, Array, Loop, Progression}
use Rattle.loop_bind.specs.declared.value.Extreme.{Extreme}
use Rattle.loop_bind.specs.declared.value.Extreme.TheVariants.{Least, Greatest}
use Rattle.loop_bind.specs.Forms.{form_over}
use Rattle.loop_bind.specs.Judging.{Scope, forms_of, findings_of}
use Rattle.loop_bind.specs.Names.{value_named}
use Rattle.loop_bind.specs.Reasons.{found_if}

pub record Valued : Type 0 where
  pub expr : Expr
  pub reads : List Reference
  pub findings : List BindError

-- an operand of a right side, before which so many reads stand
abbrev pub Value : Type 0
Value = ℕ → Valued

abbrev pub without_reads : Expr → List BindError → Valued
without_reads e findings = record { expr = e; reads = []; findings = findings }

-- the subscripts of an access inside so many loops
abbrev pub subscripts_over : ℕ → Scope → List Operand → List Form
subscripts_over depth scope subscripts = map (form_over depth) (forms_of Body scope subscripts)

-- what is wrong with an access by its name and its number of subscripts
abbrev pub access_findings : ℕ → Option What → ℕ → List BindError
access_findings token (Some (Array number extents)) count =
    found_if (not (count == extents)) (WrongCount token)
access_findings token _ count = UnknownName token ∷ []

-- what stands before with a multiple of this variable added, unless the coefficient is 0
abbrev pub with_multiple : Expr → ℕ → ℤ → Expr
with_multiple before v c =
    if int_eq c (pos 0) then before else expr.Add before (expr.Mul (Const c) (Var v))

-- what stands before with these multiples of variables added, the first being variable v
abbrev pub with_multiples : Expr → ℕ → List ℤ → Expr
with_multiples before v [] = before
with_multiples before v (c ∷ coefs) = with_multiples (with_multiple before v c) (v + 1) coefs

-- the expression of a form: its constant, and then in variable order each multiple that isn't 0
abbrev pub form_expr : Form → Expr
form_expr f = with_multiples (Const f.constant) 0 f.coefs

-- A name in a right side: an access is the next read. A loop variable and a parameter stand for
-- their values, and the variable of a loop of a step above 1 for its form.
abbrev pub name_value : ℕ → Scope → ℕ → Option What → List Operand → Value
name_value depth scope token (Some (Array number extents)) subscripts slot =
    record {
      expr = Read slot;
      reads = record { array = number; subscripts = subscripts_over depth scope subscripts } ∷ [];
      findings = access_findings token (Some (Array number extents)) (length subscripts)
          ++ found_if (slot == 8) (TooManyReads token) ++ findings_of Body scope subscripts;
    }
name_value depth scope token (Some (Loop v)) [] slot = without_reads (Var v) []
name_value depth scope token (Some (Progression f)) [] slot =
    without_reads (form_expr (form_over depth f)) []
name_value depth scope token (Some (Parameter c)) [] slot = without_reads (Const c) []
name_value depth scope token (Some (Loop v)) (s ∷ subscripts) slot =
    without_reads (Const (pos 0)) (UnknownName token ∷ findings_of Body scope (s ∷ subscripts))
name_value depth scope token (Some (Progression f)) (s ∷ subscripts) slot =
    without_reads (Const (pos 0)) (UnknownName token ∷ findings_of Body scope (s ∷ subscripts))
name_value depth scope token (Some (Parameter c)) (s ∷ subscripts) slot =
    without_reads (Const (pos 0)) (UnknownName token ∷ findings_of Body scope (s ∷ subscripts))
name_value depth scope token None subscripts slot =
    without_reads (Const (pos 0)) (UnknownName token ∷ findings_of Body scope subscripts)

abbrev pub binary_expr : BinarySign → Expr → Expr → Expr
binary_expr Add = expr.Add
binary_expr Sub = expr.Sub
binary_expr Mul = expr.Mul

abbrev pub extreme_expr : Extreme → Expr → Expr → Expr
extreme_expr Least = expr.Min
extreme_expr Greatest = expr.Max

abbrev pub joined : (Expr → Expr → Expr) → Valued → Valued → Valued
joined op a b =
    record {
      expr = op a.expr b.expr;
      reads = a.reads ++ b.reads;
      findings = a.findings ++ b.findings;
    }

-- values from the left: each is joined to what stands before it
abbrev pub joined_all : (Expr → Expr → Expr) → ℕ → Valued → List Value → Valued
joined_all op slot before [] = before
joined_all op slot before (value ∷ values) =
    joined_all op slot (joined op before (value (slot + length before.reads))) values

abbrev pub list_value : (Expr → Expr → Expr) → List Value → Value
list_value op [] slot = without_reads (Const (pos 0)) []
list_value op (value ∷ values) slot = joined_all op slot (value slot) values

-- the values below an operand
abbrev pub value_parts : List (Operand × Value) → List Value
value_parts parts = map (λ p. p.1) parts

abbrev pub value_step : ℕ → Scope → Operand-F (Operand × Value) → Value
value_step depth scope (Number value token) slot = without_reads (Const value) []
value_step depth scope (Access name subscripts) slot =
    name_value depth scope name.token (value_named scope name.text) (map (λ p. p.0) subscripts) slot
value_step depth scope (Binary sign token left right) slot =
    joined_all (binary_expr sign) slot (left.1 slot) (right.1 ∷ [])
value_step depth scope (Neg token inner) slot =
    let v = inner.1 slot in record v { expr = expr.Neg v.expr }
value_step depth scope (Min token list) slot =
    list_value (extreme_expr Least) (value_parts list) slot
value_step depth scope (Max token list) slot =
    list_value (extreme_expr Greatest) (value_parts list) slot

-- the expression of a right side, its accesses in the order of the text as its reads, and each reason that stands in
-- it
unfoldable pub valued : ℕ → Scope → Operand → Value
valued depth scope = para-Operand Value (value_step depth scope)
