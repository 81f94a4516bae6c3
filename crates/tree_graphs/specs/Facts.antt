-- What a context tells of a form.
use Rattle.std.specs.Prelude.{◌≡◌, ◌≤◌, ◌<◌, ◌^◌, ℕ, ℤ, pos, ◌≤ℤ◌, List, length, ◌++◌, [], ◌∷◌, All}
use Rattle.affine_core.specs.declared.form.Form.{Form}
use Rattle.int_polyhedra.specs.declared.system.System.{System}
use Rattle.int_polyhedra.specs.declared.system.Term.{Term}
use Rattle.int_polyhedra.specs.Systems.{AreOver}
use Rattle.tree_graphs.specs.declared.facts.Sign.{Sign}
use Rattle.tree_graphs.specs.declared.facts.Sign.TheVariants.{AtLeastZero, BelowZero, Unknown}
use Rattle.tree_sums.specs.Parts.{part_of, weight}
use Rattle.tree_sums.specs.Shown.{RowParts, Shows}

-- a system of rows over at most 18 variables, fewer rows than 2^32
pub record IsContext (context : System) : Type 0 where
  pub short : context.vars ≤ 18
  pub over : AreOver context.vars context.rows
  pub few : length context.rows < 2 ^ 32

-- the context with one row behind
abbrev pub with_form : System → Form → System
with_form context row = record context { rows = context.rows ++ row ∷ [] }

-- the terms show a row in a context, and their multipliers add up to so much at most
pub record IsFact (context : System) (most : ℕ) (row : RowParts) (ts : List Term) : Type 0 where
  pub shows : Shows context.vars context.rows ts row
  pub light : weight ts ≤ most

-- the parts of a form
abbrev pub form_parts : Form → RowParts
form_parts form part = part_of part form

-- the form is the row and a number that is not below 0, so that this row alone shows that the form is at least 0
abbrev pub RowTells : Form → Form → Type 0
RowTells form row = (row.coefs ≡ form.coefs) × (row.constant ≤ℤ form.constant)

-- no row of these by itself tells that the form is at least 0
abbrev pub NoRowTells : List Form → Form → Type 0
NoRowTells rows form = All (λ row. RowTells form row → ⊥) rows

-- the terms name the first so many rows, and their multipliers are not below 0 and add up to so much at most
pub record AreLight (rows : ℕ) (most : ℤ) (ts : List Term) : Type 0 where
  pub name_rows : All (λ t. t.row < rows) ts
  pub not_negative : All (λ t. pos 0 ≤ℤ t.times) ts
  pub light : pos (weight ts) ≤ℤ most

-- what is told of a form, given its opposite: that it is at least 0, that its opposite is, or that no row by itself tells
-- either
abbrev pub IsSignOf : System → Form → Form → Sign → Type 0
IsSignOf context form opposite (AtLeastZero ts) = IsFact context 65536 (form_parts form) ts
IsSignOf context form opposite (BelowZero ts) = IsFact context 65536 (form_parts opposite) ts
IsSignOf context form opposite Unknown =
    NoRowTells context.rows form × NoRowTells context.rows opposite
