-- The rows of the systems of a tree's leaves: how they are made, and their values.
use Rattle.std.specs.Prelude.{ℕ, ℤ, negsuc, ◌+ℤ◌, ◌*ℤ◌, List, [], ◌∷◌, length, nat_le, if◌then◌else◌, Option, Some, None}
use Rattle.std.specs.Option.{option_and_then}
use Rattle.affine_core.specs.declared.form.Form.{Form}
use Rattle.affine_core.specs.Affine.{form_at, form_product, form_sum, widened_form}
use Rattle.affine_core.specs.Within.{form_in_128_bits}

-- A row is made from forms by sums and multiples, and is read as `row >= 0`.
pub data RowExpr : Type 0 where
  Take : Form → RowExpr
  Plus : RowExpr → RowExpr → RowExpr
  Times : ℤ → RowExpr → RowExpr

-- the value of a row, over unbounded whole numbers
abbrev pub row_at : RowExpr → List ℤ → ℤ
row_at (Take form) at = form_at form at
row_at (Plus a b) at = row_at a at +ℤ row_at b at
row_at (Times k e) at = k *ℤ row_at e at

-- the row's form over this many variables, made by `scale` and `add` from left to right, unless one of
-- them leaves 128 bits; its forms have no more variables
abbrev pub row_form : ℕ → RowExpr → Option Form
row_form vars (Take form) =
    if nat_le (length form.coefs) vars then Some (widened_form vars form) else None
row_form vars (Plus a b) =
    option_and_then
    (λ left. option_and_then (λ right. form_in_128_bits (form_sum left right))
    (row_form vars b)) (row_form vars a)
row_form vars (Times k e) =
    option_and_then (λ form. form_in_128_bits (form_product k form)) (row_form vars e)

-- the forms of these rows, unless one can't be made
abbrev pub row_forms : ℕ → List RowExpr → Option (List Form)
row_forms vars [] = Some []
row_forms vars (e ∷ es) =
    option_and_then (λ row. option_and_then (λ rows. Some (row ∷ rows)) (row_forms vars es))
    (row_form vars e)

-- a number
abbrev pub number : ℤ → RowExpr
number c = Take (record { constant = c; coefs = [] })

-- e - 1
abbrev pub one_less : RowExpr → RowExpr
one_less e = Plus e (number (negsuc 0))

-- a - b
abbrev pub minus : RowExpr → RowExpr → RowExpr
minus a b = Plus a (Times (negsuc 0) b)

-- -e - 1, which is at least 0 exactly where e is below 0
abbrev pub below_zero : RowExpr → RowExpr
below_zero e = one_less (Times (negsuc 0) e)

-- two numbers are equal: a - b and b - a
abbrev pub equal_rows : RowExpr → RowExpr → List RowExpr
equal_rows a b = minus a b ∷ minus b a ∷ []

-- a system: rows over so many variables
pub record RowSystem : Type 0 where
  pub vars : ℕ
  pub rows : List RowExpr
