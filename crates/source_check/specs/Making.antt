-- How a system's rows are made one after the other, over so many variables.
use Rattle.std.specs.Prelude.{◌≡◌, ℕ, ℤ, negsuc, List, [], ◌∷◌, ◌++◌, map, length, Option, Some, MatchOption}
use Rattle.std.specs.Option.{option_and_then, option_map}
use Rattle.affine_core.specs.declared.form.Form.{Form}
use Rattle.affine_core.specs.Affine.{form_product, form_sum, constant_form}
use Rattle.affine_core.specs.Within.{form_in_128_bits}
use Rattle.int_polyhedra.specs.declared.system.System.{System}
use Rattle.int_polyhedra.specs.Systems.{AreOver}
use Rattle.source_tree.specs.Rows.{RowExpr, Take, row_form}

-- the form times a number, and the sum of two forms, where they were made
abbrev pub times_of : ℤ → Option Form → Option Form
times_of k form = option_and_then (λ form. form_in_128_bits (form_product k form)) form

abbrev pub plus_of : Option Form → Option Form → Option Form
plus_of left right =
    option_and_then
    (λ left. option_and_then (λ right. form_in_128_bits (form_sum left right)) right) left

-- left - right, and left - 1
abbrev pub minus_of : Option Form → Option Form → Option Form
minus_of left right = plus_of left (times_of (negsuc 0) right)

abbrev pub one_less_of : ℕ → Option Form → Option Form
one_less_of vars form = plus_of form (Some (constant_form vars (negsuc 0)))

-- -form - 1, and most - least - 1
abbrev pub below_zero_of : ℕ → Option Form → Option Form
below_zero_of vars form = one_less_of vars (times_of (negsuc 0) form)

abbrev pub less_of : ℕ → Option Form → Option Form → Option Form
less_of vars least most = one_less_of vars (minus_of most least)

-- each coefficient times the place's form, added in order to what comes before
abbrev pub with_terms : ℕ → Option Form → List ℤ → List Form → Option Form
with_terms vars sum [] place = sum
with_terms vars sum (c ∷ cs) [] = sum
with_terms vars sum (c ∷ cs) (form ∷ place) =
    with_terms vars (plus_of sum (times_of c (row_form vars (Take form)))) cs place

-- a system with one more row, where both were made
abbrev pub system_with : Option System → Option Form → Option System
system_with system row =
    option_and_then (λ s. option_map (λ row. record s { rows = s.rows ++ row ∷ [] }) row) system

-- a system with more rows, in order, where all were made
abbrev pub system_with_all : Option System → List (Option Form) → Option System
system_with_all system [] = system
system_with_all system (row ∷ rows) = system_with_all (system_with system row) rows

-- these rows, where each can be made
abbrev pub forms_of : ℕ → List RowExpr → List (Option Form)
forms_of vars rows = map (λ row. row_form vars row) rows

-- a system that was made is over so many variables
abbrev pub IsMadeOver : ℕ → Option System → Type 0
IsMadeOver vars system = MatchOption system (Unit {0}) (λ s. (s.vars ≡ vars) × AreOver vars s.rows)

-- a form that was made is over so many variables
abbrev pub FormIsOver : ℕ → Option Form → Type 0
FormIsOver vars form = MatchOption form (Unit {0}) (λ f. length f.coefs ≡ vars)
