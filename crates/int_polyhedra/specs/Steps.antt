-- What each kind of step makes of the rows before it, or what refuses it.
use Rattle.std.specs.Prelude.{ℕ, ◌/◌, ◌%◌, ◌==◌, ℤ, pos, negsuc, Bool, ◌&&◌, nat_lt, not, List, [], ◌∷◌, map, length, Option, Some, None, Result, Ok, Err, slice_get, if◌then◌else◌}
use Rattle.std.specs.List.{find, list_all}
use Rattle.std.specs.Ordering.{int_eq}
use Rattle.std.specs.Option.{option_and_then, option_map, option_or, ok_or}
use Rattle.std.specs.Int.RustNames.{int_lt, unsigned_abs}
use Rattle.affine_core.specs.declared.form.Form.{Form}
use Rattle.affine_core.specs.Affine.{form_product, form_sum, constant_form}
use Rattle.affine_core.specs.Within.{form_in_128_bits}
use Rattle.int_polyhedra.specs.declared.system.Reason.{Reason}
use Rattle.int_polyhedra.specs.declared.system.Reason.TheVariants.{BadIndex, Negative, NotContradictory, NotDivisible, Overflow}
use Rattle.int_polyhedra.specs.declared.system.Term.{Term}

-- the row, unless something refuses it
abbrev pub row_unless : Option Reason → Result Form Reason → Result Form Reason
row_unless (Some reason) row = Err reason
row_unless None row = row

-- what becomes of the row, or its refusal
abbrev pub row_and_then : (Form → Result Form Reason) → Result Form Reason → Result Form Reason
row_and_then next (Ok row) = next row
row_and_then next (Err reason) = Err reason

-- what refuses the row, or else what goes on with it
abbrev pub refusal_or : (Form → Option Reason) → Result Form Reason → Option Reason
refusal_or next (Ok row) = next row
refusal_or next (Err reason) = Some reason

-- the first row number that no row has
abbrev pub bad_row_number : ℕ → List Term → Option Reason
bad_row_number rows terms =
    option_map (λ term. BadIndex term.row) (find (λ term. not (nat_lt term.row rows)) terms)

-- the first multiplier below 0
abbrev pub negative_multiplier : List Term → Option Reason
negative_multiplier terms =
    option_map (λ term. Negative term.times) (find (λ term. int_lt term.times (pos 0)) terms)

-- a divisor below 1
abbrev pub bad_divisor : ℤ → Option Reason
bad_divisor d = if int_lt d (pos 1) then Some (Negative d) else None

-- the sum and one more term, unless a number leaves 128 bits
abbrev pub sum_with : List Form → Form → Term → Option Form
sum_with rows sum term =
    option_and_then
    (λ row. option_and_then (λ more. form_in_128_bits (form_sum sum more))
    (form_in_128_bits (form_product term.times row))) (slice_get rows term.row)

-- the sum and the terms, added one after the other
abbrev pub sum_onto : List Form → Form → List Term → Option Form
sum_onto rows sum [] = Some sum
sum_onto rows sum (term ∷ terms) =
    option_and_then (λ next. sum_onto rows next terms) (sum_with rows sum term)

-- the sum of the rows with these multipliers. All row numbers are tested first, then a Cut's divisor, then all multipliers
abbrev pub sum_of : ℕ → List Form → Option Reason → List Term → Result Form Reason
sum_of vars rows divisor terms =
    row_unless
    (option_or (bad_row_number (length rows) terms)
    (option_or divisor (negative_multiplier terms)))
    (ok_or (sum_onto rows (constant_form vars (pos 0)) terms) Overflow)

-- the row has no variable and a negative constant, so no point meets it
abbrev pub is_contradictory : Form → Bool
is_contradictory row = int_lt row.constant (pos 0) && list_all (λ c. int_eq c (pos 0)) row.coefs

-- what refuses the sum of a Sum
abbrev pub sum_refusal : Form → Option Reason
sum_refusal row = if is_contradictory row then None else Some (NotContradictory row)

-- z divided by d, rounded down
abbrev pub floor : ℤ → ℕ → ℤ
floor (pos n) d = pos (n / d)
floor (negsuc n) d = negsuc (n / d)

-- the first coefficient that d does not divide
abbrev pub not_divisible : ℕ → List ℤ → Option Reason
not_divisible d coefs =
    option_map (λ c. NotDivisible c) (find (λ c. not (unsigned_abs c % d == 0)) coefs)

-- the row of the quotients, the constant rounded down
abbrev pub quotient_row : ℕ → Form → Form
quotient_row d row =
    record { constant = floor row.constant d; coefs = map (λ c. floor c d) row.coefs }

abbrev pub divided_row : ℕ → Form → Result Form Reason
divided_row d row = row_unless (not_divisible d row.coefs) (Ok (quotient_row d row))

-- the row that a Cut adds
abbrev pub cut_row : ℕ → List Form → ℤ → List Term → Result Form Reason
cut_row vars rows d terms =
    row_and_then (divided_row (unsigned_abs d)) (sum_of vars rows (bad_divisor d) terms)

-- the row `-form - 1 >= 0`, unless a number leaves 128 bits on the way
abbrev pub negation_of : Form → Option Form
negation_of row =
    option_and_then
    (λ minus. form_in_128_bits (form_sum minus (constant_form (length row.coefs) (negsuc 0))))
    (form_in_128_bits (form_product (negsuc 0) row))

-- the row that a Split adds for its second proof
abbrev pub split_row : ℕ → Form → Result Form Reason
split_row vars form =
    if length form.coefs == vars then ok_or (negation_of form) Overflow
    else Err (BadIndex (length form.coefs))
