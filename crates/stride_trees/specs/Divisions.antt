-- Tests whether the stride of a write's subscript divides what the read's is from it.
use Rattle.std.specs.Prelude.{◌+◌, ℕ, ℤ, pos, negsuc, ◌-ℤ◌, Bool, ◌&&◌, not, List, [], ◌∷◌, ◌++◌, unsigned_abs, if◌then◌else◌}
use Rattle.std.specs.List.{list_all, list_any, range_with_len}
use Rattle.std.specs.Option.{option_map_or}
use Rattle.std.specs.Int.RustNames.{int_lt}
use Rattle.affine_core.specs.declared.form.Form.{Form}
use Rattle.affine_core.specs.Affine.{form_product, widened_form}
use Rattle.source_tree.specs.Systems.{Context, divides_yes}
use Rattle.source_tree.specs.Walk.{divides}
use Rattle.tree_cuts.specs.Class.{stride_of}
use Rattle.stride_trees.specs.declared.divisions.Division.{Division}

-- the form with the sign of a number
abbrev pub signed : ℤ → Form → Form
signed c form = if int_lt (pos 0) c then form else form_product (negsuc 0) form

-- The subscript `c v + d` of a write can be that of a read where the size of c divides `read - d`, taken with the
-- sign of c; the quotient is v then. The write's subscript has this number.
abbrev pub division_of : ℕ → Form → Form → ℤ → Division
division_of number write read c = record {
  subscript = number;
  rises = int_lt (pos 0) c;
  form = signed c (record read { constant = read.constant -ℤ write.constant });
  divisor = pos (unsigned_abs c);
}

-- for each subscript with a coefficient outside -1 to 1, in order; the first subscript has this number
abbrev pub divisions_from : ℕ → List Form → List Form → List Division
divisions_from number [] reads = []
divisions_from number (write ∷ writes) [] = []
divisions_from number (write ∷ writes) (read ∷ reads) =
    option_map_or (λ c. division_of number write read c ∷ []) (stride_of write) []
    ++ divisions_from (number + 1) writes reads

-- whether a number divides the divisor of a test and each coefficient of its form, and not the constant
abbrev pub rules_out : Division → ℕ → Bool
rules_out d k =
    divides d.divisor (pos k) && list_all (λ c. divides c (pos k)) d.form.coefs
    && not (divides d.form.constant (pos k))

-- whether a test says no by its form alone: a divisor of its divisor rules it out
abbrev pub never_divides : Division → Bool
never_divides d = list_any (rules_out d) (range_with_len 1 (unsigned_abs d.divisor))

-- whether a test says yes by its form alone: the divisor divides each coefficient, and the constant
abbrev pub always_divides : Division → Bool
always_divides d =
    list_all (λ c. divides c d.divisor) d.form.coefs && divides d.form.constant d.divisor

-- the context where all these tests say yes; each has one variable more
abbrev pub divided_context : Context → List Division → Context
divided_context c [] = c
divided_context c (d ∷ ds) =
    divided_context (divides_yes c (widened_form c.vars d.form) d.divisor) ds
