-- Sums and multiples of forms whose numbers are small stay within 128 bits.
use Rattle.std.proofs.Common.{◌≡◌, ℕ, ◌+◌, ◌*◌, ◌^◌, ◌≤◌, ℤ, pos, negsuc, ◌*ℤ◌, length}
use Rattle.std.proofs.Common.{sym, ap, ◌∙◌, arith}
use Rattle.std.specs.Prelude.{Some, unsigned_abs}
use Rattle.std.specs.Option.{option_and_then}
use Rattle.std.proofs.lemmas.List.Elements.{All-replicate}
use Rattle.std.proofs.lemmas.List.{length-map}
use Rattle.std.proofs.lemmas.Option.{same_Some}
use Rattle.affine_core.specs.declared.form.Form.{Form}
use Rattle.affine_core.specs.Affine.{constant_form, form_product, form_sum}
use Rattle.affine_core.specs.Within.{form_in_128_bits}
use Rattle.int_polyhedra.specs.Steps.{negation_of}
use Rattle.tree_sums.specs.Parts.{IsWithin}
use Rattle.tree_sums.proofs.Bound.{in_bits_within, product_within, sum_within}
use Rattle.tree_sums.proofs.Within.{IsWithin-weaker}

pub sum_fits : (f g : Form) → IsWithin (2 ^ 60) f → IsWithin (2 ^ 60) g → form_in_128_bits (form_sum f g)
    ≡ Some (form_sum f g)
sum_fits f g h k = in_bits_within (2 ^ 60 + 2 ^ 60) (form_sum f g) (sum_within (2 ^ 60) (2 ^ 60) f g h k) (omega arith)

one_time : (b : ℕ) → unsigned_abs (negsuc 0) * b ≡ b
one_time b = omega arith

pub negative_within : (b : ℕ) (f : Form) → IsWithin b f → IsWithin b (form_product (negsuc 0) f)
negative_within b f h = IsWithin-weaker (unsigned_abs (negsuc 0) * b) b (form_product (negsuc 0) f) (omega (arith, one_time b))
    (product_within b (negsuc 0) f h)

pub negative_over : (f : Form) → length (form_product (negsuc 0) f).coefs ≡ length f.coefs
negative_over f = length-map f.coefs (λ c. c *ℤ negsuc 0)

pub negative_fits : (f : Form) → IsWithin (2 ^ 60) f → form_in_128_bits (form_product (negsuc 0) f)
    ≡ Some (form_product (negsuc 0) f)
negative_fits f h = in_bits_within (2 ^ 60) (form_product (negsuc 0) f) (negative_within (2 ^ 60) f h) (omega arith)

pub number_within : (vars : ℕ) (k : ℤ) (b : ℕ) → unsigned_abs k ≤ b → IsWithin b (constant_form vars k)
number_within vars k b h =
    record { constant = h; coefs = All-replicate (λ c. unsigned_abs c ≤ b) vars (pos 0) (omega arith) }

-- the opposite of a form, -f - 1
abbrev pub opposite_form : Form → Form
opposite_form f = form_sum (form_product (negsuc 0) f) (constant_form (length f.coefs) (negsuc 0))

pub opposite_within : (b : ℕ) (f : Form) → IsWithin b f → IsWithin (b + 1) (opposite_form f)
opposite_within b f h =
    sum_within b 1 (form_product (negsuc 0) f) (constant_form (length f.coefs) (negsuc 0)) (negative_within b f h)
    (number_within (length f.coefs) (negsuc 0) 1 (omega arith))

pub opposite_fits : (f : Form) → IsWithin (2 ^ 60) f → negation_of f ≡ Some (opposite_form f)
opposite_fits f h =
    ap (option_and_then (λ minus. form_in_128_bits (form_sum minus (constant_form (length f.coefs) (negsuc 0)))))
    (negative_fits f h)
    ∙ in_bits_within (2 ^ 60 + 1) (opposite_form f) (opposite_within (2 ^ 60) f h) (omega arith)

pub negation_of-some : (b : ℕ) (f other : Form) → b ≤ 2 ^ 60 → IsWithin b f → negation_of f ≡ Some other
    → other ≡ opposite_form f
negation_of-some b f other few within is =
    same_Some other (opposite_form f) (sym is ∙ opposite_fits f (IsWithin-weaker b (2 ^ 60) f few within))
