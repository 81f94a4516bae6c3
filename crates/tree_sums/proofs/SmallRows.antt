-- Rows whose numbers are small can be made.
--
-- By induction over how a row is made: a form that is taken is widened by zeros, a sum reaches no farther than both
-- its rows together, and a multiple no farther than its row's reach times the number. Where the reach of the whole is
-- below 2^127, no step on the way leaves 128 bits; the parts are those that a row that was made has (`RowParts`).
use Rattle.std.proofs.Common.{◌≡◌, ℕ, ◌+◌, ◌*◌, length, cond, ap, ◌∙◌, arith}
use Rattle.std.specs.Prelude.{Some, None, unsigned_abs}
use Rattle.std.specs.Option.{option_and_then}
use Rattle.std.proofs.lemmas.Bool.{le-leb}
use Rattle.affine_core.specs.declared.form.Form.{Form}
use Rattle.affine_core.specs.Affine.{form_sum, form_product, widened_form}
use Rattle.affine_core.specs.Within.{form_in_128_bits}
use Rattle.tree_sums.specs.Parts.{IsWithin}
use Rattle.tree_sums.proofs.Bound.{in_bits_within, product_within, sum_within}
use Rattle.tree_sums.specs.Made.{reach}
use Rattle.tree_sums.proofs.MadeLaws.{IsMade, SmallIsMade}
use Rattle.tree_sums.proofs.RowParts.{made_has_parts}
use Rattle.tree_sums.proofs.Within.{IsWithin-widened_form, IsWithin-weaker}
pub use Rattle.tree_sums.proofs.Within.{widened_length, widened_part}
use Rattle.source_tree.specs.Rows.{RowExpr, Take, Plus, Times, row_form}

made : (vars bound : ℕ) (e : RowExpr) (row : Form) → row_form vars e ≡ Some row → IsWithin (reach bound e) row
    → (row : Form) × IsMade vars bound e row
made vars bound e row is within =
    let has = made_has_parts vars e row is in
    (row, record { is = is; over = has.0; within = within; parts = has.1 })

pub small_is_made : SmallIsMade
small_is_made vars bound (Take f) t small =
    made vars bound (Take f) (widened_form vars f)
    (ap (λ b. cond b (Some (widened_form vars f)) None) (le-leb (length f.coefs) vars t.0))
    (IsWithin-widened_form vars bound f t.1)
small_is_made vars bound (Plus a b) t small =
    let left = small_is_made vars bound a t.0 (omega (arith, small)) in
    let right = small_is_made vars bound b t.1 (omega (arith, small)) in
    let sum : Form = form_sum left.0 right.0 in
    let within : IsWithin (reach bound a + reach bound b) sum =
    sum_within (reach bound a) (reach bound b) left.0 right.0 left.1.within right.1.within in
    made vars bound (Plus a b) sum
    (ap (option_and_then
    (λ left. option_and_then (λ right. form_in_128_bits (form_sum left right)) (row_form vars b))) left.1.is
    ∙ ap (option_and_then (λ right. form_in_128_bits (form_sum left.0 right))) right.1.is
    ∙ in_bits_within (reach bound a + reach bound b) sum within small)
    within
small_is_made vars bound (Times k e) t small =
    let inner = small_is_made vars bound e t (omega (arith, small)) in
    let product : Form = form_product k inner.0 in
    let most : ℕ = unsigned_abs k * reach bound e in
    let within : IsWithin most product = product_within (reach bound e) k inner.0 inner.1.within in
    made vars bound (Times k e) product
    (ap (option_and_then (λ form. form_in_128_bits (form_product k form))) inner.1.is
    ∙ in_bits_within most product within (omega (arith, small)))
    (IsWithin-weaker most (most + reach bound e) product (omega arith) within)
