-- Rows that were made have the value of what they were made from, and a point that writes the cell before the read meets them.
--
-- By induction over how a row is made its value is the sum of the values of its forms, so what is said of rows as they
-- are made can be said of values. A place has the values of its forms: a domain row, a subscript and an order row at a
-- place hold exactly where the values say so. A longer point changes nothing of rows that are widened.
use Rattle.std.proofs.Common.{◌≡◌, ◌<◌, ℕ, zero, suc, ℤ, pos, ◌+ℤ◌, ◌*ℤ◌, ◌≤ℤ◌, ◌<ℤ◌}
use Rattle.std.proofs.Common.{List, [], ◌∷◌, ◌++◌, length, map, take, drop, ◌≤◌, Bool, true, false, cond, refl, sym, ap, ◌∙◌}
use Rattle.std.proofs.Common.{subst, arith, append_assoc}
use Rattle.std.specs.Prelude.{Some, None, All, slice_get, slice_index_or, nat_le, int_le, IsTrue}
use Rattle.std.specs.Option.{option_and_then}
use Rattle.std.proofs.lemmas.Int.{ints}
use Rattle.std.proofs.lemmas.List.{length-take-le, take-append-drop}
use Rattle.std.proofs.lemmas.List.Elements.{All-nil, All-cons, All-head, All-tail}
use Rattle.std.proofs.lemmas.Option.{same_Some, option_and_then_some, slice_get-map}
use Rattle.std.proofs.Math.IntN.{*ℤ_comm}
use Rattle.std.proofs.lemmas.Bool.{and_parts, and_from}
use Rattle.affine_core.specs.declared.form.Form.{Form}
use Rattle.affine_core.specs.Affine.{form_at, form_product, form_sum, widened_form}
use Rattle.affine_core.specs.Within.{form_in_128_bits}
use Rattle.affine_core.proofs.Linear.{form_at_more, form_in_128_bits_is, product_at, sum_at, widened_at}
use Rattle.affine_core.proofs.Integers.{int_le-true, le-int_le}
use Rattle.int_polyhedra.specs.Systems.{Meets}
use Rattle.plain_data.proofs.Options.{option_map-some}
use Rattle.plain_data.proofs.Lists.{same_head, same_tail}
use Rattle.sanlp.specs.Loops.{all_hold}
use Rattle.tree_sums.proofs.RowParts.{made_has_parts}
use Rattle.source_tree.specs.Gives.{values}
use Rattle.source_tree.specs.Places.{domain_rows, order_rows, variables}
use Rattle.source_tree.specs.Rows.{RowExpr, Take, Plus, Times, equal_rows, minus, one_less, row_at, row_form}
use Rattle.source_tree.specs.Rows.{row_forms}
use Rattle.source_tree.proofs.Gives.{values-variables, row_at-at_place}
use Rattle.source_tree.proofs.MetRows.{AreMet, AreMet-append, AreMet-equal_rows}

-- Values

taken_at : (vars : ℕ) (form f : Form) (at : List ℤ) (b : Bool) → nat_le (length form.coefs) vars ≡ b
    → cond b (Some (widened_form vars form)) None ≡ Some f → form_at f at ≡ form_at form at
taken_at vars form f at false e is = absurd (let g : None ≡ Some f = is in cc)
taken_at vars form f at true e is = ap (λ (f : Form). form_at f at) (sym (same_Some (widened_form vars form) f is))
    ∙ widened_at vars form at

pub made_at : (vars : ℕ) (e : RowExpr) (f : Form) (at : List ℤ) → row_form vars e ≡ Some f → form_at f at ≡ row_at e at
made_at vars (Take form) f at is = taken_at vars form f at (nat_le (length form.coefs) vars) refl is
made_at vars (Plus a b) f at is =
    option_and_then_some (λ left. option_and_then (λ right. form_in_128_bits (form_sum left right)) (row_form vars b))
    (row_form vars a) f is
    (λ left is_left is'. option_and_then_some (λ right. form_in_128_bits (form_sum left right)) (row_form vars b) f is'
    (λ right is_right sum.
    let even : length left.coefs ≡ length right.coefs = (made_has_parts vars a left is_left).0
    ∙ sym (made_has_parts vars b right is_right).0 in
    ap (λ (f : Form). form_at f at) (sym (form_in_128_bits_is (form_sum left right) f sum)) ∙ sum_at left right at even
    ∙ ap (λ z. z +ℤ form_at right at) (made_at vars a left at is_left)
    ∙ ap (λ z. row_at a at +ℤ z) (made_at vars b right at is_right)))
made_at vars (Times k e) f at is =
    option_and_then_some (λ form. form_in_128_bits (form_product k form)) (row_form vars e) f is
    (λ form is_form product.
    ap (λ (f : Form). form_at f at) (sym (form_in_128_bits_is (form_product k form) f product)) ∙ product_at k form at
    ∙ *ℤ_comm (form_at form at) k ∙ ap (λ z. k *ℤ z) (made_at vars e form at is_form))

pub met_made : (vars : ℕ) (es : List RowExpr) (rows : List Form) (at : List ℤ) → row_forms vars es ≡ Some rows
    → AreMet es at → Meets rows at
met_made vars [] rows at is met = subst (λ rows. Meets rows at) (same_Some [] rows is) (All-nil _)
met_made vars (e ∷ es) rows at is met =
    option_and_then_some (λ row. option_and_then (λ rest. Some (row ∷ rest)) (row_forms vars es))
    (row_form vars e) rows is
    (λ row is_row is'. option_and_then_some (λ rest. Some (row ∷ rest)) (row_forms vars es) rows is'
    (λ rest is_rest whole.
    subst (λ rows. Meets rows at) (same_Some (row ∷ rest) rows whole)
    (All-cons (λ row. pos 0 ≤ℤ form_at row at) row rest
    (subst (λ z. pos 0 ≤ℤ z) (sym (made_at vars e row at is_row)) met.0) (met_made vars es rest at is_rest met.1))))

-- widened rows have their values at a longer point
pub widened_met : (vars more : ℕ) (rows : List Form) (x j : List ℤ) → All (λ row. length row.coefs ≡ length x) rows
    → Meets rows x → Meets (map (widened_form more) rows) (x ++ j)
widened_met vars more [] x j over h = All-nil _
widened_met vars more (row ∷ rows) x j over h =
    let long : length row.coefs ≡ length x = All-head (λ (row : Form). length row.coefs ≡ length x) row rows over in
    let same : form_at (widened_form more row) (x ++ j) ≡ form_at row x = widened_at more row (x ++ j)
    ∙ form_at_more row x j (omega (arith, long)) in
    All-cons (λ row. pos 0 ≤ℤ form_at row (x ++ j)) (widened_form more row) (map (widened_form more) rows)
    (subst (λ z. pos 0 ≤ℤ z) (sym same) (All-head (λ row. pos 0 ≤ℤ form_at row x) row rows h))
    (widened_met vars more rows x j (All-tail (λ (row : Form). length row.coefs ≡ length x) row rows over)
    (All-tail (λ row. pos 0 ≤ℤ form_at row x) row rows h))

-- Places

-- the first variables have the first values
pub taken_values : (d : ℕ) (x after : List ℤ) → d ≤ length x → values (variables 0 d) (x ++ after) ≡ take d x
taken_values d x after le =
    let first : List ℤ = take d x in
    let whole : x ++ after ≡ first ++ (drop d x ++ after)
    = ap (λ x. x ++ after) (sym (take-append-drop d x)) ∙ append_assoc first (drop d x) after in
    let count : length first ≡ d = length-take-le d x le in
    ap (values (variables 0 d)) whole ∙ ap (λ n. values (variables 0 n) (first ++ (drop d x ++ after))) (sym count)
    ∙ values-variables 0 [] first (drop d x ++ after) refl

pub taken_value : (d p : ℕ) (x : List ℤ) → p < d → slice_index_or (take d x) p (pos 0) ≡ slice_index_or x p (pos 0)
taken_value zero p x lt = absurd (omega arith)
taken_value (suc d) p [] lt = refl
taken_value (suc d) zero (z ∷ x) lt = refl
taken_value (suc d) (suc p) (z ∷ x) lt = taken_value d p x (omega (arith, lt))

-- a point in a domain meets the domain rows at its place, and the other way round
pub domain_met : (rows place : List Form) (at : List ℤ) → IsTrue (all_hold rows (values place at))
    → AreMet (domain_rows rows place) at
domain_met [] place at e = tt
domain_met (row ∷ rows) place at e =
    let b = and_parts (int_le (pos 0) (form_at row (values place at))) (all_hold rows (values place at)) e in (
      subst (λ z. pos 0 ≤ℤ z) (sym (row_at-at_place row place at)) (int_le-true (pos 0) (form_at row (values place at)) b.0),
      domain_met rows place at b.1,
    )

pub met_domain : (rows place : List Form) (at : List ℤ) → AreMet (domain_rows rows place) at
    → IsTrue (all_hold rows (values place at))
met_domain [] place at h = refl
met_domain (row ∷ rows) place at h =
    and_from (int_le (pos 0) (form_at row (values place at))) (all_hold rows (values place at))
    (le-int_le (pos 0) (form_at row (values place at)) (subst (λ z. pos 0 ≤ℤ z) (row_at-at_place row place at) h.0))
    (met_domain rows place at h.1)

-- The rows of a level

pub level_met : (c p : ℕ) (less : Bool) (a b : List Form) (rows : List RowExpr) (at : List ℤ)
    → slice_get (order_rows c less a b) p ≡ Some rows → take p (values a at) ≡ take p (values b at)
    → (p < c → slice_index_or (values a at) p (pos 0) <ℤ slice_index_or (values b at) p (pos 0)) → AreMet rows at
level_met zero zero true a b rows at e equal less = subst (λ rows. AreMet rows at) (same_Some [] rows e) tt
level_met zero zero false a b rows at e equal less = absurd (let f : None ≡ Some rows = e in cc)
level_met zero (suc p) true a b rows at e equal less = absurd (let f : None ≡ Some rows = e in cc)
level_met zero (suc p) false a b rows at e equal less = absurd (let f : None ≡ Some rows = e in cc)
level_met (suc c) p l [] b rows at e equal less = absurd (let f : None ≡ Some rows = e in cc)
level_met (suc c) p l (v ∷ a) [] rows at e equal less = absurd (let f : None ≡ Some rows = e in cc)
level_met (suc c) zero l (v ∷ a) (x ∷ b) rows at e equal less =
    let low : form_at v at <ℤ form_at x at = less (omega arith) in
    subst (λ rows. AreMet rows at) (same_Some (one_less (minus (Take x) (Take v)) ∷ []) rows e)
    (omega (arith, ints, low), tt)
level_met (suc c) (suc p) l (v ∷ a) (x ∷ b) rows at e equal less =
    let pair : List RowExpr = equal_rows (Take v) (Take x) in
    let i = option_map-some (λ inner. pair ++ inner) (slice_get (order_rows c l a b) p) rows (sym (slice_get-map (λ inner. pair ++ inner) (order_rows c l a b) p) ∙ e) in
    let first : form_at v at ≡ form_at x at =
    same_head (form_at v at) (form_at x at) (take p (values a at)) (take p (values b at)) equal in
    let rest : take p (values a at) ≡ take p (values b at) =
    same_tail (form_at v at) (form_at x at) (take p (values a at)) (take p (values b at)) equal in
    subst (λ rows. AreMet rows at) i.2
    (AreMet-append pair i.0 at (AreMet-equal_rows (Take v) (Take x) at first)
    (level_met c p l a b i.0 at i.1 rest (λ lt. less (omega (arith, lt)))))
