-- Rows that were made have the value of what they were made from, and so a refuted system is met by no whole point.
use Rattle.std.proofs.Common.{◌≡◌, ◌-◌, ◌≤◌, ◌==◌, ℕ, ℤ, pos, ◌+ℤ◌, ◌*ℤ◌, ◌≤ℤ◌, List, [], ◌∷◌, length, replicate, Bool}
use Rattle.std.proofs.Common.{true, false, cond, refl, sym, ap, ◌∙◌, subst, arith, length-append, leb-true}
use Rattle.std.specs.Prelude.{Some, None, nat_le}
use Rattle.std.specs.Option.{option_and_then}
use Rattle.std.proofs.lemmas.Bool.{eq-eqb, and_from}
use Rattle.std.proofs.lemmas.List.Elements.{All-nil, All-cons}
use Rattle.std.proofs.lemmas.Option.{same_Some, option_and_then_some}
use Rattle.std.proofs.Math.IntN.{*ℤ_comm}
use Rattle.std.proofs.lemmas.List.{length-map}
use Rattle.affine_core.specs.declared.form.Form.{Form}
use Rattle.affine_core.specs.Affine.{form_at, form_product, form_sum, widened_form}
use Rattle.affine_core.specs.Within.{form_in_128_bits}
use Rattle.affine_core.proofs.Linear.{product_at, sum_at, widened_at, form_in_128_bits_is, length-sums}
use Rattle.int_polyhedra.specs.declared.system.Proof.{Proof}
use Rattle.int_polyhedra.specs.Systems.{all_over, AreOver, Meets}
use Rattle.int_polyhedra.proofs.ProofRules.{follows_refuted}
use Rattle.int_polyhedra.proofs.Soundness.{no_point}
use Rattle.int_polyhedra.proofs.Variables.{length_zeros}
use Rattle.sanlp.proofs.Each.{Each}
use Rattle.source_tree.specs.Checked.{IsRefuted, AreRefuted}
use Rattle.source_tree.specs.Rows.{RowExpr, RowSystem, Take, Plus, Times, row_at, row_form, row_forms}
use Rattle.source_tree.proofs.MetRows.{AreMet}
use Rattle.source_check.proofs.Leaves.{IsEmpty}

-- the row has so many variables and the value
pub record IsMade (vars : ℕ) (e : RowExpr) (f : Form) : Type 0 where
  pub over : length f.coefs ≡ vars
  pub same : (at : List ℤ) → form_at f at ≡ row_at e at

pub widened_over : (vars : ℕ) (form : Form) → length form.coefs ≤ vars → length (widened_form vars form).coefs ≡ vars
widened_over vars form h =
    let k : ℕ = vars - length form.coefs in
    omega (arith, length-append form.coefs (replicate k (pos 0)), length_zeros k)

take_made : (vars : ℕ) (form f : Form) (b : Bool) → nat_le (length form.coefs) vars ≡ b
    → cond b (Some (widened_form vars form)) None ≡ Some f → IsMade vars (Take form) f
take_made vars form f false e is = absurd (let g : None ≡ Some f = is in cc)
take_made vars form f true e is =
    subst (IsMade vars (Take form)) (same_Some (widened_form vars form) f is)
    (record {
      over = widened_over vars form (leb-true (length form.coefs) vars e);
      same = λ at. widened_at vars form at;
    })

pub made_is : (vars : ℕ) (e : RowExpr) (f : Form) → row_form vars e ≡ Some f → IsMade vars e f
made_is vars (Take form) f is = take_made vars form f (nat_le (length form.coefs) vars) refl is
made_is vars (Plus a b) f is =
    option_and_then_some (λ left. option_and_then (λ right. form_in_128_bits (form_sum left right)) (row_form vars b))
    (row_form vars a) f is
    (λ left is_left is'. option_and_then_some (λ right. form_in_128_bits (form_sum left right)) (row_form vars b) f is'
    (λ right is_right sum.
    let l = made_is vars a left is_left in
    let r = made_is vars b right is_right in
    let even : length left.coefs ≡ length right.coefs = l.over ∙ sym r.over in
    subst (IsMade vars (Plus a b)) (form_in_128_bits_is (form_sum left right) f sum)
    (record {
      over = length-sums left.coefs right.coefs even ∙ l.over;
      same = λ at. sum_at left right at even ∙ ap (λ z. z +ℤ form_at right at) (l.same at)
          ∙ ap (λ z. row_at a at +ℤ z) (r.same at);
    })))
made_is vars (Times k e) f is =
    option_and_then_some (λ form. form_in_128_bits (form_product k form)) (row_form vars e) f is
    (λ form is_form product.
    let m = made_is vars e form is_form in
    subst (IsMade vars (Times k e)) (form_in_128_bits_is (form_product k form) f product)
    (record {
      over = length-map form.coefs (λ c. c *ℤ k) ∙ m.over;
      same = λ at. product_at k form at ∙ *ℤ_comm (form_at form at) k ∙ ap (λ z. k *ℤ z) (m.same at);
    }))

pub all_made_is : (vars : ℕ) (es : List RowExpr) (rows : List Form) → row_forms vars es ≡ Some rows
    → AreOver vars rows × ((at : List ℤ) → AreMet es at → Meets rows at)
all_made_is vars [] rows is =
    subst (λ rows. AreOver vars rows × ((at : List ℤ) → Unit {0} → Meets rows at)) (same_Some [] rows is)
    (refl, λ at m. All-nil _)
all_made_is vars (e ∷ es) rows is =
    option_and_then_some (λ row. option_and_then (λ rest. Some (row ∷ rest)) (row_forms vars es))
    (row_form vars e) rows is
    (λ row is_row is'. option_and_then_some (λ rest. Some (row ∷ rest)) (row_forms vars es) rows is'
    (λ rest is_rest whole.
    let m = made_is vars e row is_row in
    let more = all_made_is vars es rest is_rest in
    subst (λ rows. AreOver vars rows × ((at : List ℤ) → AreMet (e ∷ es) at → Meets rows at))
    (same_Some (row ∷ rest) rows whole) (
      and_from (length row.coefs == vars) (all_over vars rest) (eq-eqb (length row.coefs) vars m.over) more.0,
      λ at met. All-cons (λ row. pos 0 ≤ℤ form_at row at) row rest (subst (λ z. pos 0 ≤ℤ z) (sym (m.same at)) met.0)
          (more.1 at met.1),
    )))

refuted_is_empty : (s : RowSystem) (p : Proof) → IsRefuted s p → IsEmpty s
refuted_is_empty s p h =
    let m = all_made_is s.vars s.rows h.rows h.are_made in
    record {
      none =
          λ at long met. no_point s.vars h.rows p m.0 (follows_refuted s.vars h.rows p h.refuted) at long (m.1 at met);
    }

pub refuted_are_empty : (systems : List RowSystem) (proofs : List Proof) → AreRefuted systems proofs
    → Each IsEmpty systems
refuted_are_empty [] proofs h = tt
refuted_are_empty (s ∷ systems) [] h = absurd h
refuted_are_empty (s ∷ systems) (p ∷ proofs) h = (refuted_is_empty s p h.0, refuted_are_empty systems proofs h.1)
