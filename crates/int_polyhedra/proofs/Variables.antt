-- The number of variables of rows, sums, quotients and negations.
use Rattle.std.proofs.Common.{◌≡◌, ◌==◌, ℕ, zero, suc, ℤ, pos, negsuc, List, [], ◌∷◌, ◌++◌, length, replicate}
use Rattle.std.proofs.Common.{Bool, true, false, cond, refl, sym, ap, ◌∙◌, eqb-true}
use Rattle.std.specs.Prelude.{Option, Some, Ok, Err, slice_get}
use Rattle.std.specs.Option.{ok_or}
use Rattle.std.proofs.lemmas.Bool.{eq-eqb, and_parts, and_from}
use Rattle.std.proofs.lemmas.Option.{option_and_then_some}
use Rattle.std.proofs.lemmas.List.{length-map}
use Rattle.affine_core.specs.declared.form.Form.{Form}
use Rattle.affine_core.specs.Affine.{form_product, form_sum, constant_form}
use Rattle.affine_core.specs.Within.{form_in_128_bits}
use Rattle.affine_core.proofs.Linear.{form_in_128_bits_is, length-sums}
use Rattle.int_polyhedra.specs.declared.system.Reason.{Reason}
use Rattle.int_polyhedra.specs.declared.system.Reason.TheVariants.{BadIndex, Overflow}
use Rattle.int_polyhedra.specs.declared.system.Term.{Term}
use Rattle.int_polyhedra.specs.Systems.{all_over, AreOver}
use Rattle.int_polyhedra.specs.Steps.{sum_with, sum_of, bad_divisor, floor, not_divisible, quotient_row, divided_row}
use Rattle.int_polyhedra.specs.Steps.{cut_row, negation_of, split_row}
use Rattle.int_polyhedra.proofs.SumInvariants.{Each, each_get, sum_with_keeps, sum_of_keeps, row_and_then_ok, row_unless_ok}
use Rattle.int_polyhedra.proofs.SumInvariants.{ok_or_ok}

pub length_zeros : (n : ℕ) → length (replicate n (pos 0)) ≡ n
length_zeros zero = refl
length_zeros (suc n) = ap suc (length_zeros n)

abbrev pub IsOver : ℕ → Form → Type 0
IsOver vars row = length row.coefs ≡ vars

pub each_over : (vars : ℕ) (rows : List Form) → AreOver vars rows → Each (IsOver vars) rows
each_over vars [] e = tt
each_over vars (row ∷ rows) e =
    let b = and_parts (length row.coefs == vars) (all_over vars rows) e in
    (eqb-true (length row.coefs) vars b.0, each_over vars rows b.1)

pub over_more : (vars : ℕ) (rows : List Form) (row : Form) → AreOver vars rows → length row.coefs ≡ vars
    → AreOver vars (rows ++ row ∷ [])
over_more vars [] row e h = and_from (length row.coefs == vars) true (eq-eqb (length row.coefs) vars h) refl
over_more vars (r ∷ rows) row e h =
    let b = and_parts (length r.coefs == vars) (all_over vars rows) e in
    and_from (length r.coefs == vars) (all_over vars (rows ++ row ∷ [])) b.0 (over_more vars rows row b.1 h)

pub over_at : (vars : ℕ) (rows : List Form) (k : ℕ) (row : Form) → AreOver vars rows → slice_get rows k ≡ Some row
    → length row.coefs ≡ vars
over_at vars rows k row e is = each_get (IsOver vars) rows k row (each_over vars rows e) is

pub product_over : (vars : ℕ) (by : ℤ) (row f : Form) → length row.coefs ≡ vars
    → Some f ≡ form_in_128_bits (form_product by row) → length f.coefs ≡ vars
product_over vars by row f e is =
    ap (λ (g : Form). length g.coefs) (sym (form_in_128_bits_is (form_product by row) f (sym is)))
    ∙ length-map row.coefs (λ c. _) ∙ e

AnyTerm : Term → Type 0
AnyTerm t = Unit {0}

each_any : (terms : List Term) → Each AnyTerm terms
unfolding AnyTerm
each_any [] = tt
each_any (t ∷ terms) = (tt, each_any terms)

module _ (vars : ℕ) where
  scale_keeps : (t : Term) (f : Form) → AnyTerm t → IsOver vars f → IsOver vars (form_product t.times f)
  scale_keeps t f q h = length-map f.coefs (λ c. _) ∙ h

  add_keeps : (f g : Form) → IsOver vars f → IsOver vars g → IsOver vars (form_sum f g)
  add_keeps f g h k = length-sums f.coefs g.coefs (h ∙ sym k) ∙ h

  pub sum_with_over : (rows : List Form) (sum : Form) (t : Term) (f : Form) → AreOver vars rows
      → length sum.coefs ≡ vars
      → Some f ≡ sum_with rows sum t → length f.coefs ≡ vars
  unfolding AnyTerm
  sum_with_over rows sum t f e h is =
      sum_with_keeps (IsOver vars) AnyTerm scale_keeps add_keeps rows sum t f (each_over vars rows e) h tt (sym is)

  pub sum_over : (rows : List Form) (divisor : Option Reason) (terms : List Term) (f : Form) → AreOver vars rows
      → sum_of vars rows divisor terms ≡ Ok f → length f.coefs ≡ vars
  sum_over rows divisor terms f e is =
      sum_of_keeps (IsOver vars) AnyTerm scale_keeps add_keeps vars rows divisor terms f (each_over vars rows e)
      (length_zeros vars) (λ h. each_any terms) is

  divided_over : (d : ℕ) (f g : Form) → length f.coefs ≡ vars → divided_row d f ≡ Ok g → length g.coefs ≡ vars
  divided_over d f g h is =
      let q : quotient_row d f ≡ g =
      (let u = (row_unless_ok (not_divisible d f.coefs) (Ok (quotient_row d f)) g is).1 in cc) in
      ap (λ (g : Form). length g.coefs) (sym q) ∙ length-map f.coefs (λ c. floor c d) ∙ h

  pub cut_over : (rows : List Form) (d : ℤ) (terms : List Term) (f : Form) → AreOver vars rows
      → Ok f ≡ cut_row vars rows d terms → length f.coefs ≡ vars
  cut_over rows d terms f e is =
      row_and_then_ok _ (sum_of vars rows (bad_divisor d) terms) f (sym is)
      (λ g sum div. divided_over _ g f (sum_over rows (bad_divisor d) terms g e sum) div)

pub negation_over : (form f : Form) → Some f ≡ negation_of form → length f.coefs ≡ length form.coefs
negation_over form f is =
    let one : Form = constant_form (length form.coefs) (negsuc 0) in
    option_and_then_some (λ minus. form_in_128_bits (form_sum minus one))
    (form_in_128_bits (form_product (negsuc 0) form)) f (sym is)
    (λ minus is' e. ap (λ (g : Form). length g.coefs) (sym (form_in_128_bits_is (form_sum minus one) f e))
    ∙ add_keeps (length form.coefs) minus one (product_over (length form.coefs) (negsuc 0) form minus refl (sym is'))
    (length_zeros (length form.coefs)))

pub split_is : (vars : ℕ) (form f : Form) → Ok f ≡ split_row vars form
    → (length form.coefs ≡ vars) × (negation_of form ≡ Some f)
split_is vars form f is = go (length form.coefs == vars) refl (sym is) where
  go : (b : Bool) → (length form.coefs == vars) ≡ b
      → cond b (ok_or (negation_of form) Overflow) (Err (BadIndex (length form.coefs))) ≡ Ok f
      → (length form.coefs ≡ vars) × (negation_of form ≡ Some f)
  go false is e = absurd (let k : Err (BadIndex (length form.coefs)) ≡ Ok f = e in cc)
  go true is e = (eqb-true (length form.coefs) vars is, ok_or_ok (negation_of form) Overflow f e)

pub split_over : (vars : ℕ) (form f : Form) → Ok f ≡ split_row vars form
    → (length form.coefs ≡ vars) × (length f.coefs ≡ vars)
split_over vars form f is = let s = split_is vars form f is in (s.0, negation_over form f (sym s.1) ∙ s.0)
