-- What a sum of rows has where each row has it.
use Rattle.std.proofs.Common.{◌≡◌, ℕ, zero, suc, pos, List, [], ◌∷◌, ◌++◌, length, refl, ap, subst}
use Rattle.std.specs.Prelude.{Option, Some, None, Result, Ok, Err, slice_get}
use Rattle.std.specs.Option.{option_and_then, option_or, ok_or}
use Rattle.std.proofs.lemmas.Option.{option_and_then_some, same_Some}
use Rattle.affine_core.specs.declared.form.Form.{Form}
use Rattle.affine_core.specs.Affine.{form_product, form_sum, constant_form}
use Rattle.affine_core.specs.Within.{form_in_128_bits}
use Rattle.affine_core.proofs.Linear.{form_in_128_bits_is}
use Rattle.int_polyhedra.specs.declared.system.Reason.{Reason}
use Rattle.int_polyhedra.specs.declared.system.Term.{Term}
use Rattle.int_polyhedra.specs.Steps.{row_unless, row_and_then, refusal_or, bad_row_number, negative_multiplier}
use Rattle.int_polyhedra.specs.Steps.{sum_with, sum_onto, sum_of}

-- P of each, as nested pairs
abbrev pub Each : {X : Type 0} → (X → Type 0) → List X → Type 0
Each P [] = Unit {0}
Each P (x ∷ xs) = P x × Each P xs

pub each_get : {X : Type 0} (P : X → Type 0) (xs : List X) (k : ℕ) (x : X) → Each P xs → slice_get xs k ≡ Some x → P x
each_get P [] k x h e = absurd (let f : None ≡ Some x = e in cc)
each_get P (y ∷ xs) zero x h e = subst P (same_Some y x e) h.0
each_get P (y ∷ xs) (suc k) x h e = each_get P xs k x h.1 e

pub each_more : {X : Type 0} (P : X → Type 0) (xs : List X) (x : X) → Each P xs → P x → Each P (xs ++ x ∷ [])
each_more P [] x h p = (p, tt)
each_more P (y ∷ xs) x h p = (h.0, each_more P xs x h.1 p)

pub option_or_none : (a b : Option Reason) → option_or a b ≡ None → (a ≡ None) × (b ≡ None)
option_or_none None b e = (refl, e)
option_or_none (Some r) b e = absurd (let f : Some r ≡ None = e in cc)

pub row_unless_ok : (a : Option Reason) (r : Result Form Reason) (f : Form) → row_unless a r ≡ Ok f
    → (a ≡ None) × (r ≡ Ok f)
row_unless_ok None r f e = (refl, e)
row_unless_ok (Some x) r f e = absurd (let g : Err x ≡ Ok f = e in cc)

pub ok_or_ok : (o : Option Form) (r : Reason) (f : Form) → ok_or o r ≡ Ok f → o ≡ Some f
ok_or_ok (Some g) r f e = let h : g ≡ f = (let k : Ok g ≡ Ok f = e in cc) in ap Some h
ok_or_ok None r f e = absurd (let g : Err r ≡ Ok f = e in cc)

pub row_and_then_ok : {C : Type 0} (next : Form → Result Form Reason) (r : Result Form Reason) (f : Form)
    → row_and_then next r ≡ Ok f
    → ((g : Form) → r ≡ Ok g → next g ≡ Ok f → C) → C
row_and_then_ok next (Ok g) f e use_it = use_it g refl e
row_and_then_ok next (Err x) f e use_it = absurd (let g : Err x ≡ Ok f = e in cc)

pub refusal_or_none : {C : Type 0} (next : Form → Option Reason) (r : Result Form Reason) → refusal_or next r ≡ None
    → ((g : Form) → r ≡ Ok g → next g ≡ None → C) → C
refusal_or_none next (Ok g) e use_it = use_it g refl e
refusal_or_none next (Err x) e use_it = absurd (let g : Some x ≡ None = e in cc)

module _ (P : Form → Type 0) (Q : Term → Type 0)
    (scale : (t : Term) (f : Form) → Q t → P f → P (form_product t.times f))
    (add : (f g : Form) → P f → P g → P (form_sum f g)) where
  pub sum_with_keeps : (rows : List Form) (sum : Form) (t : Term) (f : Form) → Each P rows → P sum → Q t
      → sum_with rows sum t ≡ Some f → P f
  sum_with_keeps rows sum t f each s q e =
      option_and_then_some
      (λ row. option_and_then (λ more. form_in_128_bits (form_sum sum more))
      (form_in_128_bits (form_product t.times row))) (slice_get rows t.row) f e
      (λ row is e'.
      option_and_then_some (λ more. form_in_128_bits (form_sum sum more))
      (form_in_128_bits (form_product t.times row)) f e'
      (λ more is' e''. subst P (form_in_128_bits_is (form_sum sum more) f e'')
      (add sum more s
      (subst P (form_in_128_bits_is (form_product t.times row) more is')
      (scale t row q (each_get P rows t.row row each is))))))

  pub sum_onto_keeps : (rows : List Form) (sum : Form) (terms : List Term) (f : Form) → Each P rows → P sum
      → Each Q terms → sum_onto rows sum terms ≡ Some f → P f
  sum_onto_keeps rows sum [] f each s q e = subst P (same_Some sum f e) s
  sum_onto_keeps rows sum (t ∷ terms) f each s q e =
      option_and_then_some (λ next. sum_onto rows next terms) (sum_with rows sum t) f e
      (λ next is e'. sum_onto_keeps rows next terms f each (sum_with_keeps rows sum t next each s q.0 is) q.1 e')

  pub sum_of_keeps : (vars : ℕ) (rows : List Form) (divisor : Option Reason) (terms : List Term) (f : Form)
      → Each P rows → P (constant_form vars (pos 0))
      → (negative_multiplier terms ≡ None → Each Q terms) → sum_of vars rows divisor terms ≡ Ok f → P f
  sum_of_keeps vars rows divisor terms f each z times e =
      let u = row_unless_ok
      (option_or (bad_row_number (length rows) terms) (option_or divisor (negative_multiplier terms)))
      (ok_or (sum_onto rows (constant_form vars (pos 0)) terms) _) f e in
      let n = option_or_none (bad_row_number (length rows) terms) (option_or divisor (negative_multiplier terms)) u.0 in
      let m = option_or_none divisor (negative_multiplier terms) n.1 in
      sum_onto_keeps rows (constant_form vars (pos 0)) terms f each z (times m.1)
      (ok_or_ok (sum_onto rows (constant_form vars (pos 0)) terms) _ f u.1)

-- the divisor of a Cut passed its test
pub sum_of_divisor : (vars : ℕ) (rows : List Form) (divisor : Option Reason) (terms : List Term) (f : Form)
    → sum_of vars rows divisor terms ≡ Ok f → divisor ≡ None
sum_of_divisor vars rows divisor terms f e =
    let u = row_unless_ok
    (option_or (bad_row_number (length rows) terms) (option_or divisor (negative_multiplier terms)))
    (ok_or (sum_onto rows (constant_form vars (pos 0)) terms) _) f e in
    (option_or_none divisor (negative_multiplier terms)
    (option_or_none (bad_row_number (length rows) terms) (option_or divisor (negative_multiplier terms)) u.0).1).0
