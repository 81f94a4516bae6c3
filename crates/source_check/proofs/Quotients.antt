-- The rows of a Divides at its quotient.
--
-- At the form's value divided by the divisor and rounded down, the form's value lies between the quotient times the
-- divisor and the next multiple. It is the multiple itself where the divisor divides it, and else above it.
use Rattle.std.proofs.Common.{◌≡◌, ◌+◌, ◌/◌, ◌%◌, ◌≤◌, ◌<◌, ℕ, suc, ℤ, pos, negsuc, ◌+ℤ◌, ◌*ℤ◌, ◌≤ℤ◌, ◌<ℤ◌, List}
use Rattle.std.proofs.Common.{[], ◌∷◌, ◌++◌, length, refl, sym, ap, ◌∙◌, arith, inl, inr, length-append}
use Rattle.std.specs.Prelude.{unsigned_abs}
use Rattle.std.proofs.lemmas.Bool.{cases_lt}
use Rattle.std.proofs.lemmas.Int.{ints}
use Rattle.std.proofs.Math.IntN.{*ℤ_comm}
use Rattle.std.proofs.Math.Nat.{mul-le-mul_left}
use Rattle.affine_core.specs.declared.form.Form.{Form}
use Rattle.affine_core.specs.Affine.{form_at, variable_form}
use Rattle.affine_core.proofs.Linear.{form_at_more, length-variable_form}
use Rattle.affine_core.proofs.Ring.{sum_times}
use Rattle.int_polyhedra.specs.Steps.{floor}
use Rattle.int_polyhedra.proofs.Floor.{floor_exact, floor_above}
use Rattle.source_tree.specs.Gives.{quotient}
use Rattle.source_tree.specs.Rows.{Take, row_at}
use Rattle.source_tree.specs.Systems.{multiple, divided_rows, undivided_rows}
use Rattle.source_tree.proofs.MetRows.{AreMet, AreMet-equal_rows}
use Rattle.source_check.proofs.Values.{IsWithin, AreWithin, one_variable_at}

-- where d doesn't divide z, the multiple of the quotient is below z
floor_below : (z : ℤ) (d : ℕ) → 0 < d → (unsigned_abs z % d ≡ 0 → ⊥) → (floor z d *ℤ pos d) <ℤ z
floor_below (pos n) d h no_ =
    elim (cases_lt 0 (n % d)) [ inl lt ↦ omega (arith, ints) | inr ge ↦ absurd (no_ (omega arith)) ]
floor_below (negsuc n) d h no_ = elim (cases_lt 0 (suc n % d)) [
  | inl lt ↦
      let a : ℕ = n / d in
      let b : ℕ = suc n / d in
      elim (cases_lt a b) [
        | inl l ↦ let m : suc a ≤ b = omega arith in omega (arith, ints, mul-le-mul_left d m)
        | inr ge ↦ let m : b ≤ a = omega arith in omega (arith, ints, mul-le-mul_left d m)
      ]
  | inr ge ↦ absurd (no_ (omega arith))
]

divisor_is : (d : ℤ) → pos 2 ≤ℤ d → (d ≡ pos (unsigned_abs d)) × (0 < unsigned_abs d)
divisor_is (pos n) h = (refl, omega (arith, ints))
divisor_is (negsuc n) h = absurd (omega (arith, ints))

module _ (form : Form) (d : ℤ) (vars : ℕ) (v : List ℤ) (over : length form.coefs ≡ length v) (same : vars ≡ length v)
    (two : pos 2 ≤ℤ d) where
  abbrev q : ℤ
  q = quotient form d v

  abbrev at : List ℤ
  at = v ++ q ∷ []

  form_is : row_at (Take form) at ≡ form_at form v
  form_is = form_at_more form v (q ∷ []) (omega (arith, over))

  multiple_is : row_at (multiple d vars) at ≡ q *ℤ pos (unsigned_abs d)
  multiple_is =
      ap (λ z. d *ℤ z) (one_variable_at vars v q [] same) ∙ *ℤ_comm d q ∙ ap (λ z. q *ℤ z) (divisor_is d two).0

  form_within : IsWithin (length at) (Take form)
  form_within = omega (arith, over, length-append v (q ∷ []))

  variable_within : IsWithin (length at) (Take (variable_form (vars + 1) vars))
  variable_within = omega (arith, same, length-append v (q ∷ []), length-variable_form vars)

  pub divided_within : AreWithin (length at) (divided_rows vars form d)
  divided_within = ((form_within, variable_within), ((variable_within, form_within), tt))

  pub divided_met : unsigned_abs (form_at form v) % unsigned_abs d ≡ 0 → AreMet (divided_rows vars form d) at
  divided_met e =
      AreMet-equal_rows (Take form) (multiple d vars) at
      (form_is ∙ floor_exact (form_at form v) (unsigned_abs d) (divisor_is d two).1 e ∙ sym multiple_is)

  pub undivided_within : AreWithin (length at) (undivided_rows vars form d)
  undivided_within = (
    ((form_within, variable_within), omega arith),
    ((((variable_within, omega arith), omega arith), form_within), tt),
  )

  pub undivided_met : (unsigned_abs (form_at form v) % unsigned_abs d ≡ 0 → ⊥) → AreMet (undivided_rows vars form d) at
  undivided_met e =
      let below : (q *ℤ pos (unsigned_abs d)) <ℤ form_at form v =
      floor_below (form_at form v) (unsigned_abs d) (divisor_is d two).1 e in
      let above : form_at form v <ℤ ((q +ℤ pos 1) *ℤ pos (unsigned_abs d)) =
      floor_above (form_at form v) (unsigned_abs d) (divisor_is d two).1 in
      let split : (q +ℤ pos 1) *ℤ pos (unsigned_abs d)
      ≡ (q *ℤ pos (unsigned_abs d)) +ℤ (pos 1 *ℤ pos (unsigned_abs d)) =
      sum_times q (pos 1) (pos (unsigned_abs d)) in
      let d_is : d ≡ pos (unsigned_abs d) = (divisor_is d two).0 in
      let f : row_at (Take form) at ≡ form_at form v = form_is in
      let m : row_at (multiple d vars) at ≡ q *ℤ pos (unsigned_abs d) = multiple_is in
      (omega (arith, ints, below, f, m), (omega (arith, ints, above, split, d_is, f, m), tt))
