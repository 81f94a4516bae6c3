-- A refuted system has no whole point.
--
-- By induction over the proof, for all rows: a point that meets each row meets the row that a step adds, so the rest of
-- the proof speaks of rows that it meets too (`proof_sound`). A sum whose multipliers aren't negative is at least 0
-- where its rows are (`sum_met`). A Cut's divisor divides each coefficient of its sum, so at a whole point the sum is the
-- constant and a multiple of the divisor, and its quotient is at least 0 with the constant's quotient rounded down
-- (`divided_met`). Of a Split's form and its negation, whose value is -value - 1, a whole point meets one. A
-- contradictory row is met nowhere. It isn't said that each system without a whole point has a proof.
use Rattle.std.proofs.Common.{◌≡◌, ◌<◌, ℕ, ℤ, pos, negsuc, ◌+ℤ◌, ◌*ℤ◌, ◌≤ℤ◌, ◌<ℤ◌, List, [], ◌∷◌, ◌++◌, length, map}
use Rattle.std.proofs.Common.{Bool, true, false, ◌&&◌, cond, refl, sym, ap, ◌∙◌, subst, arith}
use Rattle.std.specs.Prelude.{Option, Some, None, Result, Ok, Err, OnOk, All}
use Rattle.std.specs.List.{find, list_all}
use Rattle.std.specs.Ordering.{int_eq}
use Rattle.std.specs.Option.{option_or}
use Rattle.std.specs.Result.{result_err}
use Rattle.std.specs.Int.RustNames.{int_lt, unsigned_abs}
use Rattle.std.proofs.lemmas.Int.{ints, by_lt_z}
use Rattle.std.proofs.lemmas.Option.{option_and_then_some}
use Rattle.std.proofs.lemmas.List.Elements.{All-push, All-head, All-tail}
use Rattle.std.proofs.lemmas.List.{length-map}
use Rattle.affine_core.specs.declared.form.Form.{Form}
use Rattle.affine_core.specs.Affine.{form_at, form_product, form_sum, constant_form}
use Rattle.affine_core.specs.Within.{form_in_128_bits}
use Rattle.affine_core.proofs.Ring.{times_not_negative, factor_positive, sum_times}
use Rattle.affine_core.proofs.Linear.{dot, combined_is, product_at, sum_at, constant_at, form_in_128_bits_is}
use Rattle.affine_core.proofs.Linear.{length-sums}
use Rattle.affine_core.proofs.Integers.{int_eq-true, int_lt-false, int_lt-true, unsigned_abs-positive}
use Rattle.int_polyhedra.specs.declared.system.Proof.{Proof}
use Rattle.int_polyhedra.specs.declared.system.Proof.TheOpen.{Proof-F, Sum, Cut, Split}
use Rattle.int_polyhedra.specs.declared.system.Proof.TheFolds.{map-Proof, fold-roll-Proof, ind-Proof}
use Rattle.int_polyhedra.specs.declared.system.Proof.TheViews.{roll-Proof}
use Rattle.int_polyhedra.specs.declared.system.Reason.{Reason}
use Rattle.int_polyhedra.specs.declared.system.Reason.TheVariants.{Negative, NotContradictory}
use Rattle.int_polyhedra.specs.declared.system.Term.{Term}
use Rattle.int_polyhedra.specs.Systems.{all_over, AreOver, HasNoPoint, Entails}
use Rattle.int_polyhedra.specs.Steps.{sum_of, negative_multiplier, bad_divisor, is_contradictory, sum_refusal, floor}
use Rattle.int_polyhedra.specs.Steps.{not_divisible, quotient_row, divided_row, cut_row, negation_of, split_row}
use Rattle.int_polyhedra.specs.Refusal.{Refusal, refusal, refusal_step, entailment_refusal}
use Rattle.int_polyhedra.proofs.SumInvariants.{Each, each_more, sum_of_keeps, sum_of_divisor, row_and_then_ok, refusal_or_none}
use Rattle.int_polyhedra.proofs.SumInvariants.{row_unless_ok, option_or_none}
use Rattle.int_polyhedra.proofs.Variables.{length_zeros, each_over, IsOver, split_is}
use Rattle.int_polyhedra.proofs.Variables.{split_over, over_more}
use Rattle.int_polyhedra.proofs.ListSearch.{mapped_none, find_none}
use Rattle.int_polyhedra.proofs.Floor.{floor_above, dot_floors}

dot_none : (cs at : List ℤ) → list_all (λ c. int_eq c (pos 0)) cs ≡ true → dot cs at ≡ pos 0
dot_none [] at e = refl
dot_none (c ∷ cs) at e = go (dot_none cs) (int_eq c (pos 0)) refl at e where
  go : ((at : List ℤ) → list_all (λ c. int_eq c (pos 0)) cs ≡ true → dot cs at ≡ pos 0) → (b : Bool)
      → int_eq c (pos 0) ≡ b → (at : List ℤ) → (b && list_all (λ c. int_eq c (pos 0)) cs) ≡ true
      → dot (c ∷ cs) at ≡ pos 0
  go more false is at e = absurd (let f : false ≡ true = e in cc)
  go more true is [] e = refl
  go more true is (v ∷ at) e =
      let z : c ≡ pos 0 = int_eq-true c (pos 0) is in
      omega (arith, ints, ap (λ x. x *ℤ v) z, more at e)

NotNegative : Term → Type 0
NotNegative t = pos 0 ≤ℤ t.times

each_found : (terms : List Term) → find (λ term. int_lt term.times (pos 0)) terms ≡ None → Each NotNegative terms
unfolding NotNegative
each_found [] e = tt
each_found (t ∷ terms) e =
    let f = find_none (λ (term : Term). int_lt term.times (pos 0)) t terms e in
    (int_lt-false t.times (pos 0) f.0, each_found terms f.1)

each_times : (terms : List Term) → negative_multiplier terms ≡ None → Each NotNegative terms
each_times terms e = each_found terms (mapped_none _ (find (λ term. int_lt term.times (pos 0)) terms) e)

-- the negation's value is -value - 1
pub negation_at : (form other : Form) (at : List ℤ) → negation_of form ≡ Some other
    → form_at other at ≡ (form_at form at *ℤ negsuc 0) +ℤ negsuc 0
negation_at form other at is =
    let one : Form = constant_form (length form.coefs) (negsuc 0) in
    option_and_then_some (λ minus. form_in_128_bits (form_sum minus one))
    (form_in_128_bits (form_product (negsuc 0) form)) other is
    (λ minus is' e.
    let m : form_product (negsuc 0) form ≡ minus = form_in_128_bits_is (form_product (negsuc 0) form) minus is' in
    let w : length (form_product (negsuc 0) form).coefs ≡ length one.coefs =
    length-map form.coefs (λ c. c *ℤ negsuc 0) ∙ sym (length_zeros (length form.coefs)) in
    ap (λ f. form_at f at) (sym (form_in_128_bits_is (form_sum minus one) other e))
    ∙ ap (λ f. form_at (form_sum f one) at) (sym m)
    ∙ sum_at (form_product (negsuc 0) form) one at w
    ∙ ap (λ z. z +ℤ form_at one at) (product_at (negsuc 0) form at)
    ∙ ap (λ z. (form_at form at *ℤ negsuc 0) +ℤ z) (constant_at (length form.coefs) (negsuc 0) at))

module _ (at : List ℤ) where
  abbrev pub IsMet : Form → Type 0
  IsMet row = (length row.coefs ≡ length at) × (pos 0 ≤ℤ form_at row at)

  scale_met : (t : Term) (f : Form) → NotNegative t → IsMet f → IsMet (form_product t.times f)
  unfolding NotNegative
  scale_met t f k h = (
    length-map f.coefs (λ c. c *ℤ t.times) ∙ h.0,
    subst (λ z. pos 0 ≤ℤ z) (sym (product_at t.times f at)) (times_not_negative (form_at f at) t.times h.1 k),
  )

  add_met : (f g : Form) → IsMet f → IsMet g → IsMet (form_sum f g)
  add_met f g h k =
      let e : length f.coefs ≡ length g.coefs = h.0 ∙ sym k.0 in (
        length-sums f.coefs g.coefs e ∙ h.0,
        (let s : pos 0 ≤ℤ (form_at f at +ℤ form_at g at) =
            omega (arith, ints, h.1, k.1) in subst (λ z. pos 0 ≤ℤ z) (sym (sum_at f g at e)) s),
      )

  zero_met : IsMet (constant_form (length at) (pos 0))
  zero_met = (
    length_zeros (length at),
    subst (λ z. pos 0 ≤ℤ z) (sym (constant_at (length at) (pos 0) at)) (omega (arith, ints)),
  )

  sum_met : (rows : List Form) (divisor : Option Reason) (terms : List Term) (f : Form) → Each IsMet rows
      → sum_of (length at) rows divisor terms ≡ Ok f → IsMet f
  sum_met rows divisor terms f each e =
      sum_of_keeps IsMet NotNegative scale_met add_met (length at) rows divisor terms f each zero_met
      (each_times terms) e

  not_met : (f : Form) → is_contradictory f ≡ true → IsMet f → ⊥
  not_met f e h = go (int_lt f.constant (pos 0)) refl e where
    go : (b : Bool) → int_lt f.constant (pos 0) ≡ b → (b && list_all (λ c. int_eq c (pos 0)) f.coefs) ≡ true → ⊥
    go false is e = absurd (let f : false ≡ true = e in cc)
    go true is e =
        let low : f.constant <ℤ pos 0 = int_lt-true f.constant (pos 0) is in
        omega (arith, ints, h.1, combined_is f.constant f.coefs at, dot_none f.coefs at e)

  divided_met : (d : ℕ) (f g : Form) → 0 < d → divided_row d f ≡ Ok g → IsMet f → IsMet g
  divided_met d f g pos_d e h =
      let u = row_unless_ok (not_divisible d f.coefs) (Ok (quotient_row d f)) g e in
      let q : quotient_row d f ≡ g = (let k : Ok (quotient_row d f) ≡ Ok g = u.1 in cc) in
      let s : ℤ = dot (map (λ c. floor c d) f.coefs) at in
      let value : form_at f at ≡ f.constant +ℤ (s *ℤ pos d) =
      combined_is f.constant f.coefs at ∙ ap (λ z. f.constant +ℤ z) (dot_floors d f.coefs at pos_d u.0) in
      let above : f.constant <ℤ ((floor f.constant d +ℤ pos 1) *ℤ pos d) = floor_above f.constant d pos_d in
      let product : pos 0 <ℤ (((floor f.constant d +ℤ pos 1) +ℤ s) *ℤ pos d) =
      omega (arith, ints, h.1, value, above, sum_times (floor f.constant d +ℤ pos 1) s (pos d)) in
      let factor : pos 0 <ℤ ((floor f.constant d +ℤ pos 1) +ℤ s) =
      factor_positive ((floor f.constant d +ℤ pos 1) +ℤ s) (pos d) (omega (arith, ints)) product in
      let met : pos 0 ≤ℤ (floor f.constant d +ℤ s) = omega (arith, ints, factor) in
      subst IsMet q (
        length-map f.coefs (λ c. floor c d) ∙ h.0,
        subst (λ z. pos 0 ≤ℤ z) (sym (combined_is (floor f.constant d) (map (λ c. floor c d) f.coefs) at)) met,
      )

  divisor_above : (d : ℤ) → bad_divisor d ≡ None → 0 < unsigned_abs d
  divisor_above d e = go (int_lt d (pos 1)) refl e where
    go : (b : Bool) → int_lt d (pos 1) ≡ b → cond b (Some (Negative d)) None ≡ None → 0 < unsigned_abs d
    go true is e = absurd (let f : Some (Negative d) ≡ None = e in cc)
    go false is e = unsigned_abs-positive d (int_lt-false d (pos 1) is)

  cut_met : (rows : List Form) (d : ℤ) (terms : List Term) (f : Form) → Each IsMet rows
      → cut_row (length at) rows d terms ≡ Ok f → IsMet f
  cut_met rows d terms f each e =
      row_and_then_ok (divided_row (unsigned_abs d)) (sum_of (length at) rows (bad_divisor d) terms) f e
      (λ g sum div.
      divided_met (unsigned_abs d) g f
      (divisor_above d (sum_of_divisor (length at) rows (bad_divisor d) terms g sum)) div
      (sum_met rows (bad_divisor d) terms g each sum))

  -- where the form is below 0, its negation is met
  split_met : (form f : Form) → form_at form at <ℤ pos 0 → Ok f ≡ split_row (length at) form → IsMet f
  split_met form f below is =
      let v : form_at f at ≡ (form_at form at *ℤ negsuc 0) +ℤ negsuc 0 =
      negation_at form f at (split_is (length at) form f is).1 in
      let met : pos 0 ≤ℤ ((form_at form at *ℤ negsuc 0) +ℤ negsuc 0) = omega (arith, ints, below) in
      ((split_over (length at) form f is).1, subst (λ z. pos 0 ≤ℤ z) (sym v) met)

  abbrev IsSound : Proof → Type 0
  IsSound p = (rows : List Form) → Each IsMet rows → refusal (length at) p rows ≡ None → ⊥

  abbrev Sounded : Type 0
  Sounded = (p : Proof) × IsSound p

  ended : (f : Form) → sum_refusal f ≡ None → IsMet f → ⊥
  ended f e h = go (is_contradictory f) refl e where
    go : (b : Bool) → is_contradictory f ≡ b → cond b None (Some (NotContradictory f)) ≡ None → ⊥
    go false is e = let k : Some (NotContradictory f) ≡ None = e in cc
    go true is e = not_met f is h

  layer_sound : (y : Proof-F Sounded) → IsSound (roll-Proof (map-Proof Sounded Proof (λ e. e.0) y))
  unfolding refusal
  layer_sound (Sum terms) rows each e =
      refusal_or_none sum_refusal (sum_of (length at) rows None terms)
      (ap (λ (r : Refusal). r rows) (sym (fold-roll-Proof Refusal (refusal_step (length at)) (Sum terms))) ∙ e)
      (λ f is end. ended f end (sum_met rows None terms f each is))
  layer_sound (Cut d terms rest) rows each e =
      refusal_or_none (λ row. refusal (length at) rest.0 (rows ++ row ∷ [])) (cut_row (length at) rows d terms)
      (ap (λ (r : Refusal). r rows) (sym (fold-roll-Proof Refusal (refusal_step (length at)) (Cut d terms rest.0))) ∙ e)
      (λ f is end. rest.1 (rows ++ f ∷ []) (each_more IsMet rows f each (cut_met rows d terms f each is)) end)
  layer_sound (Split form above below) rows each e =
      refusal_or_none
      (λ other. option_or (refusal (length at) above.0 (rows ++ form ∷ []))
      (refusal (length at) below.0 (rows ++ other ∷ []))) (split_row (length at) form)
      (ap (λ (r : Refusal). r rows)
      (sym (fold-roll-Proof Refusal (refusal_step (length at)) (Split form above.0 below.0))) ∙ e)
      (λ other is end.
      let ends =
      option_or_none (refusal (length at) above.0 (rows ++ form ∷ []))
      (refusal (length at) below.0 (rows ++ other ∷ [])) end in
      by_lt_z (form_at form at) (pos 0)
      (λ lt. below.1 (rows ++ other ∷ []) (each_more IsMet rows other each (split_met form other lt (sym is))) ends.1)
      (λ ge. above.1 (rows ++ form ∷ [])
      (each_more IsMet rows form each ((split_over (length at) form other (sym is)).0, ge)) ends.0))

  proof_sound : (p : Proof) → IsSound p
  proof_sound = ind-Proof IsSound (λ x y is. subst (λ z. IsSound (roll-Proof z)) is (layer_sound y))

met_each : (rows : List Form) (at : List ℤ) → Each (IsOver (length at)) rows
    → Each (λ row. pos 0 ≤ℤ form_at row at) rows → Each (IsMet at) rows
met_each [] at o m = tt
met_each (row ∷ rows) at o m = ((o.0, m.0), met_each rows at o.1 m.1)

each_from : {X : Type 0} (P : X → Type 0) (xs : List X) → All P xs → Each P xs
each_from P [] h = tt
each_from P (x ∷ xs) h = (All-head P x xs h, each_from P xs (All-tail P x xs h))

pub no_point : (vars : ℕ) (rows : List Form) (p : Proof) → AreOver vars rows → refusal vars p rows ≡ None
    → HasNoPoint vars rows
no_point vars rows p over e at len meets =
    let same : length at ≡ vars = len in
    proof_sound at p rows
    (met_each rows at (each_over (length at) rows (ap (λ n. all_over n rows) same ∙ over))
    (each_from (λ row. pos 0 ≤ℤ form_at row at) rows meets)) (ap (λ n. refusal n p rows) same ∙ e)

pub entails_row : (vars : ℕ) (rows : List Form) (row : Form) (p : Proof) → AreOver vars rows
    → entailment_refusal vars rows row p ≡ None → Entails vars rows row
entails_row vars rows row p over e at len meets =
    refusal_or_none (λ other. refusal vars p (rows ++ other ∷ [])) (split_row vars row) e
    (λ other is end.
    let same : length at ≡ vars = len in
    let o = split_over vars row other (sym is) in
    by_lt_z (form_at row at) (pos 0)
    (λ lt.
    let met : pos 0 ≤ℤ form_at other at =
    (split_met at row other lt (sym is ∙ ap (λ n. split_row n row) (sym same))).1 in
    absurd (no_point vars (rows ++ other ∷ []) p (over_more vars rows other over o.1) end at len
    (All-push (λ row. pos 0 ≤ℤ form_at row at) rows other meets met)))
    (λ ge. ge))

-- what the results of the calls say of whole points
pub refutes_sound : {U : Type 0} (vars : ℕ) (rows : List Form) (p : Proof) (r : Result U Reason) → AreOver vars rows
    → result_err r ≡ refusal vars p rows → OnOk r (HasNoPoint vars rows)
refutes_sound vars rows p (Ok u) over e = no_point vars rows p over (sym e)
refutes_sound vars rows p (Err x) over e = tt

pub entails_sound : {U : Type 0} (vars : ℕ) (rows : List Form) (row : Form) (p : Proof) (r : Result U Reason)
    → AreOver vars rows → result_err r ≡ entailment_refusal vars rows row p → OnOk r (Entails vars rows row)
entails_sound vars rows row p (Ok u) over e = entails_row vars rows row p over (sym e)
entails_sound vars rows row p (Err x) over e = tt
