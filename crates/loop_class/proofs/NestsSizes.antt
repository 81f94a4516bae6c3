-- The forms, rows and bounds of a nest: which loops they name, and how large their numbers are.
--
-- Three sizes of number: limited numbers in forms as they are written, bounds of loops, which may be 1 lower, and
-- moderate numbers in rows, which are differences of these (`Moderate` has the numbers). Each is kept beside the
-- property that no loop further in is named (`IsOver`), and both pass together from the forms of a loop's bounds to its
-- rows (`loop_rows_are`). The row of a turn has the step as the coefficient of the loop itself, since none of its
-- bounds names that loop. So all rows and bounds fit the loops round them (`row_fits`).
use Rattle.std.proofs.Common.{◌≡◌, ◌<◌, ◌≤◌, ℕ, zero, suc, ℤ, pos, negsuc, ◌-ℤ◌, ◌≤ℤ◌, ◌<ℤ◌, List, [], ◌∷◌, map, length}
use Rattle.std.proofs.Common.{take, replicate, Bool, refl, sym, arith, subst}
use Rattle.std.specs.Prelude.{IsTrue, slice_set}
use Rattle.std.specs.Int.RustNames.{int_le}
use Rattle.std.specs.List.{list_all}
use Rattle.std.specs.Cmp.Derive.{both_true}
use Rattle.std.proofs.lemmas.Bool.{and_parts, eq-eqb}
use Rattle.std.proofs.lemmas.Int.{ints}
use Rattle.affine_core.proofs.Integers.{int_le-true, le-int_le}
use Rattle.sanlp.specs.WellFormed.{is_moderate, form_fits}
use Rattle.sanlp.proofs.Each.{Each, each_append, each_map, each_then}
use Rattle.loop_bind.specs.declared.affine.Affine.{Affine}
use Rattle.loop_bind.specs.declared.bounds.Bounds.{Bounds}
use Rattle.loop_bind.specs.declared.bounds.Bounds.TheVariants.{Range, Progression}
use Rattle.loop_bind.specs.Forms.{loop_form, multiple_form, termwise, difference_form, lowered_form, is_limited_number}
use Rattle.loop_bind.specs.Forms.{is_limited, form_over}
use Rattle.loop_bind.specs.Bounds.{lower_of, upper_of}
use Rattle.loop_bind.specs.Ranges.{is_bound_number}
use Rattle.loop_bind.specs.Rows.{turn_row, loop_rows}
use Rattle.loop_bind.proofs.Moderate.{moderate_bound_number, moderate_reach_number, moderate_gap}
use Rattle.loop_bind.proofs.Moderate.{moderate_negated, moderate_form, bound_form, bound_lowered, moderate_difference}
use Rattle.loop_bind.proofs.Moderate.{moderate_lowered_difference, limited_multiples, moderate_gaps, moderate_numbers}
use Rattle.loop_class.proofs.NestsForms.{IsOver, over_length, over_deeper, over_termwise, over_multiple, take_length}

-- a form inside so many loops, as it is written
pub record IsForm (d : ℕ) (f : Affine) : Type 0 where
  pub over : IsOver 6 d f.coefs
  pub limited : IsTrue (is_limited f)

-- a row inside so many loops
pub record IsRow (d : ℕ) (f : Affine) : Type 0 where
  pub over : IsOver 6 d f.coefs
  pub constant : IsTrue (is_moderate f.constant)
  pub coefs : IsTrue (list_all is_moderate f.coefs)

-- a bound of a loop inside so many loops
pub record IsBound (d : ℕ) (f : Affine) : Type 0 where
  pub over : IsOver 6 d f.coefs
  pub constant : IsTrue (is_bound_number f.constant)
  pub coefs : IsTrue (list_all is_limited_number f.coefs)

module _ (d : ℕ) (f : Affine) (h : IsForm d f) where
  pub form_bound : IsBound d f
  form_bound =
      record {
        over = h.over;
        constant = (and_parts (is_bound_number f.constant) _ (bound_form f h.limited)).0;
        coefs =
            (and_parts (is_limited_number f.constant) _ h.limited).1;
      }

  pub form_lowered : IsBound d (lowered_form f)
  form_lowered =
      record {
        over = h.over;
        constant = (and_parts (is_bound_number (f.constant -ℤ pos 1))
            (list_all is_limited_number f.coefs) (bound_lowered f h.limited)).0;
        coefs =
            (and_parts (is_limited_number f.constant) _ h.limited).1;
      }

  pub form_row : IsRow d f
  form_row = let m = and_parts _ _ (moderate_form f h.limited) in record { over = h.over; constant = m.0; coefs = m.1 }

module _ (d : ℕ) (f g : Affine) (h : IsForm d f) (k : IsForm d g) where
  pub difference_row : IsRow d (difference_form f g)
  difference_row =
      let m = and_parts _ _ (moderate_difference f g h.limited k.limited) in
      record { over = over_termwise ◌-ℤ◌ refl 6 d f.coefs g.coefs h.over k.over; constant = m.0; coefs = m.1 }

  pub lowered_row : IsRow d (lowered_form (difference_form f g))
  lowered_row =
      let m = and_parts (is_moderate ((f.constant -ℤ g.constant) -ℤ pos 1))
      (list_all is_moderate (termwise ◌-ℤ◌ f.coefs g.coefs))
      (moderate_lowered_difference f g h.limited k.limited) in
      record { over = over_termwise ◌-ℤ◌ refl 6 d f.coefs g.coefs h.over k.over; constant = m.0; coefs = m.1 }

negated_moderate : (c : ℤ) → IsTrue (is_moderate c) → IsTrue (is_moderate (pos 0 -ℤ c))
negated_moderate c h =
    let parts = and_parts (int_le (negsuc 4294967295) c) (int_le c (pos 4294967296)) h in
    let low : negsuc 4294967295 ≤ℤ c = int_le-true (negsuc 4294967295) c parts.0 in
    let high : c ≤ℤ pos 4294967296 = int_le-true c (pos 4294967296) parts.1 in
    both_true (le-int_le (negsuc 4294967295) (pos 0 -ℤ c) (omega (arith, ints)))
    (le-int_le (pos 0 -ℤ c) (pos 4294967296) (omega (arith, ints)))

module _ (d : ℕ) (f : Affine) (room : d < 6) (h : IsBound d f) where
  lower_row_is : IsRow (suc d) (difference_form (loop_form d) f)
  lower_row_is = record {
    over = over_termwise ◌-ℤ◌ refl 6 (suc d) (loop_form d).coefs f.coefs
        (over_multiple 6 (suc d) d (pos 1) (omega arith)) (over_deeper 6 d (suc d) f.coefs (omega arith) h.over);
    constant = negated_moderate f.constant (moderate_bound_number f.constant h.constant);
    coefs = moderate_gaps (loop_form d).coefs f.coefs (limited_multiples 6 (pos 1) d refl) h.coefs;
  }

  upper_row_is : IsRow (suc d) (difference_form f (loop_form d))
  upper_row_is =
      let same : f.constant ≡ f.constant -ℤ pos 0 = omega (arith, ints) in
      record {
        over = over_termwise ◌-ℤ◌ refl 6 (suc d) f.coefs (loop_form d).coefs
            (over_deeper 6 d (suc d) f.coefs (omega arith) h.over) (over_multiple 6 (suc d) d (pos 1) (omega arith));
        constant = subst (λ c. IsTrue (is_moderate c)) same (moderate_bound_number f.constant h.constant);
        coefs = moderate_gaps f.coefs (loop_form d).coefs h.coefs (limited_multiples 6 (pos 1) d refl);
      }

-- the coefficients of the row of a turn: the turn's is the step alone, since none of the bounds names it
gap_is : (c : ℤ) → IsTrue (is_moderate c) → IsTrue (is_moderate (c -ℤ pos 0))
gap_is c h = let same : c ≡ c -ℤ pos 0 = omega (arith, ints) in subst (λ v. IsTrue (is_moderate v)) same h

gaps_kept : (room : ℕ) (us ls : List ℤ) → IsTrue (list_all is_limited_number us)
    → IsTrue (list_all is_limited_number ls)
    → IsTrue (list_all is_moderate (termwise ◌-ℤ◌ (termwise ◌-ℤ◌ us ls) (replicate room (pos 0))))
gaps_kept room [] ls p q = refl
gaps_kept room (u ∷ us) [] p q = refl
gaps_kept zero (u ∷ us) (l ∷ ls) p q = refl
gaps_kept (suc room) (u ∷ us) (l ∷ ls) p q =
    let f = and_parts (is_limited_number u) (list_all is_limited_number us) p in
    let g = and_parts (is_limited_number l) (list_all is_limited_number ls) q in
    both_true (gap_is (u -ℤ l) (moderate_gap u l f.0 g.0)) (gaps_kept room us ls f.1 g.1)

turns_moderate : (room d : ℕ) (k : ℤ) (us ls : List ℤ) → IsTrue (is_limited_number k) → IsOver room d us
    → IsOver room d ls
    → IsTrue (list_all is_limited_number us) → IsTrue (list_all is_limited_number ls)
    → IsTrue (list_all is_moderate (termwise ◌-ℤ◌ (termwise ◌-ℤ◌ us ls) (slice_set (replicate room (pos 0)) d k)))
turns_moderate zero d k [] ls small h j p q = refl
turns_moderate zero d k (u ∷ us) ls small h j p q = absurd h
turns_moderate (suc room) d k [] ls small h j p q = absurd h
turns_moderate (suc room) d k (u ∷ us) [] small h j p q = absurd j
turns_moderate (suc room) zero k (u ∷ us) (l ∷ ls) small h j p q =
    let f = and_parts (is_limited_number u) (list_all is_limited_number us) p in
    let g = and_parts (is_limited_number l) (list_all is_limited_number ls) q in
    both_true (subst (λ v. IsTrue (is_moderate v)) (λ i. (sym h.0 i -ℤ sym j.0 i) -ℤ k) (moderate_negated k small))
    (gaps_kept room us ls f.1 g.1)
turns_moderate (suc room) (suc d) k (u ∷ us) (l ∷ ls) small h j p q =
    let f = and_parts (is_limited_number u) (list_all is_limited_number us) p in
    let g = and_parts (is_limited_number l) (list_all is_limited_number ls) q in
    both_true (gap_is (u -ℤ l) (moderate_gap u l f.0 g.0)) (turns_moderate room d k us ls small h j f.1 g.1)

-- the bounds of a loop inside so many loops
pub record IsRange (d : ℕ) (lower upper : List Affine) : Type 0 where
  pub lower_is : Each (IsBound d) lower
  pub upper_is : Each (IsBound d) upper
  pub some_lower : 0 < length lower
  pub some_upper : 0 < length upper

pub record IsProgression (d : ℕ) (first : Affine) (upper : List Affine) (step : ℤ) : Type 0 where
  pub first_is : IsForm d first
  pub upper_is : Each (IsBound d) upper
  pub some_upper : 0 < length upper
  pub limited : IsTrue (is_limited_number step)
  pub above : pos 1 <ℤ step

abbrev pub AreBounds : ℕ → Bounds → Type 0
AreBounds d (Range lower upper) = IsRange d lower upper
AreBounds d (Progression first upper step) = IsProgression d first upper step

module _ (d : ℕ) (room : d < 6) where
  variable_row_is : IsRow (suc d) (loop_form d)
  variable_row_is = record {
    over = over_multiple 6 (suc d) d (pos 1) (omega arith);
    constant = refl;
    coefs = moderate_numbers (loop_form d).coefs (limited_multiples 6 (pos 1) d refl);
  }

  turn_row_is : (first upper : Affine) (step : ℤ) → IsForm d first → IsBound d upper → IsTrue (is_limited_number step)
      → IsRow (suc d) (turn_row d first step upper)
  turn_row_is first upper step h k small =
      let base : IsBound d first = form_bound d first h in
      record {
        over = over_termwise ◌-ℤ◌ refl 6 (suc d) (difference_form upper first).coefs (multiple_form step d).coefs
            (over_deeper 6 d (suc d) (difference_form upper first).coefs (omega arith)
            (over_termwise ◌-ℤ◌ refl 6 d upper.coefs first.coefs k.over h.over))
            (over_multiple 6 (suc d) d step (omega arith));
        constant = gap_is (upper.constant -ℤ first.constant)
            (moderate_reach_number upper.constant first.constant k.constant
            (and_parts (is_limited_number first.constant) _ h.limited).0);
        coefs = turns_moderate 6 d step upper.coefs first.coefs small k.over h.over k.coefs base.coefs;
      }

  -- the rows that a loop gives
  pub loop_rows_are : (bounds : Bounds) → AreBounds d bounds → Each (IsRow (suc d)) (loop_rows d bounds)
  loop_rows_are (Range lower upper) h =
      each_append (IsRow (suc d)) (map (λ f. difference_form (loop_form d) f) lower)
      (map (λ f. difference_form f (loop_form d)) upper)
      (each_map (IsRow (suc d)) (λ f. difference_form (loop_form d) f) lower
      (each_then (IsBound d) _ lower (λ f b. lower_row_is d f room b) h.lower_is))
      (each_map (IsRow (suc d)) (λ f. difference_form f (loop_form d)) upper
      (each_then (IsBound d) _ upper (λ f b. upper_row_is d f room b) h.upper_is))
  loop_rows_are (Progression first upper step) h = (
    variable_row_is,
    each_map (IsRow (suc d)) (turn_row d first step) upper
        (each_then (IsBound d) _ upper (λ f b. turn_row_is first f step h.first_is b h.limited) h.upper_is),
  )

pub row_deeper : (d e : ℕ) (f : Affine) → d ≤ e → IsRow d f → IsRow e f
row_deeper d e f le h = record { over = over_deeper 6 d e f.coefs le h.over; constant = h.constant; coefs = h.coefs }

pub bound_row : (d : ℕ) (f : Affine) → IsBound d f → IsRow d f
bound_row d f h =
    record {
      over = h.over;
      constant = moderate_bound_number f.constant h.constant;
      coefs =
          moderate_numbers f.coefs h.coefs;
    }

-- the lower and the upper forms of a loop
pub lower_rows : (d : ℕ) (bounds : Bounds) → AreBounds d bounds → Each (IsRow d) (lower_of bounds)
lower_rows d (Range lower upper) h = each_then (IsBound d) (IsRow d) lower (bound_row d) h.lower_is
lower_rows d (Progression first upper step) h = (form_row d first h.first_is, tt)

pub upper_rows : (d : ℕ) (bounds : Bounds) → AreBounds d bounds → Each (IsRow d) (upper_of bounds)
upper_rows d (Range lower upper) h = each_then (IsBound d) (IsRow d) upper (bound_row d) h.upper_is
upper_rows d (Progression first upper step) h = each_then (IsBound d) (IsRow d) upper (bound_row d) h.upper_is

pub has_lower : (d : ℕ) (bounds : Bounds) → AreBounds d bounds → 0 < length (lower_of bounds)
has_lower d (Range lower upper) h = h.some_lower
has_lower d (Progression first upper step) h = omega arith

pub has_upper : (d : ℕ) (bounds : Bounds) → AreBounds d bounds → 0 < length (upper_of bounds)
has_upper d (Range lower upper) h = h.some_upper
has_upper d (Progression first upper step) h = h.some_upper

take_all : (p : ℤ → Bool) (d : ℕ) (cs : List ℤ) → IsTrue (list_all p cs) → IsTrue (list_all p (take d cs))
take_all p zero cs h = refl
take_all p (suc d) [] h = refl
take_all p (suc d) (c ∷ cs) h = let q = and_parts (p c) (list_all p cs) h in both_true q.0 (take_all p d cs q.1)

-- a row fits the loops round it
pub row_fits : (d : ℕ) (f : Affine) → d ≤ 6 → IsRow d f → IsTrue (form_fits d (form_over d f))
row_fits d f le h =
    let len : length (take d f.coefs) ≡ d = take_length 6 d f.coefs (over_length 6 d f.coefs h.over) le in
    both_true (both_true (eq-eqb (length (take d f.coefs)) d len) h.constant) (take_all is_moderate d f.coefs h.coefs)

pub all_fit : (d : ℕ) (fs : List Affine) → d ≤ 6 → Each (IsRow d) fs
    → IsTrue (list_all (form_fits d) (map (form_over d) fs))
all_fit d [] le h = refl
all_fit d (f ∷ fs) le h = both_true (row_fits d f le h.0) (all_fit d fs le h.1)
