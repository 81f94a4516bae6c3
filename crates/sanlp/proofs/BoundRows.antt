-- A value is one of a loop's exactly where the rows of the loop's bounds hold.
use Rattle.std.proofs.Common.{◌≡◌, ◌+◌, ℕ, ℤ, pos, negsuc, neg_ℤ, ◌+ℤ◌, ◌-ℤ◌, ◌*ℤ◌, ◌<ℤ◌, ◌≤ℤ◌, List, [], ◌∷◌}
use Rattle.std.proofs.Common.{◌++◌, map, length, Bool, true, false, cond, refl, sym, ap, ◌∙◌, subst, arith}
use Rattle.std.specs.Prelude.{int_le, nat_lt}
use Rattle.std.specs.List.{flat_map, fold}
use Rattle.std.specs.Int.{int_min, int_max}
use Rattle.std.specs.Ordering.{int_eq}
use Rattle.std.proofs.lemmas.Bool.{and_parts, and_from}
use Rattle.std.proofs.lemmas.Int.{ints, clamps}
use Rattle.std.proofs.lemmas.List.{get_or_at, length-map, length_push}
use Rattle.affine_core.proofs.Linear.{combined_is, dot, product_at, sum_at, variable_at, length-sums}
use Rattle.affine_core.proofs.Ring.{sum_times}
use Rattle.affine_core.specs.Affine.{form_at, form_product, form_sum, sums, variable_form}
use Rattle.affine_core.specs.declared.form.Form.{Form}
use Rattle.affine_core.proofs.Integers.{int_le-true, le-int_le}
use Rattle.sanlp.specs.Loops.{all_hold, greatest, interval, least, loop_values, turns_up_to}
use Rattle.sanlp.specs.WellFormed.{bound_rows, lower_row, turn_row, upper_row}
use Rattle.sanlp.proofs.Each.{Each, each_append, each_left, each_right}
use Rattle.sanlp.proofs.Intervals.{counted_ascends, in_interval, interval_in}
use Rattle.sanlp.proofs.Members.{In, Pairwise}
use Rattle.sanlp.proofs.Turns.{in_turns, turns_are, turns_in}

-- each row holds
abbrev pub AllHold : List Form → List ℤ → Type 0
AllHold rows at = Each (λ row. pos 0 ≤ℤ form_at row at) rows

pub hold_each : (rows : List Form) (at : List ℤ) → all_hold rows at ≡ true → AllHold rows at
hold_each [] at h = tt
hold_each (row ∷ rows) at h =
    let parts = and_parts (int_le (pos 0) (form_at row at)) (all_hold rows at) h in
    (int_le-true (pos 0) (form_at row at) parts.0, hold_each rows at parts.1)

pub each_holds : (rows : List Form) (at : List ℤ) → AllHold rows at → all_hold rows at ≡ true
each_holds [] at h = refl
each_holds (row ∷ rows) at h =
    and_from (int_le (pos 0) (form_at row at)) (all_hold rows at) (le-int_le (pos 0) (form_at row at) h.0)
    (each_holds rows at h.1)

-- the greatest of some numbers is at most v exactly where each of them is, and the least at least v
max_below : (x : ℤ) (xs : List ℤ) (v : ℤ) → fold int_max x xs ≤ℤ v → Each (λ y. y ≤ℤ v) (x ∷ xs)
max_below x [] v h = (h, tt)
max_below x (y ∷ xs) v h =
    let rest : Each (λ y. y ≤ℤ v) (int_max x y ∷ xs) = max_below (int_max x y) xs v h in
    (omega (arith, ints, clamps, rest.0), (omega (arith, ints, clamps, rest.0), rest.1))

below_max : (x : ℤ) (xs : List ℤ) (v : ℤ) → Each (λ y. y ≤ℤ v) (x ∷ xs) → fold int_max x xs ≤ℤ v
below_max x [] v h = h.0
below_max x (y ∷ xs) v h = below_max (int_max x y) xs v (omega (arith, ints, clamps, h.0, h.1.0), h.1.1)

min_above : (x : ℤ) (xs : List ℤ) (v : ℤ) → v ≤ℤ fold int_min x xs → Each (λ y. v ≤ℤ y) (x ∷ xs)
min_above x [] v h = (h, tt)
min_above x (y ∷ xs) v h =
    let rest : Each (λ y. v ≤ℤ y) (int_min x y ∷ xs) = min_above (int_min x y) xs v h in
    (omega (arith, ints, clamps, rest.0), (omega (arith, ints, clamps, rest.0), rest.1))

above_min : (x : ℤ) (xs : List ℤ) (v : ℤ) → Each (λ y. v ≤ℤ y) (x ∷ xs) → v ≤ℤ fold int_min x xs
above_min x [] v h = h.0
above_min x (y ∷ xs) v h = above_min (int_min x y) xs v (omega (arith, ints, clamps, h.0, h.1.0), h.1.1)

-- the rows of bounds
dot_push : (cs at : List ℤ) (c v : ℤ) → length cs ≡ length at
    → dot (cs ++ c ∷ []) (at ++ v ∷ []) ≡ dot cs at +ℤ (c *ℤ v)
dot_push [] [] c v e = omega (arith, ints)
dot_push [] (x ∷ at) c v e = absurd (omega arith)
dot_push (b ∷ cs) [] c v e = absurd (omega arith)
dot_push (b ∷ cs) (x ∷ at) c v e =
    let h : dot (cs ++ c ∷ []) (at ++ v ∷ []) ≡ dot cs at +ℤ (c *ℤ v) =
    dot_push cs at c v (omega arith) in omega (arith, ints, h)

-- a form with one more coefficient, at one more value
form_push : (form : Form) (at : List ℤ) (c v : ℤ) → length form.coefs ≡ length at
    → form_at (record form { coefs = form.coefs ++ c ∷ [] }) (at ++ v ∷ []) ≡ form_at form at +ℤ (c *ℤ v)
form_push form at c v e =
    omega (
      arith,
      ints,
      combined_is form.constant (form.coefs ++ c ∷ []) (at ++ v ∷ []),
      combined_is form.constant form.coefs at,
      dot_push form.coefs at c v e,
    )

abbrev negated : Form → Form
negated form = form_product (negsuc 0) form

length_negated : (form : Form) (n : ℕ) → length form.coefs ≡ n → length (negated form).coefs ≡ n
length_negated form n e = length-map form.coefs (λ c. c *ℤ negsuc 0) ∙ e

lower_row_at : (form : Form) (at : List ℤ) (v : ℤ) → length form.coefs ≡ length at
    → form_at (lower_row form) (at ++ v ∷ []) ≡ v -ℤ form_at form at
lower_row_at form at v e =
    omega (
      arith,
      ints,
      form_push (negated form) at (pos 1) v (length_negated form (length at) e),
      product_at (negsuc 0) form at,
    )

upper_row_at : (form : Form) (at : List ℤ) (v : ℤ) → length form.coefs ≡ length at
    → form_at (upper_row form) (at ++ v ∷ []) ≡ form_at form at -ℤ v
upper_row_at form at v e = omega (arith, ints, form_push form at (negsuc 0) v e)

pub length_turn_row : (step : ℤ) (lower upper : Form) (n : ℕ) → length lower.coefs ≡ n → length upper.coefs ≡ n
    → length (turn_row step lower upper).coefs ≡ n + 1
length_turn_row step lower upper n e f =
    omega (
      arith,
      length_push (sums upper.coefs (negated lower).coefs) (neg_ℤ step),
      length-sums upper.coefs (negated lower).coefs (f ∙ sym (length_negated lower n e)),
      f,
    )

negative_times : (a b : ℤ) → neg_ℤ a *ℤ b ≡ pos 0 -ℤ (a *ℤ b)
negative_times a b =
    let none : neg_ℤ a +ℤ a ≡ pos 0 = omega (arith, ints) in
    omega (arith, ints, sum_times (neg_ℤ a) a b, ap (λ z. z *ℤ b) none)

turn_row_at : (step : ℤ) (lower upper : Form) (at : List ℤ) (v : ℤ) → length lower.coefs ≡ length at
    → length upper.coefs ≡ length at
    → form_at (turn_row step lower upper) (at ++ v ∷ []) ≡ form_at upper at -ℤ (form_at lower at +ℤ (step *ℤ v))
turn_row_at step lower upper at v e f =
    let same : length upper.coefs ≡ length (negated lower).coefs = f ∙ sym (length_negated lower (length at) e) in
    omega (
      arith,
      ints,
      form_push (form_sum upper (negated lower)) at (neg_ℤ step) v
          (length-sums upper.coefs (negated lower).coefs same ∙ f),
      sum_at upper (negated lower) at same,
      product_at (negsuc 0) lower at,
      negative_times step v,
    )

-- the row `turn >= 0`
first_row_at : (depth : ℕ) (at : List ℤ) (v : ℤ) → depth ≡ length at
    → form_at (variable_form (depth + 1) depth) (at ++ v ∷ []) ≡ v
first_row_at depth at v e = variable_at (depth + 1) depth (at ++ v ∷ []) ∙ get_or_at at v [] (pos 0) depth (sym e)

-- a value of a loop of step 1 meets the rows of its bounds
lower_rows : (forms : List Form) (at : List ℤ) (v : ℤ) → Each (λ form. length form.coefs ≡ length at) forms
    → Each (λ y. y ≤ℤ v) (map (λ form. form_at form at) forms) → AllHold (map lower_row forms) (at ++ v ∷ [])
lower_rows [] at v e h = tt
lower_rows (form ∷ forms) at v e h =
    (omega (arith, ints, lower_row_at form at v e.0, h.0), lower_rows forms at v e.1 h.1)

from_lower_rows : (forms : List Form) (at : List ℤ) (v : ℤ) → Each (λ form. length form.coefs ≡ length at) forms
    → AllHold (map lower_row forms) (at ++ v ∷ []) → Each (λ y. y ≤ℤ v) (map (λ form. form_at form at) forms)
from_lower_rows [] at v e h = tt
from_lower_rows (form ∷ forms) at v e h =
    (omega (arith, ints, lower_row_at form at v e.0, h.0), from_lower_rows forms at v e.1 h.1)

upper_rows : (forms : List Form) (at : List ℤ) (v : ℤ) → Each (λ form. length form.coefs ≡ length at) forms
    → Each (λ y. v ≤ℤ y) (map (λ form. form_at form at) forms) → AllHold (map upper_row forms) (at ++ v ∷ [])
upper_rows [] at v e h = tt
upper_rows (form ∷ forms) at v e h =
    (omega (arith, ints, upper_row_at form at v e.0, h.0), upper_rows forms at v e.1 h.1)

from_upper_rows : (forms : List Form) (at : List ℤ) (v : ℤ) → Each (λ form. length form.coefs ≡ length at) forms
    → AllHold (map upper_row forms) (at ++ v ∷ []) → Each (λ y. v ≤ℤ y) (map (λ form. form_at form at) forms)
from_upper_rows [] at v e h = tt
from_upper_rows (form ∷ forms) at v e h =
    (omega (arith, ints, upper_row_at form at v e.0, h.0), from_upper_rows forms at v e.1 h.1)

-- a turn of a loop with the lower form `first` meets the rows of its upper forms
turn_rows : (step : ℤ) (first : Form) (forms : List Form) (at : List ℤ) (v : ℤ) → length first.coefs ≡ length at
    → Each (λ form. length form.coefs ≡ length at) forms
    → Each (λ y. (form_at first at +ℤ (step *ℤ v)) ≤ℤ y) (map (λ form. form_at form at) forms)
    → AllHold (map (turn_row step first) forms) (at ++ v ∷ [])
turn_rows step first [] at v d e h = tt
turn_rows step first (form ∷ forms) at v d e h =
    (omega (arith, ints, turn_row_at step first form at v d e.0, h.0), turn_rows step first forms at v d e.1 h.1)

from_turn_rows : (step : ℤ) (first : Form) (forms : List Form) (at : List ℤ) (v : ℤ) → length first.coefs ≡ length at
    → Each (λ form. length form.coefs ≡ length at) forms → AllHold (map (turn_row step first) forms) (at ++ v ∷ [])
    → Each (λ y. (form_at first at +ℤ (step *ℤ v)) ≤ℤ y) (map (λ form. form_at form at) forms)
from_turn_rows step first [] at v d e h = tt
from_turn_rows step first (form ∷ forms) at v d e h =
    (omega (arith, ints, turn_row_at step first form at v d e.0, h.0), from_turn_rows step first forms at v d e.1 h.1)

-- the greatest of the values is at most v, where there is one
greatest_is : (xs : List ℤ) (v : ℤ) → nat_lt 0 (length xs) ≡ true → greatest xs ≤ℤ v → Each (λ y. y ≤ℤ v) xs
greatest_is [] v some h = tt
greatest_is (x ∷ xs) v some h = max_below x xs v h

is_greatest : (xs : List ℤ) (v : ℤ) → nat_lt 0 (length xs) ≡ true → Each (λ y. y ≤ℤ v) xs → greatest xs ≤ℤ v
is_greatest [] v some h = absurd (cc)
is_greatest (x ∷ xs) v some h = below_max x xs v h

least_is : (xs : List ℤ) (v : ℤ) → nat_lt 0 (length xs) ≡ true → v ≤ℤ least xs → Each (λ y. v ≤ℤ y) xs
least_is [] v some h = tt
least_is (x ∷ xs) v some h = min_above x xs v h

is_least : (xs : List ℤ) (v : ℤ) → nat_lt 0 (length xs) ≡ true → Each (λ y. v ≤ℤ y) xs → v ≤ℤ least xs
is_least [] v some h = absurd (cc)
is_least (x ∷ xs) v some h = above_min x xs v h

-- The forms of a loop's bounds, of which there are some below and above, over the loops round it, and its step, which
-- is at least 1; above 1 there is one lower form.
pub record AreBounds (lower upper : List Form) (step : ℤ) (depth : ℕ) : Type 0 where
  pub some_lower : nat_lt 0 (length lower) ≡ true
  pub some_upper : nat_lt 0 (length upper) ≡ true
  pub lower_over : Each (λ form. length form.coefs ≡ depth) lower
  pub upper_over : Each (λ form. length form.coefs ≡ depth) upper
  pub step_counts : pos 1 ≤ℤ step
  pub one_lower : int_eq step (pos 1) ≡ false → length lower ≡ 1

module _ (upper : List Form) (step : ℤ) (depth : ℕ) (at : List ℤ) (v : ℤ) (deep : depth ≡ length at) where
  abbrev at' : List ℤ
  at' = at ++ v ∷ []

  abbrev holds : Form → Type 0
  holds row = pos 0 ≤ℤ form_at row at'

  abbrev values : List Form → List ℤ
  values forms = map (λ form. form_at form at) forms

  abbrev first_turn : Form
  first_turn = variable_form (depth + 1) depth

  some_values : (forms : List Form) → nat_lt 0 (length forms) ≡ true → nat_lt 0 (length (values forms)) ≡ true
  some_values forms some = ap (nat_lt 0) (length-map forms (λ form. form_at form at)) ∙ some

  -- with step 1
  meet_each : (lower : List Form) → AreBounds lower upper step (length at)
      → In v (interval (greatest (values lower)) (least (values upper)))
      → AllHold (map lower_row lower ++ map upper_row upper) at'
  meet_each lower b h =
      let from = in_interval _ _ v h in
      each_append holds (map lower_row lower) (map upper_row upper)
      (lower_rows lower at v b.lower_over (greatest_is (values lower) v (some_values lower b.some_lower) from.0))
      (upper_rows upper at v b.upper_over (least_is (values upper) v (some_values upper b.some_upper) from.1))

  each_meets : (lower : List Form) → AreBounds lower upper step (length at)
      → AllHold (map lower_row lower ++ map upper_row upper) at'
      → In v (interval (greatest (values lower)) (least (values upper)))
  each_meets lower b h =
      interval_in _ _ v
      (is_greatest (values lower) v (some_values lower b.some_lower)
      (from_lower_rows lower at v b.lower_over (each_left holds (map lower_row lower) (map upper_row upper) h)))
      (is_least (values upper) v (some_values upper b.some_upper)
      (from_upper_rows upper at v b.upper_over (each_right holds (map lower_row lower) (map upper_row upper) h)))

  -- with a step above 1, where there is one lower form
  turn_meets : (lower : List Form) → length lower ≡ 1 → AreBounds lower upper step (length at)
      → In v (turns_up_to (greatest (values lower)) (least (values upper)) step)
      → AllHold (first_turn ∷ flat_map (λ form. map (turn_row step form) upper) lower) at'
  turn_meets [] one b h = absurd (omega (arith, one))
  turn_meets (first ∷ []) one b h =
      let from = in_turns (form_at first at) (least (values upper)) step v b.step_counts h in (
        omega (arith, ints, first_row_at depth at v deep, from.0),
        each_append holds (map (turn_row step first) upper) []
            (turn_rows step first upper at v b.lower_over.0 b.upper_over
            (least_is (values upper) (form_at first at +ℤ (step *ℤ v)) (some_values upper b.some_upper) from.1)) tt,
      )
  turn_meets (first ∷ second ∷ lower) one b h = absurd (omega (arith, one))

  meets_turn : (lower : List Form) → length lower ≡ 1 → AreBounds lower upper step (length at)
      → AllHold (first_turn ∷ flat_map (λ form. map (turn_row step form) upper) lower) at'
      → In v (turns_up_to (greatest (values lower)) (least (values upper)) step)
  meets_turn [] one b h = absurd (omega (arith, one))
  meets_turn (first ∷ []) one b h =
      turns_in (form_at first at) (least (values upper)) step v b.step_counts
      (omega (arith, ints, first_row_at depth at v deep, h.0))
      (is_least (values upper) (form_at first at +ℤ (step *ℤ v)) (some_values upper b.some_upper)
      (from_turn_rows step first upper at v b.lower_over.0 b.upper_over
      (each_left holds (map (turn_row step first) upper) [] h.1)))
  meets_turn (first ∷ second ∷ lower) one b h = absurd (omega (arith, one))

  meets_if : (b : Bool) (xs ys : List ℤ) (rows rows' : List Form) → (b ≡ true → In v xs → AllHold rows at')
      → (b ≡ false → In v ys → AllHold rows' at')
      → In v (cond b xs ys) → AllHold (cond b rows rows') at'
  meets_if true xs ys rows rows' f g h = f refl h
  meets_if false xs ys rows rows' f g h = g refl h

  in_if : (b : Bool) (xs ys : List ℤ) (rows rows' : List Form) → (b ≡ true → AllHold rows at' → In v xs)
      → (b ≡ false → AllHold rows' at' → In v ys)
      → AllHold (cond b rows rows') at' → In v (cond b xs ys)
  in_if true xs ys rows rows' f g h = f refl h
  in_if false xs ys rows rows' f g h = g refl h

  pub values_meet : (lower : List Form) → AreBounds lower upper step (length at)
      → In v (loop_values lower upper step at) → AllHold (bound_rows depth lower upper step) at'
  values_meet lower b h =
      meets_if (int_eq step (pos 1)) (interval (greatest (values lower)) (least (values upper)))
      (turns_up_to (greatest (values lower)) (least (values upper)) step)
      (map lower_row lower ++ map upper_row upper)
      (first_turn ∷ flat_map (λ form. map (turn_row step form) upper) lower)
      (λ e k. meet_each lower b k) (λ e k. turn_meets lower (b.one_lower e) b k) h

  pub meeting_values : (lower : List Form) → AreBounds lower upper step (length at)
      → AllHold (bound_rows depth lower upper step) at' → In v (loop_values lower upper step at)
  meeting_values lower b h =
      in_if (int_eq step (pos 1)) (interval (greatest (values lower)) (least (values upper)))
      (turns_up_to (greatest (values lower)) (least (values upper)) step)
      (map lower_row lower ++ map upper_row upper)
      (first_turn ∷ flat_map (λ form. map (turn_row step form) upper) lower)
      (λ e k. each_meets lower b k) (λ e k. meets_turn lower (b.one_lower e) b k) h

-- the values of a loop ascend
pub values_ascend : (lower upper : List Form) (step : ℤ) (at : List ℤ) → pos 1 ≤ℤ step
    → Pairwise (λ v w. v <ℤ w) (loop_values lower upper step at)
values_ascend lower upper step at h = ascend_if (int_eq step (pos 1)) where
  first : ℤ
  first = greatest (map (λ form. form_at form at) lower)

  last : ℤ
  last = least (map (λ form. form_at form at) upper)

  ascend_if : (b : Bool) → Pairwise (λ v w. v <ℤ w) (cond b (interval first last) (turns_up_to first last step))
  ascend_if true = counted_ascends _ _
  ascend_if false = subst (Pairwise (λ v w. v <ℤ w)) (sym (turns_are first last step h)) (counted_ascends _ _)
