-- A loop in whose head no reason stands has bounds. An operand in which no reason stands has a form, since each way in
-- which a form is missing is a reason; so the step has a value, which is limited as each number of a form. Where the
-- value is 1 the bounds are a range. Where it is above 1 there is at most one lower form, since more would be a reason,
-- and at least one, as in each loop. A value below 1 is a reason.
use Rattle.std.proofs.Common.{◌≡◌, ◌<◌, ◌≤◌, ℕ, ℤ, pos, ◌<ℤ◌, List, [], ◌∷◌, ◌++◌, map, length, Bool, true, false, cond}
use Rattle.std.proofs.Common.{◌&&◌, Option, Some, None, is_some, refl, sym, arith, subst}
use Rattle.std.specs.Prelude.{IsTrue, int_lt, nat_lt, ◌==◌}
use Rattle.std.specs.List.{list_all}
use Rattle.std.specs.Option.{option_map}
use Rattle.std.specs.Ordering.{int_eq}
use Rattle.std.proofs.lemmas.Bool.{and_parts, ltb-false}
use Rattle.std.proofs.lemmas.Int.{ints}
use Rattle.affine_core.proofs.Integers.{int_lt-true}
use Rattle.sanlp.specs.declared.nest.ArrayDecl.{ArrayDecl}
use Rattle.sanlp.proofs.Each.{Each}
use Rattle.loop_grammar.specs.declared.tree.BinarySign.{BinarySign}
use Rattle.loop_grammar.specs.declared.tree.BinarySign.TheVariants as sign
use Rattle.loop_grammar.specs.declared.tree.Operand.{Operand}
use Rattle.loop_grammar.specs.declared.tree.Operand.TheOpen.{Operand-F, Number, Access, Binary, Neg, Min, Max}
use Rattle.loop_grammar.specs.declared.tree.Operand.TheFolds.{map-Operand, ind-Operand}
use Rattle.loop_grammar.specs.declared.tree.Operand.TheViews.{roll-Operand}
use Rattle.loop_grammar.specs.declared.tree.Step.{Step}
use Rattle.loop_grammar.specs.declared.tree.Step.TheVariants.{One, By}
use Rattle.loop_bind.specs.declared.affine.Affine.{Affine}
use Rattle.loop_bind.specs.declared.bounds.Bounds.{Bounds}
use Rattle.loop_bind.specs.declared.bounds.Bounds.TheVariants.{Range}
use Rattle.loop_bind.specs.declared.error.BindError.{BindError}
use Rattle.loop_bind.specs.declared.error.BindError.TheVariants.{NotAffine, StepMax, StepRange}
use Rattle.loop_bind.specs.declared.scope.Place.{Place}
use Rattle.loop_bind.specs.declared.scope.Place.TheVariants.{Extent, Body}
use Rattle.loop_bind.specs.declared.scope.What.{What}
use Rattle.loop_bind.specs.declared.scope.What.TheVariants as what
use Rattle.loop_bind.specs.Bounds.{step_value, step_reasons, step_findings, unbounded, progression, bounds_by}
use Rattle.loop_bind.specs.Bounds.{loop_bounds}
use Rattle.loop_bind.specs.Forms.{constant_form, loop_form, sum_form, difference_form, scaled_form, negated_form}
use Rattle.loop_bind.specs.Forms.{has_no_variable, is_limited_number, is_limited}
use Rattle.loop_bind.specs.Judging.{Scope, Judged, faulty, limited, after, named, negated, combined, judge_step}
use Rattle.loop_bind.specs.Judging.{judged, all_findings, seen_from, lower_operands}
use Rattle.loop_bind.specs.Names.{value_named}
use Rattle.loop_bind.specs.Reasons.{found_if}
use Rattle.loop_bind.specs.Rows.{lower_forms, upper_forms}
use Rattle.loop_class.proofs.NestsSizes.{IsForm, AreBounds}
use Rattle.loop_class.proofs.NestsScope.{KnownScope, IsFormIfAny, formed, forms_are, lower_bounds, upper_bounds}
use Rattle.loop_class.proofs.NestsScope.{some_lower, some_upper, judged_roll}
use Rattle.loop_class.proofs.NestsValues.{none_left, none_right, found_none}

-- where no reason stands there is a form
abbrev Sure : Judged → Type 0
Sure j = j.findings ≡ [] → is_some j.form ≡ true

faulty_sure : (reason : BindError) → Sure (faulty reason)
faulty_sure reason e = absurd (cc)

chosen_sure : (b : Bool) (x y : Judged) → Sure x → Sure y → Sure (cond {A = Judged} b x y)
chosen_sure true x y h k = h
chosen_sure false x y h k = k

limited_sure : (token : ℕ) (f : Affine) → Sure (limited token f)
limited_sure token f = chosen_sure (is_limited f) _ _ (λ e. refl) (λ e. absurd (cc))

after_sure : (earlier : List BindError) (j : Judged) → Sure j → Sure (after earlier j)
after_sure earlier j h e = h (none_right earlier j.findings e)

named_sure : (token : ℕ) (alone : Bool) (o : Option What) → Sure (named token alone o)
named_sure token alone None = λ e. absurd (cc)
named_sure token alone (Some (what.Array number extents)) = λ e. absurd (cc)
named_sure token true (Some (what.Parameter v)) = limited_sure token (constant_form v)
named_sure token true (Some (what.Loop v)) = limited_sure token (loop_form v)
named_sure token true (Some (what.Progression f)) = limited_sure token f
named_sure token false (Some (what.Parameter v)) = λ e. absurd (cc)
named_sure token false (Some (what.Loop v)) = λ e. absurd (cc)
named_sure token false (Some (what.Progression f)) = λ e. absurd (cc)

negated_sure : (token : ℕ) (o : Option Affine) → is_some o ≡ true → Sure (negated token o)
negated_sure token None h = absurd (cc)
negated_sure token (Some f) h = limited_sure token (negated_form f)

combined_sure : (sign : BinarySign) (token : ℕ) (a b : Option Affine) → is_some a ≡ true → is_some b ≡ true
    → Sure (combined sign token a b)
combined_sure sign token None b h k = absurd (cc)
combined_sure sign token (Some f) None h k = absurd (cc)
combined_sure sign.Add token (Some f) (Some g) h k = limited_sure token (sum_form f g)
combined_sure sign.Sub token (Some f) (Some g) h k = limited_sure token (difference_form f g)
combined_sure sign.Mul token (Some f) (Some g) h k =
    chosen_sure (has_no_variable f) _ _ (limited_sure token (scaled_form f.constant g))
    (chosen_sure (has_no_variable g) _ _ (limited_sure token (scaled_form g.constant f)) (λ e. absurd (cc)))

module _ (place : Place) (scope : Scope) where
  abbrev SureOf : Operand → Type 0
  SureOf o = Sure (judged place scope o)

  abbrev Part : Type 0
  Part = (o : Operand) × SureOf o

  step_sure : (y : Operand-F Part)
      → Sure (judge_step place scope
      (map-Operand Operand Judged (judged place scope) (map-Operand Part Operand (λ e. e.0) y)))
  step_sure (Number value token) e = limited_sure token (constant_form value) e
  step_sure (Access name subscripts) e =
      let below = map (judged place scope) (map (λ e. e.0) subscripts) in
      let seen = seen_from place (value_named scope name.text) in
      after_sure (all_findings below) (named name.token (length below == 0) seen)
      (named_sure name.token (length below == 0) seen) e
  step_sure (Binary sign token left right) e =
      let l = judged place scope left.0 in
      let r = judged place scope right.0 in
      let c = combined sign token l.form r.form in
      let none = none_left (l.findings ++ r.findings) c.findings e in
      combined_sure sign token l.form r.form (left.1 (none_left l.findings r.findings none))
      (right.1 (none_right l.findings r.findings none))
      (none_right (l.findings ++ r.findings) c.findings e)
  step_sure (Neg token inner) e =
      let j = judged place scope inner.0 in
      let n = negated token j.form in
      negated_sure token j.form (inner.1 (none_left j.findings n.findings e)) (none_right j.findings n.findings e)
  step_sure (Min token list) e =
      after_sure (all_findings (map (judged place scope) (map (λ e. e.0) list))) (faulty (NotAffine token))
      (faulty_sure (NotAffine token)) e
  step_sure (Max token list) e =
      after_sure (all_findings (map (judged place scope) (map (λ e. e.0) list))) (faulty (NotAffine token))
      (faulty_sure (NotAffine token)) e

  sure : (o : Operand) → SureOf o
  sure = ind-Operand SureOf
      (λ x y is. subst (λ z. SureOf (roll-Operand z)) is
      (subst Sure (sym (judged_roll place scope (map-Operand Part Operand (λ e. e.0) y))) (step_sure y)))

one_of_three : (k : ℤ) → int_eq k (pos 1) ≡ false → int_lt (pos 1) k ≡ false → int_lt k (pos 1) ≡ false → ⊥
one_of_three k e f g = grind (arith, ints)

second_false : (a b : Bool) → a ≡ true → (a && b) ≡ false → b ≡ false
second_false true b e h = h
second_false false b e h = absurd (cc)

module _ (arrays : List ArrayDecl) (d : ℕ) (scope : Scope) (known : KnownScope arrays d scope) (first : Operand)
    (inclusive : Bool) (bound : Operand) where
  abbrev lower : List Affine
  lower = lower_forms scope first

  abbrev upper : List Affine
  upper = upper_forms scope inclusive bound

  range_is : AreBounds d (Range lower upper)
  range_is = record {
    lower_is = lower_bounds arrays d scope known first;
    upper_is = upper_bounds arrays d scope known inclusive bound;
    some_lower = some_lower scope first;
    some_upper = some_upper scope inclusive bound;
  }

  progression_is : (k : ℤ) (forms : List Affine) → Each (IsForm d) forms → 0 < length forms → length forms ≤ 1
      → IsTrue (is_limited_number k) → pos 1 <ℤ k
      → AreBounds d (progression forms upper k)
  progression_is k [] h some few small above = absurd (omega arith)
  progression_is k (f ∷ []) h some few small above = record {
    first_is = h.0;
    upper_is = upper_bounds arrays d scope known inclusive bound;
    some_upper = some_upper scope inclusive bound;
    limited = small;
    above = above;
  }
  progression_is k (f ∷ g ∷ forms) h some few small above = absurd (omega arith)

  module _ (token : ℕ) (k : ℤ) (small : IsTrue (is_limited_number k))
      (none : step_reasons token (length lower) (Some k) ≡ []) where
    abbrev more : List BindError
    more = found_if (int_lt (pos 1) k && nat_lt 1 (length lower)) (StepMax token)

    abbrev less : List BindError
    less = found_if (int_lt k (pos 1)) (StepRange token)

    by_tests : (same above : Bool) → int_eq k (pos 1) ≡ same → int_lt (pos 1) k ≡ above
        → AreBounds d
        (cond {A = Bounds} same (Range lower upper) (cond {A = Bounds} above (progression lower upper k) unbounded))
    by_tests true above e f = range_is
    by_tests false true e f =
        let few : nat_lt 1 (length lower) ≡ false =
        second_false (int_lt (pos 1) k) (nat_lt 1 (length lower)) f
        (found_none (int_lt (pos 1) k && nat_lt 1 (length lower)) (StepMax token) (none_left more less none)) in
        progression_is k lower (forms_are arrays d scope known Body (lower_operands first)) (some_lower scope first)
        (ltb-false 1 (length lower) few) small (int_lt-true (pos 1) k f)
    by_tests false false e f =
        absurd (one_of_three k e f (found_none (int_lt k (pos 1)) (StepRange token) (none_right more less none)))

    by_value : AreBounds d (bounds_by (Some k) lower upper)
    by_value = by_tests (int_eq k (pos 1)) (int_lt (pos 1) k) refl refl

  by_form : (token : ℕ) (o : Option Affine) → IsFormIfAny d o → is_some o ≡ true
      → step_reasons token (length lower) (option_map (λ f. f.constant) o) ≡ []
      → AreBounds d (bounds_by (option_map (λ f. f.constant) o) lower upper)
  by_form token None h some none = absurd (cc)
  by_form token (Some f) h some none =
      by_value token f.constant
      (and_parts (is_limited_number f.constant) (list_all is_limited_number f.coefs) h.limited).0 none

  pub bounds_are : (step : Step) → step_findings scope (length lower) step ≡ []
      → AreBounds d (loop_bounds scope first inclusive bound step)
  bounds_are One none = range_is
  bounds_are (By token value) none =
      let j : Judged = judged Extent scope value in
      let rest : List BindError = step_reasons token (length lower) (step_value scope (By token value)) in
      by_form token j.form (formed arrays d scope known Extent value)
      (sure Extent scope value (none_left j.findings rest none)) (none_right j.findings rest none)
