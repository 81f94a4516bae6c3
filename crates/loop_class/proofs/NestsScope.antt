-- What the names in scope stand for, and the forms that are read in such a scope.
--
-- By induction on the operand, a form that is judged affine is one of the loops round its place and has limited numbers
-- (`formed`): each step that makes a form is tested for its size, and names none but the loops of the forms below it or
-- of the scope. Where a form is missing, 0 stands for it, which is such a form too; so the bounds of loops and the rows
-- of guards are in range whether or not a reason stands there. A bound has a lower and an upper form at least.
use Rattle.std.proofs.Common.{◌≡◌, ◌<◌, ℕ, suc, ℤ, pos, ◌+ℤ◌, ◌-ℤ◌, ◌*ℤ◌, List, [], ◌∷◌, ◌++◌, length, Bool, true}
use Rattle.std.proofs.Common.{false, cond, Option, Some, None, is_some, refl, sym, arith, subst}
use Rattle.std.specs.Prelude.{slice_get, unwrap_or}
use Rattle.std.specs.Str.{bytes_eq}
use Rattle.std.proofs.lemmas.Int.{ints}
use Rattle.std.proofs.lemmas.List.{length-map}
use Rattle.sanlp.specs.declared.nest.ArrayDecl.{ArrayDecl}
use Rattle.sanlp.proofs.Each.{Each, each_append, each_map, each_then, each_of, each_flat_map}
use Rattle.loop_grammar.specs.declared.tree.BinarySign.{BinarySign}
use Rattle.loop_grammar.specs.declared.tree.BinarySign.TheVariants as sign
use Rattle.loop_grammar.specs.declared.tree.Comparison.{Comparison}
use Rattle.loop_grammar.specs.declared.tree.CompareSign.{CompareSign}
use Rattle.loop_grammar.specs.declared.tree.CompareSign.TheVariants.{Less, LessEq, Greater, GreaterEq, Equal}
use Rattle.loop_grammar.specs.declared.tree.Operand.{Operand, out-Operand}
use Rattle.loop_grammar.specs.declared.tree.Operand.TheOpen.{Operand-F, Number, Access, Binary, Neg, Min, Max}
use Rattle.loop_grammar.specs.declared.tree.Operand.TheFolds.{map-Operand, fold-roll-Operand, ind-Operand}
use Rattle.loop_grammar.specs.declared.tree.Operand.TheViews.{roll-Operand}
use Rattle.loop_bind.specs.declared.affine.Affine.{Affine}
use Rattle.loop_bind.specs.declared.scope.Place.{Place}
use Rattle.loop_bind.specs.declared.scope.Place.TheVariants.{Extent, Body}
use Rattle.loop_bind.specs.declared.scope.What.{What}
use Rattle.loop_bind.specs.declared.scope.What.TheVariants.{Parameter, Array, Loop, Progression}
use Rattle.loop_bind.specs.Forms.{constant_form, loop_form, sum_form, difference_form, scaled_form, negated_form}
use Rattle.loop_bind.specs.Forms.{lowered_form, is_limited, has_no_variable}
use Rattle.loop_bind.specs.Judging.{Scope, Judged, limited, named, negated, combined, seen_from, judge_step, judged}
use Rattle.loop_bind.specs.Judging.{form_or_zero, forms_of, lower_layer, upper_layer, lower_operands, upper_operands}
use Rattle.loop_bind.specs.Names.{value_named, with_name}
use Rattle.loop_bind.specs.Rows.{lower_forms, upper_forms, sign_rows, comparison_rows, guard_rows, else_rows}
use Rattle.loop_bind.specs.Rows.{negated_sign}
use Rattle.loop_class.proofs.NestsForms.{IsOver, over_zeros, over_deeper, over_map, over_termwise, over_multiple}
use Rattle.loop_class.proofs.NestsSizes.{IsForm, IsRow, IsBound, form_bound, form_lowered, difference_row, lowered_row}

-- an array that is declared, with so many extents
pub record HasArray (arrays : List ArrayDecl) (number extents : ℕ) : Type 0 where
  pub array : ArrayDecl
  pub found : slice_get arrays number ≡ Some array
  pub count : length array.extents ≡ extents

-- what a name may stand for inside so many loops
abbrev pub Known : List ArrayDecl → ℕ → What → Type 0
Known arrays d (Parameter v) = Unit {0}
Known arrays d (Array number extents) = HasArray arrays number extents
Known arrays d (Loop v) = v < d
Known arrays d (Progression f) = IsOver 6 d f.coefs

abbrev pub KnownIfAny : List ArrayDecl → ℕ → Option What → Type 0
KnownIfAny arrays d None = Unit {0}
KnownIfAny arrays d (Some what) = Known arrays d what

abbrev pub KnownScope : List ArrayDecl → ℕ → Scope → Type 0
KnownScope arrays d scope = Each (λ e. Known arrays d e.1) scope

pub value_known : (arrays : List ArrayDecl) (d : ℕ) (scope : Scope) (name : List ℕ) → KnownScope arrays d scope
    → KnownIfAny arrays d (value_named scope name)
value_known arrays d [] name h = tt
value_known arrays d (e ∷ scope) name h = by_test (bytes_eq name e.0) (value_known arrays d scope name h.1) where
  by_test : (b : Bool) → KnownIfAny arrays d (value_named scope name)
      → KnownIfAny arrays d (cond b (Some e.1) (value_named scope name))
  by_test true rest = h.0
  by_test false rest = rest

pub with_name_known : (arrays : List ArrayDecl) (d : ℕ) (scope : Scope) (name : List ℕ) (what : What)
    → KnownScope arrays d scope → Known arrays d what → KnownScope arrays d (with_name scope name what)
with_name_known arrays d scope name what h k = by_test (is_some (value_named scope name)) where
  by_test : (b : Bool) → KnownScope arrays d (cond b scope (scope ++ (name, what) ∷ []))
  by_test true = h
  by_test false = each_append (λ e. Known arrays d e.1) scope ((name, what) ∷ []) h (k, tt)

pub known_deeper : (arrays : List ArrayDecl) (d : ℕ) (scope : Scope) → KnownScope arrays d scope
    → KnownScope arrays (suc d) scope
known_deeper arrays d scope h =
    each_then (λ e. Known arrays d e.1) (λ e. Known arrays (suc d) e.1) scope (λ e k. one e.1 k) h where
      one : (what : What) → Known arrays d what → Known arrays (suc d) what
      one (Parameter v) k = tt
      one (Array number extents) k = k
      one (Loop v) k = omega arith
      one (Progression f) k = over_deeper 6 d (suc d) f.coefs (omega arith) k

-- how an operand is judged is a step over how its parts are
pub judged_roll : (place : Place) (scope : Scope) (y : Operand-F Operand)
    → judged place scope (roll-Operand y) ≡ judge_step place scope (map-Operand Operand Judged (judged place scope) y)
unfolding judged
judged_roll place scope y = fold-roll-Operand Judged (judge_step place scope) y

-- a form that is there is one of so many loops
abbrev pub IsFormIfAny : ℕ → Option Affine → Type 0
IsFormIfAny d None = Unit {0}
IsFormIfAny d (Some f) = IsForm d f

module _ (d : ℕ) where
  chosen : (b : Bool) (x y : Judged) → (b ≡ true → IsFormIfAny d x.form) → (b ≡ false → IsFormIfAny d y.form)
      → IsFormIfAny d (cond {A = Judged} b x y).form
  chosen true x y h k = h refl
  chosen false x y h k = k refl

  limited_is : (token : ℕ) (f : Affine) → IsOver 6 d f.coefs → IsFormIfAny d (limited token f).form
  limited_is token f h = chosen (is_limited f) _ _ (λ e. record { over = h; limited = e }) (λ e. tt)

  negated_is : (token : ℕ) (o : Option Affine) → IsFormIfAny d o → IsFormIfAny d (negated token o).form
  negated_is token None h = tt
  negated_is token (Some f) h = limited_is token (negated_form f) (over_map (λ c. pos 0 -ℤ c) refl 6 d f.coefs h.over)

  scaled_is : (token : ℕ) (k : ℤ) (f : Affine) → IsForm d f → IsFormIfAny d (limited token (scaled_form k f)).form
  scaled_is token k f h =
      let zero_is : k *ℤ pos 0 ≡ pos 0 = omega (arith, ints) in
      limited_is token (scaled_form k f) (over_map (λ c. k *ℤ c) zero_is 6 d f.coefs h.over)

  combined_is : (sign : BinarySign) (token : ℕ) (a b : Option Affine) → IsFormIfAny d a → IsFormIfAny d b
      → IsFormIfAny d (combined sign token a b).form
  combined_is sign token None b h k = tt
  combined_is sign token (Some f) None h k = tt
  combined_is sign.Add token (Some f) (Some g) h k =
      limited_is token (sum_form f g) (over_termwise ◌+ℤ◌ refl 6 d f.coefs g.coefs h.over k.over)
  combined_is sign.Sub token (Some f) (Some g) h k =
      limited_is token (difference_form f g) (over_termwise ◌-ℤ◌ refl 6 d f.coefs g.coefs h.over k.over)
  combined_is sign.Mul token (Some f) (Some g) h k =
      chosen (has_no_variable f) _ _ (λ e. scaled_is token f.constant g k)
      (λ e. chosen (has_no_variable g) _ _ (λ e. scaled_is token g.constant f h) (λ e. tt))

module _ (arrays : List ArrayDecl) (d : ℕ) (scope : Scope) (known : KnownScope arrays d scope) where
  seen_is : (place : Place) (o : Option What) → KnownIfAny arrays d o → KnownIfAny arrays d (seen_from place o)
  seen_is Body o h = h
  seen_is Extent None h = tt
  seen_is Extent (Some (Parameter v)) h = tt
  seen_is Extent (Some (Array number extents)) h = tt
  seen_is Extent (Some (Loop v)) h = tt
  seen_is Extent (Some (Progression f)) h = tt

  named_is : (token : ℕ) (alone : Bool) (o : Option What) → KnownIfAny arrays d o
      → IsFormIfAny d (named token alone o).form
  named_is token alone None h = tt
  named_is token alone (Some (Array number extents)) h = tt
  named_is token true (Some (Parameter v)) h = limited_is d token (constant_form v) (over_zeros 6 d)
  named_is token true (Some (Loop v)) h = limited_is d token (loop_form v) (over_multiple 6 d v (pos 1) h)
  named_is token true (Some (Progression f)) h = limited_is d token f h
  named_is token false (Some (Parameter v)) h = tt
  named_is token false (Some (Loop v)) h = tt
  named_is token false (Some (Progression f)) h = tt

  module _ (place : Place) where
    abbrev pub Formed : Operand → Type 0
    Formed o = IsFormIfAny d (judged place scope o).form

    abbrev StepFormed : Operand-F Operand → Type 0
    StepFormed y = IsFormIfAny d (judge_step place scope (map-Operand Operand Judged (judged place scope) y)).form

    step_formed : (y : Operand-F ((o : Operand) × Formed o))
        → StepFormed (map-Operand ((o : Operand) × Formed o) Operand (λ e. e.0) y)
    step_formed (Number value token) = limited_is d token (constant_form value) (over_zeros 6 d)
    step_formed (Access name subscripts) =
        named_is name.token _ (seen_from place (value_named scope name.text))
        (seen_is place (value_named scope name.text) (value_known arrays d scope name.text known))
    step_formed (Binary sign token left right) =
        combined_is d sign token (judged place scope left.0).form (judged place scope right.0).form left.1 right.1
    step_formed (Neg token inner) = negated_is d token (judged place scope inner.0).form inner.1
    step_formed (Min token list) = tt
    step_formed (Max token list) = tt

    pub formed : (o : Operand) → Formed o
    formed =
        ind-Operand Formed (λ x y is. subst (λ z. Formed (roll-Operand z)) is
        (subst (λ j. IsFormIfAny d j.form)
        (sym (judged_roll place scope (map-Operand ((o : Operand) × Formed o) Operand (λ e. e.0) y))) (step_formed y)))

    or_zero : (o : Option Affine) → IsFormIfAny d o → IsForm d (unwrap_or o (constant_form (pos 0)))
    or_zero None h = record { over = over_zeros 6 d; limited = refl }
    or_zero (Some f) h = h

    pub form_is : (o : Operand) → IsForm d (form_or_zero (judged place scope o))
    form_is o = or_zero (judged place scope o).form (formed o)

    pub forms_are : (operands : List Operand) → Each (IsForm d) (forms_of place scope operands)
    forms_are operands =
        each_map (IsForm d) (λ o. form_or_zero (judged place scope o)) operands
        (each_of (λ o. IsForm d (form_or_zero (judged place scope o))) operands form_is)

  pub lower_bounds : (first : Operand) → Each (IsBound d) (lower_forms scope first)
  lower_bounds first =
      each_then (IsForm d) (IsBound d) (forms_of Body scope (lower_operands first)) (form_bound d)
      (forms_are Body (lower_operands first))

  pub upper_bounds : (inclusive : Bool) (bound : Operand) → Each (IsBound d) (upper_forms scope inclusive bound)
  upper_bounds true bound =
      each_then (IsForm d) (IsBound d) (forms_of Body scope (upper_operands bound)) (form_bound d)
      (forms_are Body (upper_operands bound))
  upper_bounds false bound =
      each_map (IsBound d) lowered_form (forms_of Body scope (upper_operands bound))
      (each_then (IsForm d) (λ f. IsBound d (lowered_form f)) (forms_of Body scope (upper_operands bound))
      (form_lowered d) (forms_are Body (upper_operands bound)))

  sign_rows_are : (sign : CompareSign) (f g : Affine) → IsForm d f → IsForm d g → Each (IsRow d) (sign_rows sign f g)
  sign_rows_are Less f g h k = (lowered_row d g f k h, tt)
  sign_rows_are LessEq f g h k = (difference_row d g f k h, tt)
  sign_rows_are Greater f g h k = (lowered_row d f g h k, tt)
  sign_rows_are GreaterEq f g h k = (difference_row d f g h k, tt)
  sign_rows_are Equal f g h k = (difference_row d f g h k, (difference_row d g f k h, tt))

  comparison_rows_are : (sign : CompareSign) (c : Comparison) → Each (IsRow d) (comparison_rows scope sign c)
  comparison_rows_are sign c =
      sign_rows_are sign (form_or_zero (judged Body scope c.left)) (form_or_zero (judged Body scope c.right))
      (form_is Body c.left) (form_is Body c.right)

  pub guard_rows_are : (cond : List Comparison) → Each (IsRow d) (guard_rows scope cond)
  guard_rows_are cond =
      each_flat_map (IsRow d) (λ c. comparison_rows scope c.sign c) cond
      (each_of _ cond (λ c. comparison_rows_are c.sign c))

  pub else_rows_are : (cond : List Comparison) → Each (IsRow d) (else_rows scope cond)
  else_rows_are cond =
      each_flat_map (IsRow d) (λ c. comparison_rows scope (negated_sign c.sign) c) cond
      (each_of _ cond (λ c. comparison_rows_are (negated_sign c.sign) c))

-- a loop has a lower form and an upper form
pub some_lower : (scope : Scope) (first : Operand) → 0 < length (lower_forms scope first)
unfolding lower_operands
some_lower scope first = by_layer (out-Operand first) where
  by_layer : (y : Operand-F Operand) → 0 < length (forms_of Body scope (lower_layer first y))
  by_layer (Number value token) = omega arith
  by_layer (Access name subscripts) = omega arith
  by_layer (Binary sign token left right) = omega arith
  by_layer (Neg token inner) = omega arith
  by_layer (Min token list) = omega arith
  by_layer (Max token []) = omega arith
  by_layer (Max token (o ∷ list)) = omega arith

upper_some : (scope : Scope) (bound : Operand) → 0 < length (forms_of Body scope (upper_operands bound))
unfolding upper_operands
upper_some scope bound = by_layer (out-Operand bound) where
  by_layer : (y : Operand-F Operand) → 0 < length (forms_of Body scope (upper_layer bound y))
  by_layer (Number value token) = omega arith
  by_layer (Access name subscripts) = omega arith
  by_layer (Binary sign token left right) = omega arith
  by_layer (Neg token inner) = omega arith
  by_layer (Max token list) = omega arith
  by_layer (Min token []) = omega arith
  by_layer (Min token (o ∷ list)) = omega arith

pub some_upper : (scope : Scope) (inclusive : Bool) (bound : Operand) → 0 < length (upper_forms scope inclusive bound)
some_upper scope true bound = upper_some scope bound
some_upper scope false bound =
    omega (arith, upper_some scope bound, length-map (forms_of Body scope (upper_operands bound)) lowered_form)
