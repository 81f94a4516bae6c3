-- The rows that loops and guards give.
use Rattle.std.specs.Prelude.{ℕ, ℤ, Bool, true, false, List, [], ◌∷◌, ◌++◌, map}
use Rattle.std.specs.List.{flat_map}
use Rattle.loop_grammar.specs.declared.tree.Comparison.{Comparison}
use Rattle.loop_grammar.specs.declared.tree.CompareSign.{CompareSign}
use Rattle.loop_grammar.specs.declared.tree.CompareSign.TheVariants.{Less, LessEq, Greater, GreaterEq, Equal}
use Rattle.loop_grammar.specs.declared.tree.Operand.{Operand}
use Rattle.loop_bind.specs.declared.affine.Affine.{Affine}
use Rattle.loop_bind.specs.declared.bounds.Bounds.{Bounds}
use Rattle.loop_bind.specs.declared.bounds.Bounds.TheVariants.{Range, Progression}
use Rattle.loop_bind.specs.declared.error.BindError.{BindError}
use Rattle.loop_bind.specs.declared.scope.Place.TheVariants.{Body}
use Rattle.loop_bind.specs.Forms.{loop_form, multiple_form, difference_form, lowered_form}
use Rattle.loop_bind.specs.Judging.{Scope, judged, form_or_zero, forms_of, lower_operands, upper_operands}

abbrev pub lower_forms : Scope → Operand → List Affine
lower_forms scope first = forms_of Body scope (lower_operands first)

-- the upper forms, inclusive: for `<` each has 1 taken off
abbrev pub upper_forms : Scope → Bool → Operand → List Affine
upper_forms scope true bound = forms_of Body scope (upper_operands bound)
upper_forms scope false bound = map lowered_form (forms_of Body scope (upper_operands bound))

-- the row `upper - first - step * turn >= 0` of an upper form of loop number v, whose variable is
-- the turn
abbrev pub turn_row : ℕ → Affine → ℤ → Affine → Affine
turn_row v first step upper = difference_form (difference_form upper first) (multiple_form step v)

-- The rows of loop number v. With step 1: `v - lower >= 0` for each lower form, then
-- `upper - v >= 0` for each upper form. With a step above 1: `turn >= 0`, then the row of each
-- upper form.
abbrev pub loop_rows : ℕ → Bounds → List Affine
loop_rows v (Range lower upper) =
    map (λ f. difference_form (loop_form v) f) lower
    ++ map (λ f. difference_form f (loop_form v)) upper
loop_rows v (Progression first upper step) = loop_form v ∷ map (turn_row v first step) upper

-- the rows of `a sign b`
abbrev pub sign_rows : CompareSign → Affine → Affine → List Affine
sign_rows Less a b = lowered_form (difference_form b a) ∷ []
sign_rows LessEq a b = difference_form b a ∷ []
sign_rows Greater a b = lowered_form (difference_form a b) ∷ []
sign_rows GreaterEq a b = difference_form a b ∷ []
sign_rows Equal a b = difference_form a b ∷ difference_form b a ∷ []

abbrev pub comparison_rows : Scope → CompareSign → Comparison → List Affine
comparison_rows scope sign c =
    sign_rows sign (form_or_zero (judged Body scope c.left))
    (form_or_zero (judged Body scope c.right))

abbrev pub guard_rows : Scope → List Comparison → List Affine
guard_rows scope cond = flat_map (λ c. comparison_rows scope c.sign c) cond

abbrev pub guard_findings : Scope → List Comparison → List BindError
guard_findings scope cond =
    flat_map (λ c. (judged Body scope c.left).findings ++ (judged Body scope c.right).findings) cond

-- the sign of a comparison that holds where one with this sign doesn't; `==` has none and stays
abbrev pub negated_sign : CompareSign → CompareSign
negated_sign Less = GreaterEq
negated_sign LessEq = Greater
negated_sign Greater = LessEq
negated_sign GreaterEq = Less
negated_sign Equal = Equal

-- an `else` may follow one comparison that isn't `==`
abbrev pub may_have_else : List Comparison → Bool
may_have_else [] = false
may_have_else (c ∷ d ∷ cond) = false
may_have_else (c ∷ []) = is_negatable c.sign
  where
    is_negatable : CompareSign → Bool
    is_negatable Less = true
    is_negatable LessEq = true
    is_negatable Greater = true
    is_negatable GreaterEq = true
    is_negatable Equal = false

-- the row of an `else` part: that of the negated comparison
abbrev pub else_rows : Scope → List Comparison → List Affine
else_rows scope cond = flat_map (λ c. comparison_rows scope (negated_sign c.sign) c) cond
