-- Affine places: the form of an operand, if it has one, and each reason that stands in it.
use Rattle.std.specs.Prelude.{ℕ, ◌==◌, Bool, true, false, List, [], ◌∷◌, ◌++◌, map, length, Option, Some, None, unwrap_or, if◌then◌else◌, pos}
use Rattle.std.specs.List.{flat_map}
use Rattle.loop_grammar.specs.declared.tree.BinarySign.{BinarySign}
use Rattle.loop_grammar.specs.declared.tree.BinarySign.TheVariants.{Add, Sub, Mul}
use Rattle.loop_grammar.specs.declared.tree.Operand.{Operand, fold-Operand, out-Operand}
use Rattle.loop_grammar.specs.declared.tree.Operand.TheOpen.{Operand-F, Number, Access, Binary, Neg, Min, Max}
use Rattle.loop_bind.specs.declared.affine.Affine.{Affine}
use Rattle.loop_bind.specs.declared.error.BindError.{BindError}
use Rattle.loop_bind.specs.declared.error.BindError.TheVariants.{UnknownName, NotAffine, Large}
use Rattle.loop_bind.specs.declared.scope.Place.{Place}
use Rattle.loop_bind.specs.declared.scope.Place.TheVariants.{Extent, Body}
use Rattle.loop_bind.specs.declared.scope.What.{What}
use Rattle.loop_bind.specs.declared.scope.What.TheVariants.{Parameter, Array, Loop, Progression}
use Rattle.loop_bind.specs.Forms.{constant_form, loop_form, sum_form, difference_form, scaled_form, negated_form, has_no_variable, is_limited}
use Rattle.loop_bind.specs.Names.{value_named}

-- the names in scope, each with what it stands for
abbrev pub Scope : Type 0
Scope = List (List ℕ × What)

pub record Judged : Type 0 where
  pub form : Option Affine
  pub findings : List BindError

-- no form, and no reason besides those below
abbrev pub formless : Judged
formless = record { form = None; findings = [] }

abbrev pub faulty : BindError → Judged
faulty reason = record { form = None; findings = reason ∷ [] }

-- the form, unless a number of it is too large
abbrev pub limited : ℕ → Affine → Judged
limited token f =
    if is_limited f then record { form = Some f; findings = [] } else faulty (Large token)

abbrev pub after : List BindError → Judged → Judged
after earlier j = record j { findings = earlier ++ j.findings }

abbrev pub all_findings : List Judged → List BindError
all_findings list = flat_map (λ j. j.findings) list

-- in an extent only parameters are seen
abbrev pub seen_from : Place → Option What → Option What
seen_from Body what = what
seen_from Extent (Some (Parameter v)) = Some (Parameter v)
seen_from Extent _ = None

-- a name, which stands alone or has subscripts
abbrev pub named : ℕ → Bool → Option What → Judged
named token alone None = faulty (UnknownName token)
named token alone (Some (Array number extents)) = faulty (NotAffine token)
named token true (Some (Parameter v)) = limited token (constant_form v)
named token true (Some (Loop v)) = limited token (loop_form v)
named token true (Some (Progression f)) = limited token f
named token false (Some (Parameter v)) = faulty (UnknownName token)
named token false (Some (Loop v)) = faulty (UnknownName token)
named token false (Some (Progression f)) = faulty (UnknownName token)

abbrev pub negated : ℕ → Option Affine → Judged
negated token None = formless
negated token (Some f) = limited token (negated_form f)

-- a product has a form where one of its operands has no variable
abbrev pub product : ℕ → Affine → Affine → Judged
product token f g =
    if has_no_variable f then limited token (scaled_form f.constant g)
    else (if has_no_variable g then limited token (scaled_form g.constant f)
    else faulty (NotAffine token))

abbrev pub combined_forms : BinarySign → ℕ → Affine → Affine → Judged
combined_forms Add token f g = limited token (sum_form f g)
combined_forms Sub token f g = limited token (difference_form f g)
combined_forms Mul token f g = product token f g

abbrev pub combined : BinarySign → ℕ → Option Affine → Option Affine → Judged
combined sign token (Some f) (Some g) = combined_forms sign token f g
combined sign token None g = formless
combined sign token (Some f) None = formless

abbrev pub judge_step : Place → Scope → Operand-F Judged → Judged
judge_step place scope (Number value token) = limited token (constant_form value)
judge_step place scope (Access name subscripts) =
    after (all_findings subscripts)
    (named name.token (length subscripts == 0) (seen_from place (value_named scope name.text)))
judge_step place scope (Binary sign token left right) =
    after (left.findings ++ right.findings) (combined sign token left.form right.form)
judge_step place scope (Neg token inner) = after inner.findings (negated token inner.form)
judge_step place scope (Min token list) = after (all_findings list) (faulty (NotAffine token))
judge_step place scope (Max token list) = after (all_findings list) (faulty (NotAffine token))

-- the affine form of an operand, if it has one, and each reason that stands in it
unfoldable pub judged : Place → Scope → Operand → Judged
judged place scope = fold-Operand Judged (judge_step place scope)

-- the form that an operand counts with. Where it has none a reason is found, and no nest comes
-- of it.
abbrev pub form_or_zero : Judged → Affine
form_or_zero j = unwrap_or j.form (constant_form (pos 0))

-- the forms of operands, and the reasons in them
abbrev pub forms_of : Place → Scope → List Operand → List Affine
forms_of place scope operands = map (λ o. form_or_zero (judged place scope o)) operands

abbrev pub findings_of : Place → Scope → List Operand → List BindError
findings_of place scope operands = flat_map (λ o. (judged place scope o).findings) operands

-- the operands of a lower bound: the arguments of a `max` at its top, or the one operand
abbrev pub lower_layer : Operand → Operand-F Operand → List Operand
lower_layer operand (Max token (first ∷ others)) = first ∷ others
lower_layer operand _ = operand ∷ []

unfoldable pub lower_operands : Operand → List Operand
lower_operands operand = lower_layer operand (out-Operand operand)

-- the operands of an upper bound: the arguments of a `min` at its top, or the one operand
abbrev pub upper_layer : Operand → Operand-F Operand → List Operand
upper_layer operand (Min token (first ∷ others)) = first ∷ others
upper_layer operand _ = operand ∷ []

unfoldable pub upper_operands : Operand → List Operand
upper_operands operand = upper_layer operand (out-Operand operand)
