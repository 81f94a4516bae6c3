-- The bounds of a loop: its step, its lower and upper forms, and each reason that stands in
-- the step.
use Rattle.std.specs.Prelude.{ℕ, ℤ, pos, int_lt, Bool, ◌&&◌, List, [], ◌∷◌, ◌++◌, nat_lt, Option, Some, None, if◌then◌else◌}
use Rattle.std.specs.Option.{option_map}
use Rattle.std.specs.Ordering.{int_eq}
use Rattle.loop_grammar.specs.declared.tree.Operand.{Operand}
use Rattle.loop_grammar.specs.declared.tree.Step.{Step}
use Rattle.loop_grammar.specs.declared.tree.Step.TheVariants.{One, By}
use Rattle.loop_bind.specs.declared.affine.Affine.{Affine}
use Rattle.loop_bind.specs.declared.bounds.Bounds.{Bounds}
use Rattle.loop_bind.specs.declared.bounds.Bounds.TheVariants.{Range, Progression}
use Rattle.loop_bind.specs.declared.error.BindError.{BindError}
use Rattle.loop_bind.specs.declared.error.BindError.TheVariants.{StepMax, StepRange}
use Rattle.loop_bind.specs.declared.scope.Place.TheVariants.{Extent}
use Rattle.loop_bind.specs.declared.scope.What.{What}
use Rattle.loop_bind.specs.declared.scope.What.TheVariants as what
use Rattle.loop_bind.specs.Forms.{sum_form, multiple_form}
use Rattle.loop_bind.specs.Judging.{Scope, judged}
use Rattle.loop_bind.specs.Reasons.{found_if}
use Rattle.loop_bind.specs.Rows.{lower_forms, upper_forms}

-- The value of a step, if it has one. Only parameters and numbers are seen from a step, so its form
-- is its constant.
abbrev pub step_value : Scope → Step → Option ℤ
step_value scope One = Some (pos 1)
step_value scope (By token value) = option_map (λ f. f.constant) (judged Extent scope value).form

-- what is wrong with a step of this value in a loop with so many lower forms
abbrev pub step_reasons : ℕ → ℕ → Option ℤ → List BindError
step_reasons token lower None = []
step_reasons token lower (Some k) =
    found_if (int_lt (pos 1) k && nat_lt 1 lower) (StepMax token)
    ++ found_if (int_lt k (pos 1)) (StepRange token)

-- each reason that stands in the step of a loop with so many lower forms
abbrev pub step_findings : Scope → ℕ → Step → List BindError
step_findings scope lower One = []
step_findings scope lower (By token value) =
    (judged Extent scope value).findings
    ++ step_reasons token lower (step_value scope (By token value))

-- a loop without bounds, which gives no rows
abbrev pub unbounded : Bounds
unbounded = Range [] []

-- the bounds with a step above 1, which wants one lower form
abbrev pub progression : List Affine → List Affine → ℤ → Bounds
progression (first ∷ []) upper step = Progression first upper step
progression _ upper step = unbounded

-- the bounds with a step of this value: none where there is no value, and none where it is below 1
abbrev pub bounds_by : Option ℤ → List Affine → List Affine → Bounds
bounds_by None lower upper = unbounded
bounds_by (Some k) lower upper =
    if int_eq k (pos 1) then Range lower upper
    else (if int_lt (pos 1) k then progression lower upper k else unbounded)

abbrev pub loop_bounds : Scope → Operand → Bool → Operand → Step → Bounds
loop_bounds scope first inclusive bound step =
    bounds_by (step_value scope step) (lower_forms scope first) (upper_forms scope inclusive bound)

abbrev pub lower_of : Bounds → List Affine
lower_of (Range lower upper) = lower
lower_of (Progression first upper step) = first ∷ []

abbrev pub upper_of : Bounds → List Affine
upper_of (Range lower upper) = upper
upper_of (Progression first upper step) = upper

abbrev pub step_of : Bounds → ℤ
step_of (Range lower upper) = pos 1
step_of (Progression first upper step) = step

-- what the source's variable of loop number v stands for: with a step above 1 for
-- `first + step * turn`
abbrev pub variable_of : ℕ → Bounds → What
variable_of v (Range lower upper) = what.Loop v
variable_of v (Progression first upper step) =
    what.Progression (sum_form first (multiple_form step v))
