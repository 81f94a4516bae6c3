use Rattle.std.proofs.Common.{ap, ◌∙◌, FitsSigned}
use Rattle.std.specs.Prelude.{Some}
use Rattle.std.specs.Int.{w128}
use Rattle.std.proofs.lemmas.Int.{to_z-of_z}
use Rattle.std.proofs.lemmas.Result.{IfOk-weaker}
use Rattle.affine_core.specs.Affine.{constant_form}
use Rattle.source_check.specs.Making.{times_of}
use Rattle.source_check.proofs.Contexts.{divides_yes_is, divides_no_is}
use Rattle.source_check.proofs.systems.with_quotient.Goals as goal

pub returns-then-yes : goal.returns-then-yes
returns-then-yes c =
    let fits : FitsSigned w128 c.args.divisor = c.ranges.divisor in
    IfOk-weaker c.with_equal.result _ _
    (λ more is. divides_yes_is c.args.space.now.vars c.args.system c.args.form.now c.args.divisor c.args.quotient
    c.args.yes _ _ _ (rw c.get.ensures at c.taken-value.ensures.value) c.variable.ensures.value
    (c.times-multiple.ensures.value ∙ ap (λ d. times_of d c.variable.result) (to_z-of_z w128 c.args.divisor fits))
    c.if-yes.true more is) c.with_equal.ensures.value

pub returns : goal.returns
returns c =
    let fits : FitsSigned w128 c.args.divisor = c.ranges.divisor in
    IfOk-weaker c.with_row-2.result _ _
    (λ more is. divides_no_is c.args.space.now.vars c.args.system c.args.form.now c.args.divisor c.args.quotient
    c.args.yes _ _ _ (rw c.get.ensures at c.taken-value.ensures.value) c.variable.ensures.value
    (c.times-multiple.ensures.value ∙ ap (λ d. times_of d c.variable.result) (to_z-of_z w128 c.args.divisor fits))
    c.if-yes.false _ _ _ _ _ _ _ more c.minus.ensures.value c.one_less-least.ensures.value
    (c.constant.ensures.value
    ∙ ap (λ d. Some (constant_form c.args.space.now.vars d)) (to_z-of_z w128 c.args.divisor fits))
    c.plus.ensures.value c.one_less-most.ensures.value c.minus-4.ensures.value c.in_ok-more.ensures.value is)
    c.with_row-2.ensures.value
