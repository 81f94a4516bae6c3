use Rattle.std.proofs.Common.{rules, ap, ◌∙◌}
use Rattle.std.specs.Prelude.{FitsSigned}
use Rattle.std.specs.Int.{w64, w128}
use Rattle.std.proofs.lemmas.Int.{to_z-of_z}
use Rattle.sanlp.specs.Size.{is_loop_value}
use Rattle.loop_walk.proofs.LoopRange.{quotient_within}
use Rattle.loop_walk.proofs.bounds.last_turn.Goals as goal

pub narrowed-requires : goal.narrowed-requires
narrowed-requires c =
    let first : FitsSigned w64 c.args.first = c.ranges.first in
    let last : FitsSigned w64 c.args.last = c.ranges.last in
    let step : FitsSigned w64 c.args.step = c.ranges.step in
    let wide : FitsSigned w128 c.quotient.result = search rules in
    let quotient = simp to_z-of_z at c.quotient.ensures in
    simp to_z-of_z (ap is_loop_value quotient ∙ quotient_within c.args.first c.args.last c.args.step
    c.requires.first_within c.requires.last_within c.requires.more)

pub returns-clause-value : goal.returns-clause-value
returns-clause-value c =
    let first : FitsSigned w64 c.args.first = c.ranges.first in
    let last : FitsSigned w64 c.args.last = c.ranges.last in
    let step : FitsSigned w64 c.args.step = c.ranges.step in
    let wide : FitsSigned w128 c.quotient.result = search rules in
    let quotient = simp to_z-of_z at c.quotient.ensures in
    let fits : FitsSigned w64 c.narrowed.result = search rules in
    let is = simp to_z-of_z at c.narrowed.ensures in
    simp to_z-of_z (is ∙ quotient)

pub returns-clause-within : goal.returns-clause-within
returns-clause-within c =
    let first : FitsSigned w64 c.args.first = c.ranges.first in
    let last : FitsSigned w64 c.args.last = c.ranges.last in
    let step : FitsSigned w64 c.args.step = c.ranges.step in
    let wide : FitsSigned w128 c.quotient.result = search rules in
    let quotient = simp to_z-of_z at c.quotient.ensures in
    let fits : FitsSigned w64 c.narrowed.result = search rules in
    let is = simp to_z-of_z at c.narrowed.ensures in
    simp to_z-of_z (ap is_loop_value (is ∙ quotient) ∙ quotient_within c.args.first c.args.last c.args.step
    c.requires.first_within c.requires.last_within c.requires.more)
