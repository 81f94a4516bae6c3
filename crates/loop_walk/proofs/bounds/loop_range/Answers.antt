use Rattle.std.proofs.Common.{rules, ◌∙◌}
use Rattle.std.specs.Prelude.{FitsSigned}
use Rattle.std.specs.Int.{w64, w128}
use Rattle.std.proofs.lemmas.Int.{to_z-of_z}
use Rattle.loop_walk.proofs.LoopRange.{greatest_within, least_within}
use Rattle.loop_walk.proofs.bounds.loop_range.Goals as goal

pub narrowed-first-requires : goal.narrowed-first-requires
narrowed-first-requires c =
    let fits : FitsSigned w128 c.greatest_of.result = search rules in
    simp to_z-of_z (greatest_within c.args.lower.now c.args.at.now c.all_forms_within.result _
    c.all_forms_within.ensures c.if-all_forms_within.true c.greatest_of.ensures)

pub narrowed-last-requires : goal.narrowed-last-requires
narrowed-last-requires c =
    let fits : FitsSigned w128 c.least_of.result = search rules in
    simp to_z-of_z (least_within c.args.upper.now c.args.at.now c.all_forms_within-then-all_forms_within.result _
    c.all_forms_within-then-all_forms_within.ensures c.if-all_forms_within-2.true c.least_of.ensures)

pub range_of-requires-clause-first_within : goal.range_of-requires-clause-first_within
range_of-requires-clause-first_within c =
    let wide : FitsSigned w128 c.greatest_of.result = search rules in
    let fits : FitsSigned w64 c.narrowed-first.result = search rules in
    let is = simp to_z-of_z at c.narrowed-first.ensures in
    simp to_z-of_z (greatest_within c.args.lower.now c.args.at.now c.all_forms_within.result _
    c.all_forms_within.ensures c.if-all_forms_within.true (is ∙ c.greatest_of.ensures))

pub range_of-requires-clause-last_within : goal.range_of-requires-clause-last_within
range_of-requires-clause-last_within c =
    let wide : FitsSigned w128 c.least_of.result = search rules in
    let fits : FitsSigned w64 c.narrowed-last.result = search rules in
    let is = simp to_z-of_z at c.narrowed-last.ensures in
    simp to_z-of_z (least_within c.args.upper.now c.args.at.now c.all_forms_within-then-all_forms_within.result _
    c.all_forms_within-then-all_forms_within.ensures c.if-all_forms_within-2.true (is ∙ c.least_of.ensures))
