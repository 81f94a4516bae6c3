use Rattle.std.proofs.Common.{◌≡◌, ◌+ℤ◌, ◌*ℤ◌, rules, FitsSigned, w64}
use Rattle.std.proofs.lemmas.Int.{to_z-of_z}
use Rattle.tree_eval.proofs.Maps.{values_step}
use Rattle.tree_eval.proofs.leaf.+are_values_at.Goals as goal

pub returns-then-value-value_at : goal.returns-then-value-value_at
returns-then-value-value_at t c =
    let is : c.in-Some.value.now ≡ c.in-Some-Some.start.now +ℤ (c.args.turn *ℤ c.in-Some-Some.step.now) = search rules in
    let turn : FitsSigned w64 c.args.turn = c.ranges.turn in
    values_step c.args.turn c.args.starts.now c.args.steps.now c.in-Some-Some.starts.now c.in-Some-Some.steps.now
    c.args.values.now c.in-Some.values.now c.in-Some-Some.start.now c.in-Some-Some.step.now c.in-Some.value.now
    c.are_values_at.result c.in-Some-Some.ensures.cases.0 c.in-Some-Some.ensures'.cases.0 c.in-Some.ensures.cases.0 is
    (simp to_z-of_z at c.are_values_at.ensures)
