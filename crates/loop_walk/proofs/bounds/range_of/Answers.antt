use Rattle.std.proofs.Common.{rules, ◌≤ℤ◌, pos}
use Rattle.std.specs.Prelude.{FitsSigned}
use Rattle.std.specs.Int.{w64}
use Rattle.std.proofs.lemmas.Int.{to_z-of_z}
use Rattle.loop_walk.proofs.LoopRange.{range_of_turns}
use Rattle.loop_walk.proofs.bounds.range_of.Goals as goal

pub returns-else-step-eq1-clause-values : goal.returns-else-step-eq1-clause-values
returns-else-step-eq1-clause-values c =
    let first : FitsSigned w64 c.args.first = c.ranges.first in
    let last : FitsSigned w64 c.args.last = c.ranges.last in
    let step : FitsSigned w64 c.args.step = c.ranges.step in
    let fits : FitsSigned w64 c.last_turn.result = search rules in
    let is = simp to_z-of_z at c.last_turn.ensures.value in
    let more : pos 2 ≤ℤ c.args.step = search rules in
    simp to_z-of_z (range_of_turns c.args.first c.args.last c.args.step c.last_turn.result more is)
