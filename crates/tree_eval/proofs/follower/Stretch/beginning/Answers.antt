use Rattle.std.proofs.Common.{◌≤ℤ◌, ◌+ℤ◌, pos, refl, arith, rules, FitsSigned, w64}
use Rattle.std.proofs.lemmas.Int.{ints, to_z-of_z}
use Rattle.tree_eval.specs.Stretches.{IsRow}
use Rattle.tree_eval.proofs.Maps.{between_fits}
use Rattle.tree_eval.proofs.Rows.{row_stretch}
use Rattle.tree_eval.proofs.follower.Stretch.beginning.Goals as goal

pub returns : goal.returns
returns c =
    let first : FitsSigned w64 c.args.first = c.ranges.first in
    let limit : FitsSigned w64 c.turns_from.result = search rules in
    let turns : FitsSigned w64 c.in_ok-row.row.turns = search rules in
    let is : IsRow c.args.tree.now c.args.outer.now c.args.first c.turns_from.result c.in_ok-row.row =
    simp to_z-of_z at c.in_ok-row.ensures in
    let not_negative = is.not_negative in
    let few = is.few in
    let from : c.args.first ≤ℤ (c.args.first +ℤ c.in_ok-row.row.turns) = omega (arith, ints) in
    let to : (c.args.first +ℤ c.in_ok-row.row.turns) ≤ℤ pos 9223372036854775807 =
    omega (arith, ints, c.turns_from.ensures.fits) in
    let last = between_fits c.args.first (c.args.first +ℤ c.in_ok-row.row.turns) first from to in
    simp to_z-of_z (row_stretch c.args.tree.now c.args.outer.now c.of.result c.args.first c.turns_from.result
    (c.args.first +ℤ c.in_ok-row.row.turns) c.in_ok-row.row is c.of.ensures refl)
