use Rattle.std.proofs.Common.{rules, ◌≡◌, to_z, of_z, arith, pos, ◌+ℤ◌, ℤ}
use Rattle.std.specs.Prelude.{FitsSigned}
use Rattle.std.specs.Int.{w64}
use Rattle.std.proofs.lemmas.Int.{ints}
use Rattle.loop_walk.specs.Walking.{valid}
use Rattle.loop_walk.proofs.WalkLemmas.{turn_begun, turn_begun_valid}
use Rattle.loop_walk.proofs.walk.begin_next_turn.Goals as goal

pub returns-clause-left : goal.returns-clause-left
returns-clause-left c =
    let f : FitsSigned w64 c.args.frame.now.value = search rules in
    let g : FitsSigned w64 c.args.frame.now.last = search rules in
    let next : ℤ = to_z w64 (of_z w64 (to_z w64 (of_z w64 c.args.frame.now.value) +ℤ pos 1)) in
    let is : to_z w64 (of_z w64 (to_z w64 (of_z w64 c.args.frame.now.value) +ℤ pos 1))
    ≡ c.args.frame.now.value +ℤ pos 1 = omega (arith, ints) in
    turn_begun c.args.frame.now next c.restart.new.frames c.args.body.now c.args.at.now c.extended.result is
    c.requires.later c.extended.ensures c.restart.ensures.left

pub returns-clause-valid : goal.returns-clause-valid
returns-clause-valid c =
    let f : FitsSigned w64 c.args.frame.now.value = search rules in
    let g : FitsSigned w64 c.args.frame.now.last = search rules in
    let next : ℤ = to_z w64 (of_z w64 (to_z w64 (of_z w64 c.args.frame.now.value) +ℤ pos 1)) in
    let is : to_z w64 (of_z w64 (to_z w64 (of_z w64 c.args.frame.now.value) +ℤ pos 1))
    ≡ c.args.frame.now.value +ℤ pos 1 = omega (arith, ints) in
    turn_begun_valid c.args.frame.now next c.restart.new.frames c.args.body.now c.args.at.now c.extended.result is
    c.requires.later c.extended.ensures
    (valid c.args.deeper.now) c.requires.valid c.restart.ensures.valid
