use Rattle.std.proofs.Common.{rules}
use Rattle.std.specs.Prelude.{FitsSigned}
use Rattle.std.specs.Int.{w64}
use Rattle.std.proofs.lemmas.Int.{to_z-of_z}
use Rattle.loop_walk.specs.Walking.{valid}
use Rattle.loop_walk.proofs.RunLemmas.{turns_taken, turns_taken_valid, value_and_last_within}
use Rattle.loop_walk.proofs.walk.take_turns.Goals as goal

pub after-requires-clause-value : goal.after-requires-clause-value
after-requires-clause-value c =
    let f : FitsSigned w64 c.args.frame.now.value = search rules in
    simp to_z-of_z
    (value_and_last_within c.args.frame.now (valid c.args.deeper.now) c.args.body.now c.args.at.now c.requires.valid).0

pub after-requires-clause-last : goal.after-requires-clause-last
after-requires-clause-last c =
    let f : FitsSigned w64 c.args.frame.now.last = search rules in
    simp to_z-of_z
    (value_and_last_within c.args.frame.now (valid c.args.deeper.now) c.args.body.now c.args.at.now c.requires.valid).1

pub returns-clause-left : goal.returns-clause-left
returns-clause-left c =
    let f : FitsSigned w64 c.args.frame.now.value = search rules in
    let g : FitsSigned w64 c.args.frame.now.last = search rules in
    let is = simp to_z-of_z at c.after.ensures in
    simp to_z-of_z
    (turns_taken c.args.frame.now c.args.deeper.now c.args.body.now c.args.statement c.args.at.now c.requires.body
    c.requires.none_left c.after.result is)

pub returns-clause-valid : goal.returns-clause-valid
returns-clause-valid c =
    let g : FitsSigned w64 c.args.frame.now.last = search rules in
    simp to_z-of_z
    (turns_taken_valid c.args.frame.now c.args.deeper.now c.args.body.now c.args.statement c.args.at.now c.requires.body
    c.requires.none_left (valid c.args.deeper.now) c.requires.all_valid c.requires.valid)
