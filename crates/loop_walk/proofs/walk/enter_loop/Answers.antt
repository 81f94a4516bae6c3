use Rattle.std.proofs.Common.{rules, ◌≤ℤ◌, ◌++◌, map, arith, sym, ap, ◌∙◌, pos, ◌+ℤ◌}
use Rattle.std.specs.Prelude.{FitsSigned}
use Rattle.std.specs.Int.{w64}
use Rattle.std.proofs.lemmas.Bool.{and_from}
use Rattle.std.proofs.lemmas.Int.{to_z-of_z, ints}
use Rattle.sanlp.specs.declared.nest.Node.TheViews.{Loop}
use Rattle.sanlp.specs.Loops.{interval}
use Rattle.sanlp.specs.Trace.{all_points, trace_node, turn_points}
use Rattle.loop_walk.specs.EnteredLoops.{parts_within}
use Rattle.loop_walk.specs.Walking.{left, valid}
use Rattle.loop_walk.proofs.WalkLemmas.{left_outside, points_of_turns, turns_are_within, within_outside}
use Rattle.loop_walk.proofs.walk.enter_loop.Goals as goal

pub restart-requires-clause-within : goal.restart-requires-clause-within
restart-requires-clause-within c =
    let f : FitsSigned w64 c.in-Some.first = search rules in
    let s : FitsSigned w64 c.args.step = c.ranges.step in
    let range = simp to_z-of_z at c.in-Some.ensures in
    let le : c.in-Some.first ≤ℤ c.in-Some.last = omega (arith, ints) in
    let body = c.args.body.now in
    let within =
    within_outside c.args.frame.now (valid c.args.deeper.now)
    (Loop c.args.id c.args.lower.now c.args.upper.now c.args.step body) c.args.at.now c.if-frame.false
    c.requires.valid in
    let turns =
    turns_are_within c.args.id c.args.lower.now c.args.upper.now c.args.step body c.args.at.now c.in-Some.first
    c.in-Some.last range le within in
    let inner = simp to_z-of_z at c.extended.ensures in
    ap (parts_within body) inner ∙ turns.0

pub returns-clause-turns : goal.returns-clause-turns
returns-clause-turns c =
    let f : FitsSigned w64 c.in-Some.first = search rules in
    let g : FitsSigned w64 c.in-Some.last = search rules in
    let s : FitsSigned w64 c.args.step = c.ranges.step in
    let range = simp to_z-of_z at c.in-Some.ensures in
    let le : c.in-Some.first ≤ℤ c.in-Some.last = omega (arith, ints) in
    let body = c.args.body.now in
    let inner = simp to_z-of_z at c.extended.ensures in
    let rest =
    turn_points (all_points (map trace_node body)) (interval (c.in-Some.first +ℤ pos 1) c.in-Some.last) c.args.at.now in
    let node = Loop c.args.id c.args.lower.now c.args.upper.now c.args.step body in
    simp to_z-of_z
    (left_outside c.args.frame.now (left c.args.deeper.now) node c.args.at.now c.if-frame.false
    ∙ points_of_turns c.args.id c.args.lower.now c.args.upper.now c.args.step body c.args.at.now c.in-Some.first
    c.in-Some.last range le
    ∙ ap (λ at. all_points (map trace_node body) at ++ rest) (sym inner)
    ∙ ap (λ points. points ++ rest) (sym c.restart.ensures.left)
    ∙ ap (λ at. left c.restart.new.frames body at ++ rest) inner)

pub returns-clause-valid : goal.returns-clause-valid
returns-clause-valid c =
    let f : FitsSigned w64 c.in-Some.first = search rules in
    let g : FitsSigned w64 c.in-Some.last = search rules in
    let s : FitsSigned w64 c.args.step = c.ranges.step in
    let range = simp to_z-of_z at c.in-Some.ensures in
    let le : c.in-Some.first ≤ℤ c.in-Some.last = omega (arith, ints) in
    let body = c.args.body.now in
    let within =
    within_outside c.args.frame.now (valid c.args.deeper.now)
    (Loop c.args.id c.args.lower.now c.args.upper.now c.args.step body) c.args.at.now c.if-frame.false
    c.requires.valid in
    let turns =
    turns_are_within c.args.id c.args.lower.now c.args.upper.now c.args.step body c.args.at.now c.in-Some.first
    c.in-Some.last range le within in
    let inner = simp to_z-of_z at c.extended.ensures in
    simp to_z-of_z
    (and_from _ _ (and_from _ _ (and_from _ _ c.in-Some.ensures.first_within c.in-Some.ensures.last_within) turns.1)
    (sym (ap (valid c.restart.new.frames body) inner) ∙ c.restart.ensures.valid))
