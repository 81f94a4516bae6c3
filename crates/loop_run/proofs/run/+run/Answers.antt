use Rattle.std.proofs.Common.{rules, ◌≡◌, ℤ, pos, ◌+ℤ◌, ◌≤ℤ◌, ◌<ℤ◌, length, map, to_z, of_z, arith, subst, sym}
use Rattle.std.specs.Prelude.{FitsSigned, IsTrue}
use Rattle.std.specs.Int.{w64}
use Rattle.std.proofs.lemmas.Int.{to_z-of_z, ints}
use Rattle.sanlp.specs.declared.nest.Node.TheViews.{the_lemmas}
use Rattle.sanlp.specs.Loops.{interval}
use Rattle.sanlp.specs.Meaning.{Action, exec_node, in_turn, turns}
use Rattle.sanlp.specs.Memory.{Memory}
use Rattle.sanlp.specs.WellFormed.{forms_fit}
use Rattle.loop_run.specs.CellMemory.{memory_of}
use Rattle.sanlp.specs.Size.{node_within}
use Rattle.loop_run.specs.Execution.{node_placed}
use Rattle.loop_walk.specs.EnteredLoops.{turns_within}
use Rattle.loop_walk.proofs.BodyParts.{part_passes}
use Rattle.loop_walk.proofs.LoopEntries.{between_within, turn_within}
use Rattle.loop_run.proofs.RunLemmas.{assign_done, loop_done, loop_keeps, turn_done, turns_done}
use Rattle.loop_run.proofs.run.+run.Goals as goal

pub run_node-run_turns-requires : goal.run_node-run_turns-requires
run_node-run_turns-requires t c =
    let f : FitsSigned w64 c.in-Some.first = search rules in
    let g : FitsSigned w64 c.in-Some.last = search rules in
    let s : FitsSigned w64 c.in-Loop.step = search rules in
    let range = simp to_z-of_z at c.in-Some.ensures in (
      search (rules, the_lemmas),
      (
        c.requires.same,
        simp to_z-of_z
            (loop_keeps c.args.nest.now.statements c.args.node.now c.args.at.now _ _ _ c.as_slice.result.now
            c.as_slice-in-Loop.result.now _ _ c.as_slice-in-Loop-2.result.now c.in-Some.first c.in-Some.last
            c.in-Loop.is c.as_slice.ensures c.as_slice-in-Loop.ensures c.as_slice-in-Loop-2.ensures range
            c.requires.fits c.requires.placed c.requires.within),
      ),
    )

pub run_node-returns-in-Some : goal.run_node-returns-in-Some
run_node-returns-in-Some t c =
    let f : FitsSigned w64 c.in-Some.first = search rules in
    let g : FitsSigned w64 c.in-Some.last = search rules in
    let s : FitsSigned w64 c.in-Loop.step = search rules in
    let range = simp to_z-of_z at c.in-Some.ensures in
    let h = simp to_z-of_z at c.run_turns.ensures in
    loop_done c.args.nest.now c.args.inputs.now c.args.node.now c.args.at.now (memory_of c.args.cells.now)
    (memory_of c.run_turns.new.cells)
    _ _ _ c.as_slice.result.now c.as_slice-in-Loop.result.now _ _ c.as_slice-in-Loop-2.result.now c.in-Some.first
    c.in-Some.last c.run_turns.result
    c.in-Loop.is c.as_slice.ensures c.as_slice-in-Loop.ensures c.as_slice-in-Loop-2.ensures range h

pub run_node-returns-in-Assign : goal.run_node-returns-in-Assign
run_node-returns-in-Assign t c =
    assign_done c.args.nest.now c.args.inputs.now c.args.node.now c.args.at.now (memory_of c.args.cells.now)
    (memory_of c.execute_point.new.cells)
    c.in-Assign.statement c.execute_point.result c.in-Assign.is c.execute_point.ensures

pub run_parts-run_node-requires : goal.run_parts-run_node-requires
run_parts-run_node-requires t c =
    let parts = c.args.parts.now in (
      search (rules, the_lemmas),
      (
        c.requires.same,
        (
          part_passes forms_fit parts
              (length c.args.at.now) c.loop-part.part-index c.part-item.result c.requires.fit c.loop-part-test.true
              c.part-item.is,
          (
            part_passes (node_placed c.args.nest.now.statements) parts
                (length c.args.at.now) c.loop-part.part-index c.part-item.result c.requires.placed c.loop-part-test.true
                c.part-item.is,
            part_passes node_within parts c.args.at.now c.loop-part.part-index c.part-item.result c.requires.within
                c.loop-part-test.true c.part-item.is,
          ),
        ),
      ),
    )

pub run_turns-run_turn-requires : goal.run_turns-run_turn-requires
run_turns-run_turn-requires t c =
    let f : FitsSigned w64 c.args.first = c.ranges.first in
    let g : FitsSigned w64 c.args.last = c.ranges.last in
    let le : to_z w64 c.loop-value.value-bits ≤ℤ to_z w64 (of_z w64 c.args.last) = search rules in
    let from = simp to_z-of_z at c.loop-value.invariant.1 in
    let to = simp to_z-of_z at le in (
      search (rules, the_lemmas),
      (
        c.requires.same,
        (
          c.requires.shallow,
          (
            between_within c.args.first
                (to_z w64 c.loop-value.value-bits) c.args.last c.requires.first_within c.requires.last_within from to,
            (
              c.requires.fit,
              (
                c.requires.placed,
                (turn_within c.args.parts.now c.args.at.now (to_z w64 c.loop-value.value-bits)
                    (to_z w64 (of_z w64 c.args.last)) le c.loop-value.invariant.2).0,
              ),
            ),
          ),
        ),
      ),
    )

pub run_turns-loop-value-preserved : goal.run_turns-loop-value-preserved
run_turns-loop-value-preserved t c =
    let value : ℤ = to_z w64 c.loop-value.value-bits in
    let last : ℤ = to_z w64 (of_z w64 c.args.last) in
    let le : to_z w64 c.loop-value.value-bits ≤ℤ to_z w64 (of_z w64 c.args.last) = search rules in
    let next : to_z w64 (of_z w64 (to_z w64 c.loop-value.value-bits +ℤ pos 1))
    ≡ to_z w64 c.loop-value.value-bits +ℤ pos 1 = omega (arith, ints) in
    let body : Action = in_turn (map (exec_node c.args.nest.now c.args.inputs.now) c.args.parts.now) in
    let all : Memory =
    turns body (interval (to_z w64 (of_z w64 c.args.first)) last) c.args.at.now (memory_of c.args.cells.now) in
    let more =
    turn_done body value last c.args.at.now (memory_of c.loop-value.cells) all
    (memory_of c.run_turn.new.cells) le c.in_ok-run_turn.ensures c.loop-value.invariant.0 in
    let left = (turn_within c.args.parts.now c.args.at.now value last le c.loop-value.invariant.2).1 in (
      subst (λ v. turns body (interval v last) c.args.at.now (memory_of c.run_turn.new.cells) ≡ all) (sym next) more,
      omega (arith, ints),
      subst (λ v. IsTrue (turns_within c.args.parts.now c.args.at.now (interval v last))) (sym next) left,
    )

pub run_turns-returns-in_ok-run_turn : goal.run_turns-returns-in_ok-run_turn
run_turns-returns-in_ok-run_turn t c =
    let f : FitsSigned w64 c.args.first = c.ranges.first in
    let g : FitsSigned w64 c.args.last = c.ranges.last in
    let value : ℤ = to_z w64 c.loop-value.value-bits in
    let last : ℤ = to_z w64 (of_z w64 c.args.last) in
    let le : to_z w64 c.loop-value.value-bits ≤ℤ to_z w64 (of_z w64 c.args.last) = search rules in
    let past : to_z w64 (of_z w64 c.args.last) <ℤ (to_z w64 c.loop-value.value-bits +ℤ pos 1) = omega (arith, ints) in
    let body : Action = in_turn (map (exec_node c.args.nest.now c.args.inputs.now) c.args.parts.now) in
    let all : Memory =
    turns body (interval (to_z w64 (of_z w64 c.args.first)) last) c.args.at.now (memory_of c.args.cells.now) in
    let more =
    turn_done body value last c.args.at.now (memory_of c.loop-value.cells) all
    (memory_of c.run_turn.new.cells) le c.in_ok-run_turn.ensures c.loop-value.invariant.0 in
    let done : memory_of c.run_turn.new.cells ≡ all =
    turns_done body (value +ℤ pos 1) last c.args.at.now (memory_of c.run_turn.new.cells) all past more in
    simp to_z-of_z at done
