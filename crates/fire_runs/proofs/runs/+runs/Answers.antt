use Rattle.std.proofs.Common.{rules, ◌≡◌, List, w64, ℤ, pos, ◌+ℤ◌, ◌≤ℤ◌, ◌<ℤ◌, FitsSigned, to_z, of_z, arith}
use Rattle.std.proofs.Common.{sym, ap, ap₂, ◌∙◌, ◌+◌, ◌++◌, ◌∷◌, [], length, map, replicate, subst}
use Rattle.std.specs.Prelude.{IsTrue, OnOk}
use Rattle.std.proofs.lemmas.Int.{ints, to_z-of_z}
use Rattle.std.proofs.lemmas.List.{length-append}
use Rattle.loop_walk.specs.EnteredLoops.{parts_within, turns_within}
use Rattle.loop_walk.proofs.BodyParts.{part_passes}
use Rattle.loop_walk.proofs.LoopEntries.{loop_fits, loop_turns_within, turn_within}
use Rattle.fire_runs.specs.Runs.{processes_in, processes_of}
use Rattle.fire_runs.proofs.TraceRuns.{one_run, parts_more, turn_more, turns_done}
use Rattle.fire_runs.proofs.runs.+runs.Goals as goal
use Rattle.sanlp.specs.declared.nest.Node.TheViews.{the_lemmas}
use Rattle.sanlp.specs.declared.nest.Point.{Point}
use Rattle.sanlp.specs.Loops.{interval, loop_values}
use Rattle.sanlp.specs.Size.{node_within}
use Rattle.sanlp.specs.Trace.{all_points, trace_node, trace_step, turn_points}
use Rattle.sanlp.specs.WellFormed.{all_forms_fit, forms_fit}
use Rattle.sanlp.proofs.Folds.{fold_loop_at}

-- Parts

pub add_parts-add_node-requires : goal.add_parts-add_node-requires
add_parts-add_node-requires t c = (
  search (rules, the_lemmas),
  (
    part_passes forms_fit c.args.parts.now
        (length c.args.at.now) c.loop-part.part-index c.part-item.result c.requires.fit c.loop-part-test.true
        c.part-item.is,
    part_passes node_within c.args.parts.now c.args.at.now c.loop-part.part-index c.part-item.result c.requires.within
        c.loop-part-test.true c.part-item.is,
  ),
)

pub add_parts-loop-part-preserved : goal.add_parts-loop-part-preserved
add_parts-loop-part-preserved t c =
    parts_more c.args.parts.now c.args.at.now c.loop-part.part-index c.part-item.result _ _ _ c.loop-part-test.true
    c.part-item.is c.loop-part.invariant c.in_ok-add_node.ensures

-- A loop

pub add_node-add_turns-requires : goal.add_node-add_turns-requires
add_node-add_turns-requires t c =
    let f : FitsSigned w64 c.in-Some.first = search rules in
    let g : FitsSigned w64 c.in-Some.last = search rules in
    let at = c.args.at.now in
    let s : FitsSigned w64 c.in-Loop.step = search rules in
    let values = simp to_z-of_z at c.in-Some.ensures.values in
    let bounds : loop_values c.in-Loop.lower c.in-Loop.upper c.in-Loop.step c.args.at.now
    ≡ interval c.in-Some.first c.in-Some.last =
    ap₂ (λ l u. loop_values l u c.in-Loop.step c.args.at.now) (sym c.as_slice.ensures) (sym c.as_slice-in-Loop.ensures)
    ∙ values in
    let range = c.in-Some.ensures in
    let fit = loop_fits _ _ _ _ _ (length at)
    (sym (ap (λ x. forms_fit x (length at)) c.in-Loop.is) ∙ c.requires.fits) in
    let turns = loop_turns_within _ _ _ _ _ at (sym (ap (λ x. node_within x at) c.in-Loop.is) ∙ c.requires.within) in
    let inner = ap (λ ps. turns_within ps at (interval c.in-Some.first c.in-Some.last)) c.as_slice-body.ensures
    ∙ sym (ap (turns_within c.in-Loop.body at) bounds) ∙ turns in (
      search (rules, the_lemmas),
      (
        fit.0,
        (
          simp to_z-of_z range.first_within,
          (
            simp to_z-of_z range.last_within,
            (ap (λ ps. all_forms_fit ps (length at + 1)) c.as_slice-body.ensures ∙ fit.2, simp to_z-of_z inner),
          ),
        ),
      ),
    )

pub add_node-returns-in-Some : goal.add_node-returns-in-Some
add_node-returns-in-Some t c =
    let f : FitsSigned w64 c.in-Some.first = search rules in
    let g : FitsSigned w64 c.in-Some.last = search rules in
    let s : FitsSigned w64 c.in-Loop.step = search rules in
    let values = simp to_z-of_z at c.in-Some.ensures.values in
    let bounds : loop_values c.in-Loop.lower c.in-Loop.upper c.in-Loop.step c.args.at.now
    ≡ interval c.in-Some.first c.in-Some.last =
    ap₂ (λ l u. loop_values l u c.in-Loop.step c.args.at.now) (sym c.as_slice.ensures) (sym c.as_slice-in-Loop.ensures)
    ∙ values in
    let at = c.args.at.now in
    let points =
    ap (λ node. trace_node node at) c.in-Loop.is
    ∙ fold_loop_at (List ℤ) (List Point) trace_step _ _ _ _ _ at
    ∙ ap (λ vs. turn_points (all_points (map trace_node c.in-Loop.body)) vs at) bounds
    ∙ ap (λ ps. turn_points (all_points (map trace_node ps)) (interval c.in-Some.first c.in-Some.last) at)
    (sym c.as_slice-body.ensures) in
    let after = simp to_z-of_z at c.add_turns.ensures in
    subst (λ ps. OnOk c.add_turns.result (processes_in c.add_turns.new.runs.items
    ≡ processes_in c.args.runs.now.items ++ processes_of ps)) (sym points) after

-- Turns

pub add_turns-returns-in-Some : goal.add_turns-returns-in-Some
add_turns-returns-in-Some t c =
    let f : FitsSigned w64 c.args.first = c.ranges.first in
    let g : FitsSigned w64 c.args.last = c.ranges.last in
    let count = simp to_z-of_z at c.turns_of.ensures in
    let fires =
    ap (λ n. replicate n c.in-Some.process) count
    ∙ sym (one_run c.in-Some.process c.args.body.now c.args.first c.args.last c.args.at.now c.in-Some.ensures) in
    subst (λ fs. OnOk c.add_run.result
    (processes_in c.add_run.new.runs.items ≡ processes_in c.args.runs.now.items ++ fs))
    fires
    c.add_run.ensures

pub add_turns-add_parts-requires : goal.add_turns-add_parts-requires
add_turns-add_parts-requires t c =
    let f : FitsSigned w64 c.args.first = c.ranges.first in
    let g : FitsSigned w64 c.args.last = c.ranges.last in
    let le : to_z w64 c.loop-value.value-bits ≤ℤ to_z w64 (of_z w64 c.args.last) = search rules in
    let inner = c.extended.ensures in
    let turn = turn_within c.args.body.now c.args.at.now _ _ le c.loop-value.invariant.2 in
    let more : length c.extended.result ≡ length c.args.at.now + 1 =
    omega (arith, ap length inner, length-append c.args.at.now (to_z w64 c.loop-value.value-bits ∷ [])) in (
      search (rules, the_lemmas),
      (
        ap (all_forms_fit c.args.body.now) more ∙ c.requires.fit,
        ap (parts_within c.args.body.now) inner ∙ turn.0,
      ),
    )

pub add_turns-loop-value-preserved : goal.add_turns-loop-value-preserved
add_turns-loop-value-preserved t c =
    let le : to_z w64 c.loop-value.value-bits ≤ℤ to_z w64 (of_z w64 c.args.last) = search rules in
    let next : to_z w64 (of_z w64 (to_z w64 c.loop-value.value-bits +ℤ pos 1))
    ≡ to_z w64 c.loop-value.value-bits +ℤ pos 1 = omega (arith, ints) in
    let last : ℤ = to_z w64 (of_z w64 c.args.last) in
    let inner = c.extended.ensures in
    let more =
    turn_more c.args.body.now c.args.at.now _ last _ _ c.loop-value.invariant.0 _ le
    (c.in_ok-add_parts.ensures
    ∙ ap (λ at. processes_in c.loop-value.runs.items
    ++ processes_of (all_points (map trace_node c.args.body.now) at)) inner) in (
      subst (λ v. processes_in c.add_parts.new.runs.items
          ++ processes_of (turn_points (all_points (map trace_node c.args.body.now)) (interval v last) c.args.at.now)
          ≡ processes_in c.args.runs.now.items
          ++ processes_of (turn_points (all_points (map trace_node c.args.body.now))
          (interval (to_z w64 (of_z w64 c.args.first)) last) c.args.at.now))
          (sym next) more,
      omega (arith, ints),
      subst (λ v. IsTrue (turns_within c.args.body.now c.args.at.now (interval v last))) (sym next)
          (turn_within c.args.body.now c.args.at.now _ _ le c.loop-value.invariant.2).1,
    )

-- the turn at the last value ends the loop
pub add_turns-returns-in_ok-add_parts : goal.add_turns-returns-in_ok-add_parts
add_turns-returns-in_ok-add_parts t c =
    let f : FitsSigned w64 c.args.first = c.ranges.first in
    let g : FitsSigned w64 c.args.last = c.ranges.last in
    let le : to_z w64 c.loop-value.value-bits ≤ℤ to_z w64 (of_z w64 c.args.last) = search rules in
    let past : to_z w64 (of_z w64 c.args.last) <ℤ (to_z w64 c.loop-value.value-bits +ℤ pos 1) = omega (arith, ints) in
    let inner = c.extended.ensures in
    let more =
    turn_more c.args.body.now c.args.at.now _ _ _ _ c.loop-value.invariant.0 _ le
    (c.in_ok-add_parts.ensures
    ∙ ap (λ at. processes_in c.loop-value.runs.items
    ++ processes_of (all_points (map trace_node c.args.body.now) at)) inner) in
    simp to_z-of_z at
    (turns_done c.args.body.now c.args.at.now (to_z w64 c.loop-value.value-bits +ℤ pos 1)
    (to_z w64 (of_z w64 c.args.last))
    (processes_in c.add_parts.new.runs.items)
    (processes_in c.args.runs.now.items
    ++ processes_of (turn_points (all_points (map trace_node c.args.body.now))
    (interval (to_z w64 (of_z w64 c.args.first)) (to_z w64 (of_z w64 c.args.last))) c.args.at.now)) more past)
