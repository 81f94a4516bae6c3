use Rattle.std.proofs.Common.{rules, ◌≡◌, map, ℕ, List, w64, ℤ, pos, ◌+ℤ◌, ◌≤ℤ◌, ◌<ℤ◌, FitsSigned, to_z, of_z, arith}
use Rattle.std.proofs.Common.{sym, ap, ◌∙◌, ◌+◌, ◌*◌, length, subst}
use Rattle.std.specs.Prelude.{Result}
use Rattle.std.proofs.lemmas.Int.{ints, to_z-of_z}
use Rattle.std.proofs.lemmas.Result.{err_from_is_err_and}
use Rattle.sanlp.specs.declared.nest.Node.TheViews.{the_lemmas}
use Rattle.sanlp.specs.Loops.{interval}
use Rattle.loop_walk.specs.declared.count.SizeError.{SizeError}
use Rattle.loop_walk.specs.Counting.{Count, capped, counted_node, counted_turns}
use Rattle.sanlp.specs.WellFormed.{forms_fit}
use Rattle.loop_walk.proofs.BodyParts.{part_passes}
use Rattle.loop_walk.proofs.SizeLaw.{equal_turns}
use Rattle.loop_walk.proofs.CountLemmas.{turn_counted, turn_refused, turns_counted}
use Rattle.loop_walk.proofs.count.+count.Goals as goal

pub count_parts-count_node-requires : goal.count_parts-count_node-requires
count_parts-count_node-requires t c = (
  search (rules, the_lemmas),
  part_passes forms_fit c.args.parts.now _ c.loop-part.part-index c.part-item.result c.requires c.loop-part-test.true
      c.part-item.is,
)

pub count_turns-returns-in_err-count : goal.count_turns-returns-in_err-count
count_turns-returns-in_err-count t c =
    let f : FitsSigned w64 c.args.first = c.ranges.first in
    let g : FitsSigned w64 c.args.last = c.ranges.last in
    let le : to_z w64 c.loop-value.value-bits ≤ℤ to_z w64 (of_z w64 c.args.last) = search rules in
    let refused =
    simp to_z-of_z at
    (turn_refused
    (map counted_node c.args.parts.now) c.args.at.now _ _ c.loop-value.count _ c.in_err-count.field-0.0 le
    c.in_err-count.ensures c.loop-value.invariant.0) in
    let p = err_from_is_err_and c.from_residual.result c.from_residual.ensures.1 in
    rw (p.1, p.2) refused

pub count_turns-loop-value-preserved : goal.count_turns-loop-value-preserved
count_turns-loop-value-preserved t c =
    let le : to_z w64 c.loop-value.value-bits ≤ℤ to_z w64 (of_z w64 c.args.last) = search rules in
    let next : to_z w64 (of_z w64 (to_z w64 c.loop-value.value-bits +ℤ pos 1))
    ≡ to_z w64 c.loop-value.value-bits +ℤ pos 1 = omega (arith, ints) in
    let body : List (List ℤ → Count) = map counted_node c.args.parts.now in
    let last : ℤ = to_z w64 (of_z w64 c.args.last) in
    let all : Result ℕ SizeError =
    counted_turns body c.args.at.now (interval (to_z w64 (of_z w64 c.args.first)) last) c.args.count in
    let more =
    turn_counted body c.args.at.now _ last c.loop-value.count all c.in_ok-count.count le c.in_ok-count.ensures
    c.loop-value.invariant.0 in (
      subst (λ v. counted_turns body c.args.at.now (interval v last) c.in_ok-count.count ≡ all) (sym next) more,
      omega (arith, ints),
    )

pub count_turns-returns-in_ok-count : goal.count_turns-returns-in_ok-count
count_turns-returns-in_ok-count t c =
    let f : FitsSigned w64 c.args.first = c.ranges.first in
    let g : FitsSigned w64 c.args.last = c.ranges.last in
    let le : to_z w64 c.loop-value.value-bits ≤ℤ to_z w64 (of_z w64 c.args.last) = search rules in
    let last : to_z w64 (of_z w64 c.args.last) <ℤ (to_z w64 c.loop-value.value-bits +ℤ pos 1) = omega (arith, ints) in
    let body : List (List ℤ → Count) = map counted_node c.args.parts.now in
    let more =
    turn_counted body c.args.at.now _ _ c.loop-value.count _ c.in_ok-count.count le c.in_ok-count.ensures
    c.loop-value.invariant.0 in
    simp to_z-of_z at (turns_counted body c.args.at.now _ _ c.in_ok-count.count _ last more)

pub count_turns-returns-then-are_assignments : goal.count_turns-returns-then-are_assignments
count_turns-returns-then-are_assignments t c =
    let parts = c.args.parts.now in
    let f : FitsSigned w64 c.args.first = c.ranges.first in
    let g : FitsSigned w64 c.args.last = c.ranges.last in
    let turns = simp to_z-of_z at c.turns_of.ensures in
    c.count_equal_turns.ensures
    ∙ ap (λ (turns : ℕ). capped (c.args.count + turns * (1 + length parts))) turns
    ∙ equal_turns parts c.args.at.now c.args.first c.args.last c.args.count c.if-count-le-SIZE_LIMIT.true
    (sym c.are_assignments.ensures ∙ c.if-are_assignments.true)
