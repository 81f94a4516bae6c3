use Rattle.std.proofs.Common.{◌≡◌, ◌+◌, ◌*◌, length, refl, sym, ap, ◌∙◌, arith}
use Rattle.std.specs.Prelude.{Some, slice_get}
use Rattle.std.proofs.lemmas.Bool.{ltb-true}
use Rattle.std.proofs.lemmas.Option.{slice_get_read}
use Rattle.net_checker.specs.Tables.{differences}
use Rattle.net_checker.proofs.TagRows.{next_place, stepped_more, stepped_none}
use Rattle.net_checker.proofs.sources.is_stepped_row.Goals as goal

pub loop-init : goal.loop-init
loop-init c =
    let vectors = c.args.vectors.now in
    let first = c.args.first in
    let look = c.in-Some-get.ensures.lookup in
    let is : slice_get vectors first ≡ Some c.as_slice-from.result.now =
    slice_get_read vectors (length vectors) first c.in-Some-get.first_vector.now refl
    (ltb-true first (length vectors) (sym look.0)) look.1
    ∙ ap Some (sym c.as_slice-from.ensures.value) in
    record {
      here = omega arith;
      passed = stepped_none vectors first c.args.step c.as_slice-from.result.now c.as_slice-second.result.now (omega arith) is;
    }

pub loop-preserved : goal.loop-preserved
loop-preserved c =
    let vectors = c.args.vectors.now in
    let place = c.loop.place in
    let next = c.in-Some-checked_add.next in
    let look = c.in-Some-get-3.ensures.lookup in
    let look' = c.in-Some-get-4.ensures.lookup in
    let goes : next ≡ c.args.first + (c.loop.counter + 1) * c.args.step =
    next_place c.args.first c.args.step c.loop.counter place next c.loop.invariant.here c.in-Some-checked_add.ensures.1 in
    let is_at : slice_get vectors place ≡ Some c.as_slice-at.result.now =
    slice_get_read vectors (length vectors) place c.in-Some-get-3.here.now refl
    (ltb-true place (length vectors) (sym look.0)) look.1
    ∙ ap Some (sym c.as_slice-at.ensures.value) in
    let is_after : slice_get vectors next ≡ Some c.as_slice-after.result.now =
    slice_get_read vectors (length vectors) next c.in-Some-get-4.there.now refl
    (ltb-true next (length vectors) (sym look'.0)) look'.1
    ∙ ap Some (sym c.as_slice-after.ensures.value) in
    record {
      here = goes;
      passed = stepped_more vectors c.args.first c.args.step c.loop.counter place next c.as_slice-from.result.now
          c.as_slice-second.result.now c.as_slice-at.result.now c.as_slice-after.result.now c.loop.invariant.here goes is_at
          is_after (c.is_step.ensures c.if-not-is_step.false) c.loop.invariant.passed;
    }

pub returns : goal.returns
returns c _ = record {
  from = c.as_slice-from.result.now;
  steps = differences c.as_slice-from.result.now c.as_slice-second.result.now;
  are = λ i le. c.loop.invariant.passed i (omega (arith, le));
}
