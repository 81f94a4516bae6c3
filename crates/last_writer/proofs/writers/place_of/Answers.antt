use Rattle.std.proofs.Common.{◌∷◌, ◌++◌, ◌∙◌, [], ap, sym}
use Rattle.last_writer.proofs.WriterLists.{adds_none, place_added, place_found, place_never}
use Rattle.last_writer.proofs.writers.place_of.Goals as goal

pub returns-then-never_divides : goal.returns-then-never_divides
returns-then-never_divides c = record {
  place = place_never c.args.tests.now c.args.division.now (sym c.never_divides.ensures ∙ c.if-never_divides.true);
  tests = adds_none (c.args.division.now ∷ []) c.args.tests.now;
}

pub returns-in-Some-clause-place : goal.returns-in-Some-clause-place
returns-in-Some-clause-place c =
    place_found c.args.tests.now c.as_slice.result.now c.args.division.now c.in-Some.place c.as_slice.ensures
    (rw c.in-Some.is at c.place_among-found.ensures)

pub returns-in_ok-push-in-None-clause-place : goal.returns-in_ok-push-in-None-clause-place
returns-in_ok-push-in-None-clause-place c =
    place_added c.args.tests.now c.push.new.self c.args.division.now c.len-place.result
    (c.in_ok-push-in-None.ensures.ok ∙ ap (λ d. c.args.tests.now ++ d ∷ []) c.copy_of.ensures) c.len-place.ensures
