use Rattle.std.proofs.Common.{◌≡◌, ◌+◌, length, refl, sym, ap, ◌∙◌}
use Rattle.std.specs.Prelude.{slice_get}
use Rattle.std.proofs.lemmas.Bool.{ltb-true}
use Rattle.std.proofs.lemmas.Option.{slice_get_read}
use Rattle.net_checker.proofs.sources.goes_on.Goals as goal

pub returns : goal.returns
returns c ahead =
    let vectors = c.args.vectors.now in
    let first = c.in-Some-get.ensures.lookup in
    let last = c.in-Some-get-2.ensures.lookup in
    let place : c.in-Some.place ≡ c.args.turn + c.args.by = c.in-Some.ensures.1 in
    record {
      at = c.in-Some-get.vector.now;
      later = c.in-Some-get-2.later.now;
      there = slice_get_read vectors (length vectors) c.args.turn c.in-Some-get.vector.now refl
          (ltb-true c.args.turn (length vectors) (sym first.0)) first.1;
      there_later = ap (slice_get vectors) (sym place)
          ∙ slice_get_read vectors (length vectors) c.in-Some.place c.in-Some-get-2.later.now refl
          (ltb-true c.in-Some.place (length vectors) (sym last.0)) last.1;
      ahead = c.is_ahead.ensures ahead;
    }
