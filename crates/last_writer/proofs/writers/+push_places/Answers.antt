use Rattle.std.proofs.Common.{◌≡◌, ◌≤ℤ◌, ◌∷◌, [], pos, length, sym, ap, subst, rules, arith, length-append}
use Rattle.std.specs.Prelude.{All, Err, Ok, OnOk, Result}
use Rattle.std.proofs.lemmas.List.{nil_from_length}
use Rattle.std.proofs.lemmas.List.Elements.{All-head, All-tail}
use Rattle.std.proofs.lemmas.Result.{on_ok_weaker}
use Rattle.last_writer.proofs.WriterLists.{adds_more, adds_none, places_more, places_none}
use Rattle.last_writer.specs.Writers.{AddsPlaces, AddsTests}
use Rattle.stride_trees.specs.declared.divisions.Division.{Division}
use Rattle.last_writer.proofs.writers.+push_places.Goals as goal

on_ok_both : {T E : Type 0} (P Q : Type 0) (r : Result T E) → OnOk r P → OnOk r Q → OnOk r (P × Q)
on_ok_both P Q (Ok x) p q = (p, q)
on_ok_both P Q (Err e) p q = tt

abbrev IsPositive : Division → Type 0
IsPositive d = pos 1 ≤ℤ d.divisor

pub place_of-requires-clause-divisor : goal.place_of-requires-clause-divisor
place_of-requires-clause-divisor t c =
    let first : c.args.divisions.now ≡ c.in-Some.division.now ∷ c.in-Some.divisions.now = search rules in
    All-head IsPositive c.in-Some.division.now c.in-Some.divisions.now (subst (All IsPositive) first c.requires.divisors)

pub place_of-requires-clause-few : goal.place_of-requires-clause-few
place_of-requires-clause-few t c = omega (arith, c.requires.few)

pub returns-in_default-clause-places : goal.returns-in_default-clause-places
returns-in_default-clause-places t c =
    let none : c.args.divisions.now ≡ [] = nil_from_length c.args.divisions.now c.in_default.ensures.cases in
    subst (λ ds. AddsPlaces c.args.tests.now ds c.args.places.now c.args.places.now) (sym none)
    (places_none c.args.tests.now c.args.places.now)

pub returns-in_default-clause-tests : goal.returns-in_default-clause-tests
returns-in_default-clause-tests t c = adds_none c.args.divisions.now c.args.tests.now

pub push_places-requires : goal.push_places-requires
push_places-requires t c =
    let first : c.args.divisions.now ≡ c.in-Some.division.now ∷ c.in-Some.divisions.now = search rules in (
      omega (arith, ap length first),
      (
        omega (
          arith,
          ap length first,
          c.requires.few,
          ap length c.in_ok-place.ensures.tests.grown,
          length-append c.args.tests.now c.in_ok-place.ensures.tests.more,
          c.in_ok-place.ensures.tests.few,
        ),
        All-tail IsPositive c.in-Some.division.now c.in-Some.divisions.now
            (subst (All IsPositive) first c.requires.divisors),
      ),
    )

pub returns-clause-places : goal.returns-clause-places
returns-clause-places t c =
    let first : c.args.divisions.now ≡ c.in-Some.division.now ∷ c.in-Some.divisions.now = search rules in
    on_ok_weaker c.push_places.result
    (λ both. subst (λ ds. AddsPlaces c.push_places.new.tests ds c.args.places.now c.push_places.new.places) (sym first)
    (places_more c.in-Some.division.now c.in-Some.divisions.now c.place_of.new.tests c.push_places.new.tests
    c.in_ok-place.place c.args.places.now c.push.new.self c.push_places.new.places both.1 c.in_ok-place.ensures.place
    c.in_ok-push.ensures.ok both.0))
    (on_ok_both _ _ c.push_places.result c.push_places.ensures.places c.push_places.ensures.tests)

pub returns-clause-tests : goal.returns-clause-tests
returns-clause-tests t c =
    let first : c.args.divisions.now ≡ c.in-Some.division.now ∷ c.in-Some.divisions.now = search rules in
    on_ok_weaker c.push_places.result
    (λ rest. subst (λ ds. AddsTests ds c.args.tests.now c.push_places.new.tests) (sym first)
    (adds_more c.in-Some.division.now c.in-Some.divisions.now c.args.tests.now c.place_of.new.tests
    c.push_places.new.tests c.in_ok-place.ensures.tests rest)) c.push_places.ensures.tests
