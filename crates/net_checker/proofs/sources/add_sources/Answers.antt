use Rattle.std.proofs.Common.{◌≡◌, ◌<◌, ℕ, ℤ, List, [], Some, length, get_or, slice_get, refl, sym, ap, ◌∙◌}
use Rattle.std.proofs.Common.{arith, subst, inl, inr}
use Rattle.std.proofs.lemmas.Bool.{cases_lt}
use Rattle.std.proofs.lemmas.Option.{slice_get_read}
use Rattle.sanlp.specs.declared.nest.Nest.{Nest}
use Rattle.sanlp.specs.Points.{points_of}
use Rattle.sanlp.specs.Trace.{trace}
use Rattle.sanlp.specs.Writers.{last_writer}
use Rattle.sanlp.proofs.NestFacts.{points_length}
use Rattle.source_tree.specs.Exact.{IsPointOf}
use Rattle.net_checker.proofs.Choices.{first_none}
use Rattle.net_checker.proofs.Ready.{ready_at}
use Rattle.net_checker.proofs.Tables.{given_at, row_more, row_whole}
use Rattle.net_checker.proofs.Turns.{few_vectors, given_tag}
use Rattle.net_checker.proofs.Usable.{at_vector, overflow_found, overflow_passed}
use Rattle.net_checker.proofs.sources.add_sources.Goals as goal

-- the vectors of the statement, and that of a turn
whole : (n : Nest) (s : ℕ) (of : List (List (List ℤ))) (items : List (List ℤ)) → of ≡ points_of n
    → items ≡ get_or of s [] → items ≡ get_or (points_of n) s []
whole n s of items points is = is ∙ ap (λ (of : List (List (List ℤ))). get_or of s []) points

here : (vectors items : List (List ℤ)) (f : ℕ) (at : List ℤ) → items ≡ vectors → f < length items
    → at ≡ get_or items f at → slice_get vectors f ≡ Some at
here vectors items f at same lt is =
    ap (λ v. slice_get v f) (sym same) ∙ slice_get_read items (length items) f at refl lt is

pub vectors_of-vectors-requires : goal.vectors_of-vectors-requires
vectors_of-vectors-requires c =
    omega (
      arith,
      c.requires.statement,
      points_length c.args.candidate.now.nest.now,
      ap length
          c.args.candidate.now.points_of_nest,
    )

pub eval-requires-clause-ready : goal.eval-requires-clause-ready
eval-requires-clause-ready c =
    let n = c.args.candidate.now.nest.now in
    let s = c.args.statement in
    let items = c.vectors_of-vectors.result.now in
    let all = whole n s c.args.candidate.now.points.now.of items c.args.candidate.now.points_of_nest
    c.vectors_of-vectors.ensures in
    ready_at n s c.requires.checked.0 c.args.tree.now c.requires.checked.1 c.loop-turn.turn
    c.index-vectors-turn.result
    (here (get_or (points_of n) s []) items c.loop-turn.turn c.index-vectors-turn.result all c.loop-turn-test.true
    c.index-vectors-turn.is)

pub tag_of-requires : goal.tag_of-requires
tag_of-requires c =
    let n = c.args.candidate.now.nest.now in
    let s = c.args.statement in
    let items = c.vectors_of-vectors.result.now in
    let all = whole n s c.args.candidate.now.points.now.of items c.args.candidate.now.points_of_nest
    c.vectors_of-vectors.ensures in
    let g = given_at n s c.requires.checked.0 c.args.tree.now c.requires.checked.1 c.loop-turn.turn
    c.index-vectors-turn.result
    (here (get_or (points_of n) s []) items c.loop-turn.turn c.index-vectors-turn.result all c.loop-turn-test.true
    c.index-vectors-turn.is) in
    let w = last_writer n g.entry c.requires.checked.0 in
    (w, subst (IsPointOf (trace n) w) (sym c.in-Ok.ensures.value) g.given)

pub overflow_cast-result : goal.overflow_cast-result
overflow_cast-result c =
    let n = c.args.candidate.now.nest.now in
    let s = c.args.statement in
    let all = whole n s c.args.candidate.now.points.now.of c.vectors_of-vectors.result.now
    c.args.candidate.now.points_of_nest
    c.vectors_of-vectors.ensures in
    omega (arith, few_vectors n s c.args.candidate.now.size, ap length all)

pub returns-in-Err-clause-overflow : goal.returns-in-Err-clause-overflow
returns-in-Err-clause-overflow c =
    let n = c.args.candidate.now.nest.now in
    let s = c.args.statement in
    let items = c.vectors_of-vectors.result.now in
    let all = whole n s c.args.candidate.now.points.now.of items c.args.candidate.now.points_of_nest
    c.vectors_of-vectors.ensures in
    let vectors : List (List ℤ) = get_or (points_of n) s [] in
    let there = here vectors items c.loop-turn.turn c.index-vectors-turn.result all c.loop-turn-test.true
    c.index-vectors-turn.is in
    overflow_found c.args.tree.now vectors c.loop-turn.turn c.index-vectors-turn.result there
    c.loop-turn.invariant.passed (sym c.in-Err.ensures.exact)

pub loop-turn-preserved : goal.loop-turn-preserved
loop-turn-preserved c =
    let n = c.args.candidate.now.nest.now in
    let s = c.args.statement in
    let tree = c.args.tree.now in
    let turn = c.loop-turn.turn in
    let at = c.index-vectors-turn.result in
    let items = c.vectors_of-vectors.result.now in
    let all = whole n s c.args.candidate.now.points.now.of items c.args.candidate.now.points_of_nest
    c.vectors_of-vectors.ensures in
    let vectors : List (List ℤ) = get_or (points_of n) s [] in
    let there = here vectors items turn at all c.loop-turn-test.true c.index-vectors-turn.is in
    record {
      passed = λ f lt. elim (cases_lt f turn) [
        | inl before ↦ c.loop-turn.invariant.passed f before
        | inr after ↦
            let e : f ≡ turn = omega arith in
            ap (at_vector tree vectors) e
            ∙ overflow_passed tree vectors turn at c.in-Ok.found there (sym c.in-Ok.ensures.exact)
      ];
      added = λ k checked. row_more n s k turn at tree c.loop-turn.sources c.push-in-Ok.new.self c.tag_of.result
          (given_at n s k tree checked turn at there) (c.loop-turn.invariant.added k checked)
          (λ writer h. c.tag_of.ensures writer (subst (IsPointOf (trace n) writer) (sym c.in-Ok.ensures.value) h))
          c.in_ok-push-in-Ok.ensures.ok;
      known = c.eval.ensures.known;
      told = c.take.ensures.left c.args.candidate.now.points.now.of tree
          (get_or c.args.candidate.now.points.now.of s []) turn c.loop-turn.invariant.told;
      rows = c.loop-turn.invariant.rows;
    }

pub loop-turn-preserved-in-Some : goal.loop-turn-preserved-in-Some
loop-turn-preserved-in-Some c =
    let n = c.args.candidate.now.nest.now in
    let s = c.args.statement in
    let tree = c.args.tree.now in
    let turn = c.loop-turn.turn in
    let at = c.index-vectors-turn.result in
    let items = c.vectors_of-vectors.result.now in
    let all = whole n s c.args.candidate.now.points.now.of items c.args.candidate.now.points_of_nest
    c.vectors_of-vectors.ensures in
    let vectors : List (List ℤ) = get_or (points_of n) s [] in
    let there = here vectors items turn at all c.loop-turn-test.true c.index-vectors-turn.is in
    let told = c.in-Some.ensures.tag c.args.candidate.now.points.now.of tree
    (get_or c.args.candidate.now.points.now.of s []) turn at
    c.loop-turn.invariant.told (here (get_or c.args.candidate.now.points.now.of s []) items turn at
    c.vectors_of-vectors.ensures
    c.loop-turn-test.true c.index-vectors-turn.is) in
    record {
      passed = λ f lt. elim (cases_lt f turn) [
        | inl before ↦ c.loop-turn.invariant.passed f before
        | inr after ↦
            let e : f ≡ turn = omega arith in
            ap (at_vector tree vectors) e ∙ overflow_passed tree vectors turn at _ there told.is
      ];
      added = λ k checked. row_more n s k turn at tree c.loop-turn.sources c.push.new.self (Some c.in-Some.tag)
          (given_at n s k tree checked turn at there) (c.loop-turn.invariant.added k checked)
          (λ writer h. given_tag n c.args.candidate.now.points.now.of tree at c.in-Some.tag
          c.args.candidate.now.points_of_nest told writer h)
          c.in_ok-push.ensures.ok;
      known = c.loop-turn.invariant.known;
      told = c.in-Some.ensures.left c.args.candidate.now.points.now.of tree
          (get_or c.args.candidate.now.points.now.of s []) turn
          c.loop-turn.invariant.told;
      rows = c.loop-turn.invariant.rows;
    }

pub loop-turn-preserved-in-Some-guessed_tag : goal.loop-turn-preserved-in-Some-guessed_tag
loop-turn-preserved-in-Some-guessed_tag c =
    let n = c.args.candidate.now.nest.now in
    let s = c.args.statement in
    let tree = c.args.tree.now in
    let turn = c.loop-turn.turn in
    let at = c.index-vectors-turn.result in
    let items = c.vectors_of-vectors.result.now in
    let all = whole n s c.args.candidate.now.points.now.of items c.args.candidate.now.points_of_nest
    c.vectors_of-vectors.ensures in
    let vectors : List (List ℤ) = get_or (points_of n) s [] in
    let there = here vectors items turn at all c.loop-turn-test.true c.index-vectors-turn.is in
    let told = c.in-Some-guessed_tag.ensures tree c.loop-turn.invariant.known in
    record {
      passed = λ f lt. elim (cases_lt f turn) [
        | inl before ↦ c.loop-turn.invariant.passed f before
        | inr after ↦
            let e : f ≡ turn = omega arith in
            ap (at_vector tree vectors) e ∙ overflow_passed tree vectors turn at _ there told.is
      ];
      added = λ k checked. row_more n s k turn at tree c.loop-turn.sources c.push-in-Some-guessed_tag.new.self
          (Some c.in-Some-guessed_tag.tag)
          (given_at n s k tree checked turn at there) (c.loop-turn.invariant.added k checked)
          (λ writer h. given_tag n c.args.candidate.now.points.now.of tree at c.in-Some-guessed_tag.tag
          c.args.candidate.now.points_of_nest told writer h)
          c.in_ok-push-2.ensures.ok;
      known = c.loop-turn.invariant.known;
      told = c.later_tags-told.ensures.told tree c.loop-turn.invariant.known;
      rows = c.later_tags-told.ensures.rows;
    }

pub later_tags-told-requires-clause-statement : goal.later_tags-told-requires-clause-statement
later_tags-told-requires-clause-statement c =
    omega (
      arith,
      c.requires.statement,
      points_length c.args.candidate.now.nest.now,
      ap length
          c.args.candidate.now.points_of_nest,
    )

pub returns-clause-overflow : goal.returns-clause-overflow
returns-clause-overflow c =
    let n = c.args.candidate.now.nest.now in
    let s = c.args.statement in
    let all = whole n s c.args.candidate.now.points.now.of c.vectors_of-vectors.result.now
    c.args.candidate.now.points_of_nest
    c.vectors_of-vectors.ensures in
    let vectors : List (List ℤ) = get_or (points_of n) s [] in
    sym (first_none (at_vector c.args.tree.now vectors) (length vectors)
    (λ f lt. c.loop-turn.invariant.passed f (omega (arith, ap length all))))

pub returns-clause-sources : goal.returns-clause-sources
returns-clause-sources c _ k checked =
    let n = c.args.candidate.now.nest.now in
    let s = c.args.statement in
    let all = whole n s c.args.candidate.now.points.now.of c.vectors_of-vectors.result.now
    c.args.candidate.now.points_of_nest
    c.vectors_of-vectors.ensures in
    c.loop-turn.invariant.added k checked
    ∙ row_whole n s k c.loop-turn.turn (omega (arith, c.loop-turn.auto.turn-end, ap length all))
