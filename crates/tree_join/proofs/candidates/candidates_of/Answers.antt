-- After so many levels, the deepest first, the candidates of those levels are there.
use Rattle.std.proofs.Common.{◌≡◌, ◌-◌, length, sym, ap, subst, arith}
use Rattle.std.specs.Prelude.{All}
use Rattle.std.proofs.lemmas.List.Elements.{All-contains_itself, All-nil}
use Rattle.tree_order.specs.Candidates.{IsCandidate}
use Rattle.tree_join.proofs.LevelCounts.{few_levels}
use Rattle.tree_join.proofs.Levels.{level_more}
use Rattle.tree_join.proofs.candidates.candidates_of.Goals as goal

pub loop-outer-init : goal.loop-outer-init
loop-outer-init c = record {
  each = subst (All (IsCandidate c.args.read.now)) (sym c.new-candidates.ensures) (All-nil _);
  every = λ o p there has le. absurd (omega (arith, le, few_levels c.args.read.now o p c.requires there has));
  few = omega (arith, ap length c.new-candidates.ensures);
}

pub push_level-requires-clause-problems : goal.push_level-requires-clause-problems
push_level-requires-clause-problems c = All-contains_itself c.args.read.now.problems.now

pub push_level-requires-in-loop-outer-clause-problems : goal.push_level-requires-in-loop-outer-clause-problems
push_level-requires-in-loop-outer-clause-problems c = All-contains_itself c.args.read.now.problems.now

pub loop-outer-preserved : goal.loop-outer-preserved
loop-outer-preserved c =
    let read = c.args.read.now in
    let old = c.loop-outer.candidates in
    let middle = c.push_level.new.candidates in
    let new = c.push_level-in-loop-outer.new.candidates in
    let inner = c.in_ok-push_level.ensures in
    let other = c.in_ok-push_level-2.ensures in
    record {
      each = other.each (inner.each c.loop-outer.invariant.each);
      every = level_more read old middle new c.loop-outer.outer (6 - c.loop-outer.outer)
          (omega (arith, c.loop-outer-test.true)) (omega (arith, c.loop-outer-test.true)) inner other
          c.loop-outer.invariant.every;
      few = omega (arith, inner.few, other.few, c.loop-outer.invariant.few, c.requires.few);
    }

pub returns : goal.returns
returns c =
    let last : c.loop-outer.outer ≡ 7 = omega arith in
    record {
      each = c.loop-outer.invariant.each;
      every = λ o p there has. c.loop-outer.invariant.every o p there has (omega (arith, last));
      few = omega (arith, last, c.loop-outer.invariant.few);
    }
