-- The candidates of the later problems come first. That of the first one is added where the level is one before the read,
-- of the kind that is asked.
use Rattle.std.proofs.Common.{◌≡◌, ◌∷◌, [], Bool, true, false, length, refl, ap, ◌∙◌, sym, subst}
use Rattle.std.proofs.Common.{rules, arith}
use Rattle.std.specs.Prelude.{All, Contains, nat_lt, not}
use Rattle.std.proofs.Math.Bool.{beq}
use Rattle.std.proofs.lemmas.List.{nil_from_length}
use Rattle.std.proofs.lemmas.List.Elements.{All-head, All-tail}
use Rattle.std.proofs.lemmas.Result.{on_ok_weaker}
use Rattle.tree_order.specs.Candidates.{AddsLevel}
use Rattle.tree_order.specs.Reads.{read_in, write_in}
use Rattle.tree_join.proofs.LevelCounts.{has_level, level_below}
use Rattle.tree_join.proofs.Levels.{adds_no_level, adds_none, adds_one}
use Rattle.tree_graphs.specs.Level.{common_of}
use Rattle.sanlp.specs.Order.{common_loops}
use Rattle.tree_join.proofs.candidates.+push_level.Goals as goal

pub returns-in_default : goal.returns-in_default
returns-in_default t c =
    let none : c.args.problems.now ≡ [] = nil_from_length c.args.problems.now c.in_default.ensures.cases in
    subst (λ ps. AddsLevel c.args.read.now ps c.args.level c.args.within c.args.candidates.now
    c.args.candidates.now) (sym none)
    (adds_no_level c.args.read.now c.args.level c.args.within c.args.candidates.now c.args.candidates.now refl)

pub push_level-requires : goal.push_level-requires
push_level-requires t c =
    let first : c.args.problems.now ≡ c.in-Some.problem.now ∷ c.in-Some.problems.now = search rules in
    let own = Contains c.args.read.now.problems.now in (
      omega (arith, ap length first),
      (
        c.requires.joined,
        All-tail own c.in-Some.problem.now c.in-Some.problems.now (subst (All own) first c.requires.problems),
      ),
    )

pub returns-then-level-level_count : goal.returns-then-level-level_count
returns-then-level-level_count t c =
    let first : c.args.problems.now ≡ c.in-Some.problem.now ∷ c.in-Some.problems.now = search rules in
    let read = c.args.read.now in
    let p = c.in-Some.problem.now in
    let old = c.args.candidates.now in
    let new = c.push_level.new.candidates in
    subst (λ ps. AddsLevel read ps c.args.level c.args.within old new) (sym first)
    (adds_none read p c.in-Some.problems.now c.args.level c.args.within old new c.in_ok-push_level.ensures new refl
    (λ k. omega (
      arith,
      c.if-level-level_count.true,
      c.level_count.ensures,
      level_below (read_in read p) (write_in p) c.args.level k.has,
    )))

unlike : (a b : Bool) → a ≡ b → not (beq a b) ≡ true → ⊥
unlike true true e f = let k : false ≡ true = f in cc
unlike true false e f = cc
unlike false true e f = cc
unlike false false e f = let k : false ≡ true = f in cc

pub returns-then-inside-within : goal.returns-then-inside-within
returns-then-inside-within t c =
    let first : c.args.problems.now ≡ c.in-Some.problem.now ∷ c.in-Some.problems.now = search rules in
    let read = c.args.read.now in
    let p = c.in-Some.problem.now in
    let old = c.args.candidates.now in
    let new = c.push_level.new.candidates in
    let w = write_in p in
    let value : c.common_loops-common.result ≡ common_of w (read_in read p)
    = c.common_loops-common.ensures.value ∙ ap (λ loops. common_loops loops c.as_slice.result.now)
    c.as_slice-loops.ensures ∙ ap (common_loops w.statement.loops) c.as_slice.ensures in
    subst (λ ps. AddsLevel read ps c.args.level c.args.within old new) (sym first)
    (adds_none read p c.in-Some.problems.now c.args.level c.args.within old new c.in_ok-push_level.ensures new refl
    (λ k. unlike (nat_lt c.args.level c.common_loops-common.result) c.args.within
    (ap (nat_lt c.args.level) value ∙ k.within_is) c.if-inside-within.true))

pub candidate_of-requires-clause-problem : goal.candidate_of-requires-clause-problem
candidate_of-requires-clause-problem t c =
    let first : c.args.problems.now ≡ c.in-Some.problem.now ∷ c.in-Some.problems.now = search rules in
    let own = Contains c.args.read.now.problems.now in
    All-head own c.in-Some.problem.now c.in-Some.problems.now (subst (All own) first c.requires.problems)

pub candidate_of-requires-clause-asked : goal.candidate_of-requires-clause-asked
candidate_of-requires-clause-asked t c =
    let p = c.in-Some.problem.now in
    has_level (read_in c.args.read.now p) (write_in p) c.args.level
    (omega (arith, c.if-level-level_count.false, c.level_count.ensures))

pub returns : goal.returns
returns t c =
    let read = c.args.read.now in
    let first : c.args.problems.now ≡ c.in-Some.problem.now ∷ c.in-Some.problems.now = search rules in
    let middle = c.push_level.new.candidates in
    let new = c.push.new.self in
    on_ok_weaker c.push.result
    (λ pushed. subst (λ ps. AddsLevel read ps c.args.level c.args.within c.args.candidates.now new) (sym first)
    (adds_one read c.in-Some.problem.now c.in-Some.problems.now c.args.level c.args.within c.args.candidates.now
    middle c.in_ok-push_level.ensures new c.in_ok-candidate_of.field-0 pushed
    c.in_ok-candidate_of.ensures.candidate c.in_ok-candidate_of.ensures.writer c.in_ok-candidate_of.ensures.level))
    c.push.ensures.ok
