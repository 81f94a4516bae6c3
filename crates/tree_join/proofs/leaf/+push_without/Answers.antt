-- The problems that are left come one after the other. The systems of the first one come first, and the proofs are added
-- in this order: so proofs that refute its systems and those of the others refute all.
use Rattle.std.proofs.Common.{◌≡◌, ◌∷◌, [], length, refl, ap, subst, rules, arith}
use Rattle.std.specs.Prelude.{All, Contains}
use Rattle.std.proofs.lemmas.List.{nil_from_length}
use Rattle.std.proofs.lemmas.List.Elements.{All-head, All-tail}
use Rattle.std.proofs.lemmas.Result.{on_ok_weaker}
use Rattle.tree_graphs.specs.Joint.{no_orders, write_systems_of}
use Rattle.tree_order.specs.Reads.{pairs_with, read_in, write_in}
use Rattle.tree_join.proofs.LeafSystems.{both_refutations, no_refutations}
use Rattle.source_tree.specs.Systems.{every, write_systems}
use Rattle.tree_join.proofs.leaf.+push_without.Goals as goal

pub returns-in_default : goal.returns-in_default
returns-in_default t c =
    let r = c.args.state.now.read.now in
    let none : c.args.problems.now ≡ [] = nil_from_length c.args.problems.now c.in_default.ensures.cases in
    no_refutations c.args.state.now.context.now
    (λ cx. write_systems_of every (pairs_with r c.args.problems.now) cx no_orders)
    c.args.proofs.now c.args.proofs.now refl
    (λ cx. ap (λ ps. write_systems_of every (pairs_with r ps) cx no_orders) none)

pub push_writer_without-requires-clause-problem : goal.push_writer_without-requires-clause-problem
push_writer_without-requires-clause-problem t c =
    let first : c.args.problems.now ≡ c.in-Some.problem.now ∷ c.in-Some.problems.now = search rules in
    let own = Contains c.args.state.now.read.now.problems.now in
    All-head own c.in-Some.problem.now c.in-Some.problems.now (subst (All own) first c.requires.problems)

pub push_without-requires : goal.push_without-requires
push_without-requires t c =
    let first : c.args.problems.now ≡ c.in-Some.problem.now ∷ c.in-Some.problems.now = search rules in
    let own = Contains c.args.state.now.read.now.problems.now in (
      omega (arith, ap length first),
      (
        c.requires.end,
        All-tail own c.in-Some.problem.now c.in-Some.problems.now (subst (All own) first c.requires.problems),
      ),
    )

pub returns : goal.returns
returns t c =
    let r = c.args.state.now.read.now in
    let p = c.in-Some.problem.now in
    let problems = c.in-Some.problems.now in
    let first : c.args.problems.now ≡ p ∷ problems = search rules in
    on_ok_weaker c.push_without.result
    (λ rest.
    both_refutations c.args.state.now.context.now
    (λ cx. write_systems (read_in r p) every cx no_orders (write_in p))
    (λ cx. write_systems_of every (pairs_with r problems) cx no_orders)
    (λ cx. write_systems_of every (pairs_with r c.args.problems.now) cx no_orders)
    c.args.proofs.now c.push_writer_without.new.proofs c.push_without.new.proofs
    (λ cx. ap (λ ps. write_systems_of every (pairs_with r ps) cx no_orders) first)
    c.in_ok-push_writer_without.ensures rest) c.push_without.ensures
