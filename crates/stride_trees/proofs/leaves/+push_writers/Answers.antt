-- The writers that are left come one after the other: the first takes the proofs that are told for it, if all its tests say yes.
use Rattle.std.proofs.Common.{◌≡◌, ◌∷◌, [], length, sym, ap, subst, rules, arith}
use Rattle.std.specs.Prelude.{All}
use Rattle.std.specs.List.{flat_map}
use Rattle.std.proofs.lemmas.List.{nil_from_length}
use Rattle.std.proofs.lemmas.List.Elements.{All-head, All-tail}
use Rattle.std.proofs.lemmas.Result.{on_ok_weaker}
use Rattle.source_tree.specs.Checked.{AreRefuted}
use Rattle.stride_trees.specs.Leaves.{fact_context, told_systems, which_of, AddsWriters, IsWriterIn}
use Rattle.stride_trees.proofs.WriterSteps.{writers_more, writers_none}
use Rattle.stride_trees.proofs.leaves.+push_writers.Goals as goal

pub returns-in_default : goal.returns-in_default
returns-in_default t c rest further at behind told =
    let none : c.args.writers.now ≡ [] = nil_from_length c.args.writers.now c.in_default.ensures.cases in
    subst (λ ws. AddsWriters c.args.w.now rest further ws c.args.proofs.now c.args.proofs.now) (sym none)
    (writers_none c.args.w.now rest further c.args.proofs.now)

pub push_writer-requires-clause-writer : goal.push_writer-requires-clause-writer
push_writer-requires-clause-writer t c =
    let own = IsWriterIn c.args.w.now in
    let first : c.args.writers.now ≡ c.in-Some.writer.now ∷ c.in-Some.writers.now = search rules in
    All-head own c.in-Some.writer.now c.in-Some.writers.now (subst (All own) first c.requires.writers)

pub push_writers-requires : goal.push_writers-requires
push_writers-requires t c =
    let own = IsWriterIn c.args.w.now in
    let first : c.args.writers.now ≡ c.in-Some.writer.now ∷ c.in-Some.writers.now = search rules in (
      omega (arith, ap length first),
      (
        All-tail own c.in-Some.writer.now c.in-Some.writers.now (subst (All own) first c.requires.writers),
        (c.requires.leaf, (c.requires.behind, c.in_ok-told.ensures.sums)),
      ),
    )

pub returns : goal.returns
returns t c =
    let w = c.args.w.now in
    let x = c.in-Some.writer.now in
    let xs = c.in-Some.writers.now in
    let first : c.args.writers.now ≡ x ∷ xs = search rules in
    on_ok_weaker c.push_writers.result
    (λ others rest further at behind told.
    (let from = told_systems (which_of w) w.answers.now (fact_context w rest) further in
    let one = c.in_ok-told.ensures.proofs rest further at behind (flat_map from xs)
    (subst (λ ws. AreRefuted (flat_map from ws) c.args.told.now) first told) in
    subst (λ ws. AddsWriters w rest further ws c.args.proofs.now c.push_writers.new.proofs) (sym first)
    (writers_more w rest further x xs c.args.proofs.now c.push_writer.new.proofs c.push_writers.new.proofs one.0
    (others rest further at behind one.1))))
    c.push_writers.ensures
