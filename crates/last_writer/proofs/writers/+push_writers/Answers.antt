use Rattle.std.proofs.Common.{◌≡◌, ◌∷◌, ◌++◌, ◌+◌, ◌≤◌, [], length, sym, ap, ◌∙◌, subst, rules, arith, drop, add-one}
use Rattle.std.specs.Prelude.{IsTrue}
use Rattle.std.specs.List.{list_all, sum_by}
use Rattle.std.proofs.lemmas.List.{append-nil, append_assoc, nil_from_length}
use Rattle.std.proofs.lemmas.Result.{on_ok_weaker}
use Rattle.plain_data.proofs.Lists.{drop_parts}
use Rattle.last_writer.proofs.StatementWrites.{all_of_others, first_fits, sum_of_both, writes_of_both}
use Rattle.last_writer.specs.Writers.{AreWriters}
use Rattle.source_tree.specs.Systems.{with_write, write_to, writes_from}
use Rattle.source_tree.specs.References.{occurrence_of}
use Rattle.tree_cuts.specs.Class.{stride_count, writes_strides}
use Rattle.last_writer.proofs.writers.+push_writers.Goals as goal

pub returns-in_default : goal.returns-in_default
returns-in_default t c before h =
    let array = c.args.read.now.access.now.array in
    let none : c.args.statements.now ≡ [] = nil_from_length c.args.statements.now c.in_default.ensures.cases in
    subst (λ writes. AreWriters c.args.nest.now (occurrence_of c.args.read.now) writes c.args.tests.now c.args.writers.now)
    (sym (append-nil before) ∙ ap (λ ss. before ++ writes_from array c.args.number ss) (sym none)) h

pub push_writer-requires-clause-statement : goal.push_writer-requires-clause-statement
push_writer-requires-clause-statement t c =
    let first : c.args.statements.now ≡ c.in-Some.statement.now ∷ c.in-Some.statements.now = search rules in
    (drop_parts c.args.nest.now.statements c.args.number c.in-Some.statement.now c.in-Some.statements.now
    (sym c.requires.statements ∙ first)).0

pub push_writer-requires-clause-strides : goal.push_writer-requires-clause-strides
push_writer-requires-clause-strides t c =
    let array = c.args.read.now.access.now.array in
    let first : c.args.statements.now ≡ c.in-Some.statement.now ∷ c.in-Some.statements.now = search rules in
    first_fits (length c.args.tests.now) (write_to array c.args.number c.in-Some.statement.now)
    (writes_from array (c.args.number + 1) c.in-Some.statements.now)
    (subst (λ ss. IsTrue (list_all writes_strides (writes_from array c.args.number ss))) first c.requires.strides)
    (subst (λ ss. length c.args.tests.now + sum_by stride_count (writes_from array c.args.number ss) ≤ 6) first
    c.requires.few)

pub push_writers-requires : goal.push_writers-requires
push_writers-requires t c =
    let array = c.args.read.now.access.now.array in
    let s = c.in-Some.statement.now in
    let statements = c.in-Some.statements.now in
    let first : c.args.statements.now ≡ s ∷ statements = search rules in
    let own = write_to array c.args.number s in
    let others = writes_from array (c.args.number + 1) statements in (
      omega (arith, ap length first),
      (
        c.requires.read,
        (
          sym (ap (λ k. drop k c.args.nest.now.statements) (add-one c.args.number)
              ∙ (drop_parts c.args.nest.now.statements c.args.number s statements
              (sym c.requires.statements ∙ first)).1),
          (
            omega (arith, ap length first, c.requires.count),
            (
              all_of_others writes_strides own others
                  (subst (λ ss. IsTrue (list_all writes_strides (writes_from array c.args.number ss))) first
                  c.requires.strides),
              omega (
                arith,
                subst (λ ss. length c.args.tests.now + sum_by stride_count (writes_from array c.args.number ss) ≤ 6)
                    first c.requires.few,
                sum_of_both stride_count own others,
                c.in_ok-push_writer.ensures.few,
              ),
            ),
          ),
        ),
      ),
    )

pub returns : goal.returns
returns t c before h =
    let array = c.args.read.now.access.now.array in
    let s = c.in-Some.statement.now in
    let statements = c.in-Some.statements.now in
    let first : c.args.statements.now ≡ s ∷ statements = search rules in
    let own = write_to array c.args.number s in
    let others = writes_from array (c.args.number + 1) statements in
    on_ok_weaker c.push_writers.result
    (λ all. subst (λ writes. AreWriters c.args.nest.now (occurrence_of c.args.read.now) writes c.push_writers.new.tests
    c.push_writers.new.writers)
    (append_assoc before (with_write own []) others ∙ ap (λ ws. before ++ ws) (writes_of_both own others)
    ∙ ap (λ ss. before ++ writes_from array c.args.number ss) (sym first)) all)
    (c.push_writers.ensures (before ++ with_write own []) (c.in_ok-push_writer.ensures.writers before h))
