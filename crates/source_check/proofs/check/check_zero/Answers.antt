use Rattle.std.proofs.Common.{sym, subst, ap, ◌∙◌, length, List}
use Rattle.std.specs.Prelude.{IsTrue, nat_le}
use Rattle.std.specs.List.{list_all}
use Rattle.sanlp.specs.declared.nest.Statement.{Statement}
use Rattle.source_check.specs.declared.reference.After.TheVariants.{Nothing}
use Rattle.source_check.specs.Paths.{writes_before}
use Rattle.source_check.specs.Tests.{after_made, leaf_result, no_test}
use Rattle.source_check.proofs.Bounds.{short_statements, zero_few}
use Rattle.source_check.proofs.Outcomes.{leaf_is}
use Rattle.source_tree.specs.Systems.{every, zero_systems}
use Rattle.source_tree.specs.References.{occurrence_of}
use Rattle.source_check.proofs.check.check_zero.Goals as goal

pub test_writes-requires-clause-short : goal.test_writes-requires-clause-short
test_writes-requires-clause-short c =
    subst (λ (statements : List Statement). IsTrue (list_all (λ (s : Statement). nat_le (length s.loops) 6) statements))
    (sym c.as_slice-statements.ensures) (short_statements c.args.read.now.nest.now)

pub returns : goal.returns
returns c = λ ctx e.
    let n = c.args.read.now.nest.now in
    let r = occurrence_of c.args.read.now.reference in
    c.leaf_rule.ensures
    ∙ ap (leaf_result c.args.leaf.now)
    (c.in_ok-test_writes.ensures ctx e
    ∙ ap (λ statements.
    after_made c.args.leaf.now no_test
    (writes_before r ctx Nothing 0 statements)) c.as_slice-statements.ensures)
    ∙ leaf_is c.args.leaf.now (zero_systems n r every ctx) (zero_few n r ctx)
