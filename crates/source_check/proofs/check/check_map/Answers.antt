use Rattle.std.proofs.Common.{sym, subst, ap, ◌∙◌, length, List}
use Rattle.std.specs.Prelude.{IsTrue, nat_le}
use Rattle.std.specs.List.{flat_map, list_all}
use Rattle.sanlp.specs.declared.nest.Statement.{Statement}
use Rattle.source_check.specs.Tests.{after_made, leaf_result, no_test}
use Rattle.source_check.proofs.Bounds.{short_statements, writer_few}
use Rattle.source_check.proofs.LeafSystems.{all_parts}
use Rattle.source_check.proofs.Outcomes.{leaf_is}
use Rattle.source_tree.specs.Places.{before_rows}
use Rattle.source_tree.specs.Systems.{every, write_systems, writer_place, writer_systems, writes_from}
use Rattle.source_tree.specs.References.{occurrence_of}
use Rattle.source_check.proofs.check.check_map.Goals as goal

pub test_writes-requires-clause-short : goal.test_writes-requires-clause-short
test_writes-requires-clause-short c =
    subst (λ (statements : List Statement). IsTrue (list_all (λ (s : Statement). nat_le (length s.loops) 6) statements))
    (sym c.as_slice-others.ensures) (short_statements c.args.read.now.nest.now)

pub returns : goal.returns
returns c = λ ctx e.
    let n = c.args.read.now.nest.now in
    let r = occurrence_of c.args.read.now.reference in
    let w = occurrence_of c.args.writer.now in
    c.leaf_rule.ensures
    ∙ ap (leaf_result c.args.leaf.now)
    (all_parts n r w ctx c.args.map.now c.args.leaf.now no_test c.test_map.new.tested c.test_writes.new.tested
    (c.in_ok-test_map.ensures ctx e)
    (c.in_ok-test_writes.ensures ctx e
    ∙ ap (λ (statements : List Statement).
    after_made c.args.leaf.now c.test_map.new.tested (flat_map (write_systems r every ctx
    (λ u. before_rows w.number w.statement c.args.map.now u.number u.statement (writer_place ctx u)))
    (writes_from r.access.array 0 statements))) c.as_slice-others.ensures))
    ∙ leaf_is c.args.leaf.now (writer_systems n r every ctx w c.args.map.now)
    (writer_few n r w c.args.writer.now.number ctx c.args.map.now c.requires.writer)
