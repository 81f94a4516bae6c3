use Rattle.std.proofs.Common.{◌≡◌, ◌∷◌, rules}
use Rattle.std.proofs.lemmas.Result.{on_ok_weaker}
use Rattle.source_check.specs.Paths.{further_rows}
use Rattle.source_check.proofs.LeafSystems.{no_write, one_write}
use Rattle.source_tree.specs.Systems.{every, write_systems}
use Rattle.source_tree.specs.References.{occurrence_of}
use Rattle.source_check.proofs.check.+test_writes.Goals as goal

pub returns-in_default-write_of : goal.returns-in_default-write_of
returns-in_default-write_of t c =
    let first : c.args.statements.now ≡ c.in-Some.statement.now ∷ c.in-Some.statements.now = search rules in
    on_ok_weaker c.test_writes.result
    (λ is ctx e.
    no_write c.args.leaf.now
    (write_systems (occurrence_of c.args.read.now.reference) every ctx (further_rows ctx c.args.after.now))
    c.args.read.now.reference.access.now.array c.args.number c.in-Some.statement.now c.in-Some.statements.now
    c.args.statements.now first c.args.tested.now _ c.in_default-write_of.ensures (is ctx e)) c.test_writes.ensures

pub returns : goal.returns
returns t c =
    let first : c.args.statements.now ≡ c.in-Some.statement.now ∷ c.in-Some.statements.now = search rules in
    on_ok_weaker c.test_writes-2.result
    (λ is ctx e.
    one_write c.args.leaf.now
    (write_systems (occurrence_of c.args.read.now.reference) every ctx (further_rows ctx c.args.after.now))
    c.args.read.now.reference.access.now.array c.args.number c.in-Some.statement.now c.in-Some.statements.now
    c.args.statements.now first c.args.tested.now (occurrence_of c.in-Some-write_of.writer) _ _
    c.in-Some-write_of.ensures (c.in_ok-test_write.ensures ctx e) (is ctx e)) c.test_writes-2.ensures
