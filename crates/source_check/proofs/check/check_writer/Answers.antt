use Rattle.std.proofs.Common.{Some, None, sym, ap, ◌∙◌}
use Rattle.std.proofs.lemmas.Result.{IfOk-weaker}
use Rattle.source_check.proofs.Parts.{named_is, writer_bad, writer_end_is, writer_gone, writer_long}
use Rattle.source_tree.specs.Systems.{Context}
use Rattle.source_tree.specs.Walk.{are_over}
use Rattle.source_tree.specs.References.{occurrence_of}
use Rattle.source_check.proofs.check.check_writer.Goals as goal

pub returns-then-not-map_is_over : goal.returns-then-not-map_is_over
returns-then-not-map_is_over c = λ ctx e.
    writer_bad c.args.read.now.nest.now
    (occurrence_of c.args.read.now.reference) c.args.leaf.now.number ctx c.args.number c.args.map.now
    c.args.leaf.now.proofs.now
    (ap (λ (ctx : Context). are_over ctx.vars c.args.map.now) e ∙ sym c.map_is_over.ensures ∙ c.if-not-map_is_over.true)

pub returns-in_default : goal.returns-in_default
returns-in_default c = λ ctx e.
    writer_gone c.args.read.now.nest.now
    (occurrence_of c.args.read.now.reference) c.args.leaf.now.number ctx c.args.number c.args.map.now
    c.args.leaf.now.proofs.now
    (ap (λ (ctx : Context). are_over ctx.vars c.args.map.now) e ∙ sym c.map_is_over.ensures
    ∙ c.if-not-map_is_over.false) (sym c.in_default.ensures.value)

pub returns-then-map-len : goal.returns-then-map-len
returns-then-map-len c = λ ctx e.
    writer_long c.args.read.now.nest.now
    (occurrence_of c.args.read.now.reference) c.args.leaf.now.number ctx c.args.number c.args.map.now
    c.args.leaf.now.proofs.now c.in-Some.statement.now
    (ap (λ (ctx : Context). are_over ctx.vars c.args.map.now) e ∙ sym c.map_is_over.ensures
    ∙ c.if-not-map_is_over.false) (sym c.in-Some.ensures.value)
    (λ same. c.if-map-len.true (same ∙ sym c.len.ensures))

pub returns-in_default-write_of : goal.returns-in_default-write_of
returns-in_default-write_of c = λ ctx e.
    writer_end_is c.args.read.now.nest.now
    (occurrence_of c.args.read.now.reference) c.args.leaf.now.number ctx c.args.number c.args.map.now
    c.args.leaf.now.proofs.now c.in-Some.statement.now None
    (ap (λ (ctx : Context). are_over ctx.vars c.args.map.now) e ∙ sym c.map_is_over.ensures
    ∙ c.if-not-map_is_over.false) (sym c.in-Some.ensures.value)
    (c.if-map-len.false ∙ c.len.ensures) c.in_default-write_of.ensures

pub check_map-requires-clause-writer : goal.check_map-requires-clause-writer
check_map-requires-clause-writer c =
    named_is c.args.read.now.nest.now (occurrence_of c.args.read.now.reference) c.args.number c.in-Some.statement.now
    (occurrence_of c.in-Some-write_of.writer) (sym c.in-Some.ensures.value) c.in-Some-write_of.ensures

pub returns : goal.returns
returns c =
    IfOk-weaker c.check_map.result _ _
    (λ rule is ctx e. is ctx e
    ∙ writer_end_is c.args.read.now.nest.now
    (occurrence_of c.args.read.now.reference) c.args.leaf.now.number ctx c.args.number c.args.map.now
    c.args.leaf.now.proofs.now c.in-Some.statement.now
    (Some (occurrence_of c.in-Some-write_of.writer))
    (ap (λ (ctx : Context). are_over ctx.vars c.args.map.now) e ∙ sym c.map_is_over.ensures
    ∙ c.if-not-map_is_over.false) (sym c.in-Some.ensures.value)
    (c.if-map-len.false ∙ c.len.ensures) c.in-Some-write_of.ensures) (rw (c.as_slice.ensures, c.in_ok-forms.ensures) at c.check_map.ensures)
