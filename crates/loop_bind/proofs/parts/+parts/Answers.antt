use Rattle.std.proofs.Common.{◌∙◌, sym, ap}
use Rattle.loop_grammar.specs.declared.tree.Part.TheVariants.{For, If}
use Rattle.loop_bind.specs.Reasons.{least_from}
use Rattle.loop_bind.specs.Rows.{guard_rows, guard_findings}
use Rattle.loop_bind.proofs.PartLemmas.{for_ok, assign_ok, block_ok, if_makes, if_else_ok, next_part}
use Rattle.loop_bind.proofs.parts.+parts.Goals as goal

pub bind_parts-loop-part-preserved : goal.bind_parts-loop-part-preserved
bind_parts-loop-part-preserved t c =
    next_part c.args.parts.now c.loop-part.part-index c.part-item.result c.args.context.now c.loop-part.context
    c.bind_part.new.context
    c.args.progress.now c.loop-part.progress c.bind_part.new.progress c.args.nodes.now c.loop-part.nodes
    c.bind_part.new.nodes
    c.loop-part-test.true c.part-item.is c.loop-part.invariant c.in_ok-bind_part.ensures

pub bind_part-returns-in-For : goal.bind_part-returns-in-For
bind_part-returns-in-For t c =
    let f = c.in-For in
    for_ok c.args.part.now c.args.context.now c.bind_loop.new.context c.args.progress.now c.bind_loop.new.progress
    c.args.nodes.now c.bind_loop.new.nodes
    c.bind_loop.result f.name f.first f.second f.inclusive f.bound f.third f.step c.get.result.now
    c.in_ok-bounds-in-For.bounds c.read_head.new.least
    (f.is ∙ ap (For f.name f.first f.second f.inclusive f.bound f.third f.step) (sym c.get.ensures))
    c.in_ok-bounds-in-For.ensures.bounds c.in_ok-bounds-in-For.ensures.least c.bind_loop.ensures

pub bind_part-returns-in-None : goal.bind_part-returns-in-None
bind_part-returns-in-None t c =
    let p = c.args.progress.now in
    let scope = c.args.context.now.scope in
    if_makes c.args.part.now c.args.context.now c.bind_guarded.new.context p c.bind_guarded.new.progress
    c.args.nodes.now c.bind_guarded.new.nodes
    c.in-If.cond c.get-in-If.result.now c.as_slice-in-If.result.now c.guard.new.least
    (c.as_slice-in-If.ensures ∙ c.in_ok-rows-in-If.ensures.rows ∙ ap (guard_rows scope) c.as_slice.ensures)
    (c.in_ok-rows-in-If.ensures.least
    ∙ ap (λ tests. least_from p.least (guard_findings scope tests)) c.as_slice.ensures)
    (c.in-If.is ∙ (λ i. If c.in-If.cond (sym c.get-in-If.ensures i) (c.in-None.is i)))
    c.in_ok-bind_guarded-in-If.ensures

pub bind_part-returns-in-If : goal.bind_part-returns-in-If
bind_part-returns-in-If t c =
    let p = c.args.progress.now in
    let scope = c.args.context.now.scope in
    if_else_ok c.args.part.now c.args.context.now c.bind_guarded.new.context p c.bind_guarded.new.progress
    c.args.nodes.now c.bind_guarded.new.nodes
    c.in-If.cond c.get-in-If.result.now c.as_slice-in-If.result.now c.guard.new.least
    (c.as_slice-in-If.ensures ∙ c.in_ok-rows-in-If.ensures.rows ∙ ap (guard_rows scope) c.as_slice.ensures)
    (c.in_ok-rows-in-If.ensures.least
    ∙ ap (λ tests. least_from p.least (guard_findings scope tests)) c.as_slice.ensures)
    c.bind_other.result c.in-Some.other c.bind_other.new.context c.bind_other.new.progress c.bind_other.new.nodes
    c.as_slice-in-Some.result.now
    (c.in-If.is ∙ (λ i. If c.in-If.cond (sym c.get-in-If.ensures i) (c.in-Some.is i)))
    c.as_slice-in-Some.ensures c.in_ok-bind_guarded-in-If.ensures c.bind_other.ensures

pub bind_part-returns-in-Assign : goal.bind_part-returns-in-Assign
bind_part-returns-in-Assign t c =
    assign_ok c.args.part.now c.args.context.now c.args.context.now c.args.progress.now c.bind_assign.new.progress
    c.args.nodes.now c.bind_assign.new.nodes
    c.bind_assign.result c.in-Assign.target c.in-Assign.subscripts c.as_slice-in-Assign.result.now c.in-Assign.value
    c.in-Assign.is c.as_slice-in-Assign.ensures c.bind_assign.ensures

pub bind_part-returns : goal.bind_part-returns
bind_part-returns t c =
    block_ok c.args.part.now c.args.context.now c.bind_parts.new.context c.args.progress.now c.bind_parts.new.progress
    c.args.nodes.now c.bind_parts.new.nodes
    c.bind_parts.result c.in-Block.parts c.as_slice-in-Block.result.now c.in-Block.is c.as_slice-in-Block.ensures
    c.bind_parts.ensures
