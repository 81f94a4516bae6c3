use Rattle.std.proofs.Common.{◌≡◌, pos, negsuc, sym, ap, ◌∙◌, arith}
use Rattle.std.proofs.lemmas.Result.{on_ok_weaker}
use Rattle.affine_core.specs.Affine.{constant_form, form_product, form_sum}
use Rattle.tree_graphs.specs.Asked.{depth_of_write}
use Rattle.tree_graphs.specs.Edges.{node_of}
use Rattle.tree_graphs.specs.declared.edges.Edge.{Edge}
use Rattle.tree_graphs.proofs.EdgeRows.{adds_cell, constant_over, constant_small, kept_push, kept_twice, read_small}
use Rattle.tree_graphs.proofs.ProblemBounds.{writes_fit}
use Rattle.tree_graphs.proofs.edges.push_cell.Goals as goal

pub constant_of-constant-requires : goal.constant_of-constant-requires
constant_of-constant-requires c = omega (arith, (writes_fit c.args.w.now).few_vars)

pub difference-requires-clause-over : goal.difference-requires-clause-over
difference-requires-clause-over c = constant_over c.args.w.now.vars (depth_of_write c.args.w.now) c.args.write.now
    c.constant_of-constant.result c.args.read.now c.requires c.constant_of-constant.ensures

pub difference-requires-clause-first : goal.difference-requires-clause-first
difference-requires-clause-first c =
    constant_small c.args.w.now.vars (depth_of_write c.args.w.now) c.args.write.now c.args.read.now
    c.constant_of-constant.result c.requires c.constant_of-constant.ensures

pub difference-requires-clause-second : goal.difference-requires-clause-second
difference-requires-clause-second c =
    read_small c.args.w.now.vars (depth_of_write c.args.w.now) c.args.write.now c.args.read.now c.requires

pub difference-requires-2-clause-over : goal.difference-requires-2-clause-over
difference-requires-2-clause-over c = sym (constant_over c.args.w.now.vars (depth_of_write c.args.w.now)
    c.args.write.now c.constant_of-constant.result c.args.read.now c.requires c.constant_of-constant.ensures)

pub difference-requires-2-clause-first : goal.difference-requires-2-clause-first
difference-requires-2-clause-first c =
    read_small c.args.w.now.vars (depth_of_write c.args.w.now) c.args.write.now c.args.read.now c.requires

pub difference-requires-2-clause-second : goal.difference-requires-2-clause-second
difference-requires-2-clause-second c =
    constant_small c.args.w.now.vars (depth_of_write c.args.w.now) c.args.write.now c.args.read.now
    c.constant_of-constant.result c.requires c.constant_of-constant.ensures

pub returns-clause-rows : goal.returns-clause-rows
returns-clause-rows c =
    let w = c.args.w.now in
    let write = c.args.write.now in
    let read = c.args.read.now in
    let node : c.variable_with-node.result ≡ node_of (pos 1) write.coefs = c.variable_with-node.ensures.value
    ∙ ap (node_of (pos 1)) c.as_slice.ensures.value in
    let constant : c.constant_of-constant.result ≡ constant_form w.vars write.constant =
    c.constant_of-constant.ensures in
    let first : c.difference.result
    ≡ form_sum (constant_form w.vars write.constant) (form_product (negsuc 0) read)
    = c.difference.ensures ∙ ap (λ f. form_sum f (form_product (negsuc 0) read)) constant in
    let second : c.difference-2.result
    ≡ form_sum read (form_product (negsuc 0) (constant_form w.vars write.constant))
    = c.difference-2.ensures ∙ ap (λ f. form_sum read (form_product (negsuc 0) f)) constant in
    on_ok_weaker c.push-2.result
    (λ last. adds_cell w write read
    (record { from = c.variable_with-node.result; to = c.depth.result; weight = c.difference.result })
    (record { from = c.depth-2.result; to = c.variable_with-node.result; weight = c.difference-2.result })
    c.args.edges.now c.push.new.self c.push-2.new.self c.requires
    (ap (λ n. record { from = n; to = c.depth.result; weight = c.difference.result }) node
    ∙ ap (λ n. record { from = node_of (pos 1) write.coefs; to = n; weight = c.difference.result }) c.depth.ensures
    ∙ ap (λ f. record { from = node_of (pos 1) write.coefs; to = depth_of_write w; weight = f }) first)
    (ap (λ n. record { from = n; to = c.variable_with-node.result; weight = c.difference-2.result }) c.depth-2.ensures
    ∙ ap (λ n. record { from = depth_of_write w; to = n; weight = c.difference-2.result }) node
    ∙ ap (λ f. record { from = depth_of_write w; to = node_of (pos 1) write.coefs; weight = f }) second)
    c.in_ok-push.ensures.ok last) c.push-2.ensures.ok

pub returns-clause-kept : goal.returns-clause-kept
returns-clause-kept c =
    let old = c.args.edges.now in
    let middle = c.push.new.self in
    let new = c.push-2.new.self in
    let first : Edge = record { from = c.variable_with-node.result; to = c.depth.result; weight = c.difference.result }
    in
    let second : Edge =
    record { from = c.depth-2.result; to = c.variable_with-node.result; weight = c.difference-2.result } in
    on_ok_weaker c.push-2.result (λ last. kept_twice old middle new (kept_push old middle first c.in_ok-push.ensures.ok)
    (kept_push middle new second last)) c.push-2.ensures.ok
