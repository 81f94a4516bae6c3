use Rattle.std.proofs.Common.{◌≡◌, ◌<◌, negsuc, ◌+ℤ◌, [], ◌∷◌, ◌++◌, length, ap, ◌∙◌, arith}
use Rattle.std.proofs.lemmas.List.{length_push}
use Rattle.std.proofs.lemmas.Result.{on_ok_weaker}
use Rattle.affine_core.specs.declared.form.Form.{Form}
use Rattle.affine_core.specs.Affine.{form_product, variable_form}
use Rattle.tree_graphs.specs.Asked.{depth_of_read, depth_of_write}
use Rattle.tree_graphs.proofs.EdgeRows.{kept_push, kept_twice}
use Rattle.tree_graphs.proofs.ProblemBounds.{writes_fit}
use Rattle.tree_graphs.proofs.OrderEdges.{adds_equal, adds_strict, variable_small}
use Rattle.tree_graphs.proofs.edges.+push_order.Goals as goal

abbrev one_below : Form → Form
one_below g = record g { constant = g.constant +ℤ negsuc 0 }

pub returns-then-from-w-clause-count : goal.returns-then-from-w-clause-count
returns-then-from-w-clause-count t c =
    let f = writes_fit c.args.w.now in
    omega (arith, f.level, f.common_loops, f.few_loops, c.requires)

pub variable-value-requires-clause-short : goal.variable-value-requires-clause-short
variable-value-requires-clause-short t c =
    omega (arith, (writes_fit c.args.w.now).few_vars)

pub variable-value-requires-clause-within : goal.variable-value-requires-clause-within
variable-value-requires-clause-within t c =
    let f = writes_fit c.args.w.now in
    omega (arith, f.common_within, c.args.w.now.loops, c.if-from-w.false)

pub raised-requires-clause-small : goal.raised-requires-clause-small
raised-requires-clause-small t c =
    variable_small c.args.w.now.vars c.args.from c.variable-value.result c.variable-value.ensures.form

pub negative-requires : goal.negative-requires
negative-requires t c =
    variable_small c.args.w.now.vars c.args.from c.variable-value.result c.variable-value.ensures.form

pub returns-then-from-w-2-clause-rows : goal.returns-then-from-w-2-clause-rows
returns-then-from-w-2-clause-rows t c =
    let w = c.args.w.now in
    let f = writes_fit w in
    let common : c.args.from < w.common = omega (arith, c.if-from-w.false) in
    let below : c.args.from < w.vars = omega (arith, common, f.common_within, c.args.w.now.loops) in
    let own : c.args.from < depth_of_read w = omega (arith, common, f.common_vars, c.args.w.now.loops) in
    let inside : c.args.from < depth_of_write w = omega (arith, common, f.common_loops, c.args.w.now.loops) in
    let last : w.level ≡ c.args.from = omega (arith, c.if-from-w-2.true) in
    let value : c.variable-value.result ≡ variable_form w.vars c.args.from =
    c.variable-value.ensures.form in
    on_ok_weaker c.push.result
    (λ pushed. adds_strict w c.args.from c.args.edges.now common below own inside c.push.new.self
    (pushed
    ∙ ap (λ n. c.args.edges.now ++ record { from = n; to = c.args.from; weight = c.raised.result } ∷ []) c.depth.ensures
    ∙ ap (λ g. c.args.edges.now ++ record { from = depth_of_write w; to = c.args.from; weight = g } ∷ [])
    (c.raised.ensures ∙ ap one_below value))
    last) c.push.ensures.ok

pub returns-then-from-w-2-clause-count : goal.returns-then-from-w-2-clause-count
returns-then-from-w-2-clause-count t c =
    let f = writes_fit c.args.w.now in
    on_ok_weaker c.push.result
    (λ pushed. omega (
      arith,
      ap length pushed,
      length_push c.args.edges.now
          (record { from = c.depth.result; to = c.args.from; weight = c.raised.result }),
      f.common_loops,
      f.few_loops,
      c.args.w.now.loops,
      c.if-from-w.false,
    ))
    c.push.ensures.ok

pub returns-clause-rows : goal.returns-clause-rows
returns-clause-rows t c =
    let w = c.args.w.now in
    let f = writes_fit w in
    let common : c.args.from < w.common = omega (arith, c.if-from-w.false) in
    let below : c.args.from < w.vars = omega (arith, common, f.common_within, c.args.w.now.loops) in
    let own : c.args.from < depth_of_read w = omega (arith, common, f.common_vars, c.args.w.now.loops) in
    let inside : c.args.from < depth_of_write w = omega (arith, common, f.common_loops, c.args.w.now.loops) in
    let above : c.args.from < w.level = omega (arith, c.requires, c.if-from-w-2.false) in
    let value : c.variable-value.result ≡ variable_form w.vars c.args.from =
    c.variable-value.ensures.form in
    on_ok_weaker c.push_order.result
    (λ rest. adds_equal w c.args.from c.args.edges.now common below own inside c.push-2.new.self c.push-3.new.self
    c.push_order.new.edges
    (c.in_ok-push.ensures.ok
    ∙ ap (λ n. c.args.edges.now ++ record { from = c.args.from; to = n; weight = c.negative.result } ∷ [])
    c.depth-2.ensures
    ∙ ap (λ g. c.args.edges.now ++ record { from = c.args.from; to = depth_of_write w; weight = g } ∷ [])
    (c.negative.ensures ∙ ap (form_product (negsuc 0)) value))
    (c.in_ok-push-2.ensures.ok
    ∙ ap (λ n. c.push-2.new.self ++ record { from = n; to = c.args.from; weight = c.variable-value.result } ∷ [])
    c.depth-3.ensures
    ∙ ap (λ g. c.push-2.new.self ++ record { from = depth_of_write w; to = c.args.from; weight = g } ∷ []) value)
    above rest) c.push_order.ensures.rows

pub returns-then-from-w-2-clause-kept : goal.returns-then-from-w-2-clause-kept
returns-then-from-w-2-clause-kept t c =
    on_ok_weaker c.push.result
    (λ pushed. kept_push c.args.edges.now c.push.new.self
    (record { from = c.depth.result; to = c.args.from; weight = c.raised.result }) pushed) c.push.ensures.ok

pub returns-clause-kept : goal.returns-clause-kept
returns-clause-kept t c =
    let old = c.args.edges.now in
    let one = c.push-2.new.self in
    let two = c.push-3.new.self in
    on_ok_weaker c.push_order.result
    (λ rest. kept_twice old one c.push_order.new.edges (kept_push old one
    (record { from = c.args.from; to = c.depth-2.result; weight = c.negative.result }) c.in_ok-push.ensures.ok)
    (kept_twice one two c.push_order.new.edges (kept_push one two
    (record { from = c.depth-3.result; to = c.args.from; weight = c.variable-value.result })
    c.in_ok-push-2.ensures.ok) rest))
    c.push_order.ensures.kept
