use Rattle.std.proofs.Common.{◌≡◌, ◌+◌, ap, ◌∙◌, length}
use Rattle.std.proofs.lemmas.Result.{on_ok_weaker}
use Rattle.source_check.proofs.Points.{alone_tested, between_tested}
use Rattle.source_tree.specs.Places.{variables}
use Rattle.source_check.proofs.check.test_write.Goals as goal

pub returns-in-Nothing : goal.returns-in-Nothing
returns-in-Nothing c =
    let point : c.as_slice-point.result.now
    ≡ variables c.args.leaf.now.vars (length c.args.writer.now.statement.now.loops)
    = c.as_slice-point.ensures ∙ c.in_ok-point.ensures ∙ ap (variables c.args.leaf.now.vars) c.len-depth.ensures in
    on_ok_weaker c.test_levels.result
    (λ is ctx e. alone_tested c.args.leaf.now c.args.read.now c.requires.read.place c.args.writer.now _ _
    c.in_ok-system.system c.order_of-before.result c.args.tested.now _
    point (ap (λ k. c.args.leaf.now.vars + k) c.len-depth.ensures) c.in_ok-system.ensures.value
    (record {
      common = c.order_of-before.ensures.common;
      less_is = c.order_of-before.ensures.less;
      first =
          c.order_of-before.ensures.first;
      second = c.order_of-before.ensures.second;
    })
    c.args.after.now ctx c.in-Nothing.is e is) c.test_levels.ensures

pub returns : goal.returns
returns c =
    let point : c.as_slice-point.result.now
    ≡ variables c.args.leaf.now.vars (length c.args.writer.now.statement.now.loops)
    = c.as_slice-point.ensures ∙ c.in_ok-point.ensures ∙ ap (variables c.args.leaf.now.vars) c.len-depth.ensures in
    on_ok_weaker c.test_both.result
    (λ is ctx e. between_tested c.args.leaf.now c.args.read.now c.requires.read.place c.args.writer.now _ _
    c.in_ok-system.system c.order_of-before.result c.args.tested.now _
    point (ap (λ k. c.args.leaf.now.vars + k) c.len-depth.ensures) c.in_ok-system.ensures.value
    (record {
      common = c.order_of-before.ensures.common;
      less_is = c.order_of-before.ensures.less;
      first =
          c.order_of-before.ensures.first;
      second = c.order_of-before.ensures.second;
    })
    c.in-Point.named c.in-Point.map c.order_of-further.result c.args.after.now ctx c.in-Point.is e
    (record {
      common = c.order_of-further.ensures.common;
      less_is = c.order_of-further.ensures.less;
      first =
          c.order_of-further.ensures.first;
      second = c.order_of-further.ensures.second;
    })
    is) c.test_both.ensures
