use Rattle.std.proofs.Common.{◌^◌, sym, ap, ◌∙◌, subst, rules, arith}
use Rattle.std.proofs.lemmas.Result.{IfOk-weaker}
use Rattle.tree_graphs.specs.Heights.{height_of}
use Rattle.tree_order.specs.Positions.{IsNode}
use Rattle.tree_order.proofs.NextLoop.{negation_over}
use Rattle.tree_graphs.proofs.Heights.{height_sides}
use Rattle.tree_order.proofs.TreeNodes.{node_no, node_yes, test_over, test_within}
use Rattle.tree_graphs.specs.Facts.{form_parts, IsFact, IsSignOf}
use Rattle.source_tree.specs.declared.tree.Tree.TheViews.{the_lemmas}
use Rattle.source_tree.proofs.Views.{kept_test}
use Rattle.tree_order.proofs.walk.+follow.Goals as goal
use Rattle.tree_sums.proofs.Within.{IsWithin-weaker}

pub opposite-requires : goal.opposite-requires
opposite-requires t c =
    let n = c.requires in
    IsWithin-weaker (2 ^ 48) (2 ^ 60) c.get-form.result (omega arith)
    (test_within c.args.context.now.system.now n.0 c.args.node.now c.args.rows c.get-form.result c.in-Test.yes
    c.in-Test.no
    (kept_test c.in-Test.yes c.in-Test.no c.in-Test.is c.get-form.ensures) n.1)

pub sign_of-requires-clause-over : goal.sign_of-requires-clause-over
sign_of-requires-clause-over t c =
    let n = c.requires in
    test_over c.args.context.now.system.now n.0 c.args.node.now c.args.rows c.get-form.result c.in-Test.yes c.in-Test.no
    (kept_test c.in-Test.yes c.in-Test.no c.in-Test.is c.get-form.ensures) n.1

pub sign_of-requires-clause-opposite : goal.sign_of-requires-clause-opposite
sign_of-requires-clause-opposite t c =
    let n = c.requires in
    negation_over c.get-form.result c.opposite.result
    (IsWithin-weaker (2 ^ 48) (2 ^ 60) c.get-form.result (omega arith)
    (test_within c.args.context.now.system.now n.0 c.args.node.now c.args.rows c.get-form.result c.in-Test.yes
    c.in-Test.no
    (kept_test c.in-Test.yes c.in-Test.no c.in-Test.is c.get-form.ensures) n.1)) c.opposite.ensures
    ∙ test_over c.args.context.now.system.now n.0 c.args.node.now c.args.rows c.get-form.result c.in-Test.yes
    c.in-Test.no
    (kept_test c.in-Test.yes c.in-Test.no c.in-Test.is c.get-form.ensures) n.1

pub follow-requires : goal.follow-requires
follow-requires t c =
    let n = c.requires in
    let context = c.args.context.now.system.now in
    let fact : IsFact context 65536 (form_parts c.get-form.result) c.in-AtLeastZero.terms =
    subst (IsSignOf context c.get-form.result c.opposite.result) c.in-AtLeastZero.is c.in_ok-terms.ensures in (
      search (rules, the_lemmas),
      (
        n.0,
        subst (λ node. IsNode context n.0 node c.push.new.self) (sym c.get.ensures)
            (subst (IsNode context n.0 c.in-Test.yes) (sym c.in_ok-push-in-AtLeastZero.ensures.ok)
            (node_yes context n.0 c.args.node.now c.args.rows c.get-form.result c.in-Test.yes c.in-Test.no
            (kept_test c.in-Test.yes c.in-Test.no c.in-Test.is c.get-form.ensures) n.1 c.in-AtLeastZero.terms fact)),
      ),
    )

pub follow-requires-in-BelowZero : goal.follow-requires-in-BelowZero
follow-requires-in-BelowZero t c =
    let n = c.requires in
    let context = c.args.context.now.system.now in
    let fact : IsFact context 65536 (form_parts c.opposite.result) c.in-BelowZero.terms =
    subst (IsSignOf context c.get-form.result c.opposite.result) c.in-BelowZero.is c.in_ok-terms.ensures in (
      search (rules, the_lemmas),
      (
        n.0,
        subst (λ node. IsNode context n.0 node c.push-in-BelowZero.new.self) (sym c.get-in-BelowZero.ensures)
            (subst (IsNode context n.0 c.in-Test.no) (sym c.in_ok-push-in-BelowZero.ensures.ok)
            (node_no context n.0 c.args.node.now c.args.rows c.get-form.result c.in-Test.yes c.in-Test.no
            (kept_test c.in-Test.yes c.in-Test.no c.in-Test.is c.get-form.ensures)
            n.1 c.opposite.result c.in-BelowZero.terms
            c.opposite.ensures fact)),
      ),
    )

pub returns-in-AtLeastZero-clause-node : goal.returns-in-AtLeastZero-clause-node
returns-in-AtLeastZero-clause-node t c =
    let context = c.args.context.now.system.now in
    let fact : IsFact context 65536 (form_parts c.get-form.result) c.in-AtLeastZero.terms =
    subst (IsSignOf context c.get-form.result c.opposite.result) c.in-AtLeastZero.is c.in_ok-terms.ensures in
    IfOk-weaker c.follow.result _ _
    (λ to rest d h. rest d
    (subst (λ node. IsNode context d node c.push.new.self) (sym c.get.ensures)
    (subst (IsNode context d c.in-Test.yes) (sym c.in_ok-push-in-AtLeastZero.ensures.ok)
    (node_yes context d c.args.node.now c.args.rows c.get-form.result c.in-Test.yes c.in-Test.no
    (kept_test c.in-Test.yes c.in-Test.no c.in-Test.is c.get-form.ensures) h
    c.in-AtLeastZero.terms fact))))
    c.follow.ensures.node

pub returns-in-BelowZero-clause-node : goal.returns-in-BelowZero-clause-node
returns-in-BelowZero-clause-node t c =
    let context = c.args.context.now.system.now in
    let fact : IsFact context 65536 (form_parts c.opposite.result) c.in-BelowZero.terms =
    subst (IsSignOf context c.get-form.result c.opposite.result) c.in-BelowZero.is c.in_ok-terms.ensures in
    IfOk-weaker c.follow-in-BelowZero.result _ _
    (λ to rest d h. rest d
    (subst (λ node. IsNode context d node c.push-in-BelowZero.new.self) (sym c.get-in-BelowZero.ensures)
    (subst (IsNode context d c.in-Test.no) (sym c.in_ok-push-in-BelowZero.ensures.ok)
    (node_no context d c.args.node.now c.args.rows c.get-form.result c.in-Test.yes c.in-Test.no
    (kept_test c.in-Test.yes c.in-Test.no c.in-Test.is c.get-form.ensures) h
    c.opposite.result c.in-BelowZero.terms c.opposite.ensures fact))))
    c.follow-in-BelowZero.ensures.node

pub returns-in-AtLeastZero-clause-lower : goal.returns-in-AtLeastZero-clause-lower
returns-in-AtLeastZero-clause-lower t c =
    let sides = height_sides c.args.node.now c.get-form.result c.in-Test.yes c.in-Test.no
    (kept_test c.in-Test.yes c.in-Test.no c.in-Test.is c.get-form.ensures) in
    let here = ap height_of c.get.ensures in
    IfOk-weaker c.follow.result _ _ (λ to le. omega (arith, le, here, sides.0)) c.follow.ensures.lower

pub returns-in-BelowZero-clause-lower : goal.returns-in-BelowZero-clause-lower
returns-in-BelowZero-clause-lower t c =
    let sides = height_sides c.args.node.now c.get-form.result c.in-Test.yes c.in-Test.no
    (kept_test c.in-Test.yes c.in-Test.no c.in-Test.is c.get-form.ensures) in
    let here = ap height_of c.get-in-BelowZero.ensures in
    IfOk-weaker c.follow-in-BelowZero.result _ _ (λ to le. omega (arith, le, here, sides.1))
    c.follow-in-BelowZero.ensures.lower
