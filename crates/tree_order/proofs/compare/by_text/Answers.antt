use Rattle.std.proofs.Common.{ap, ◌∙◌, sym, subst, arith}
use Rattle.std.specs.Prelude.{None}
use Rattle.std.proofs.lemmas.Result.{IfOk-weaker}
use Rattle.tree_order.specs.Comparisons.{HasNextLoop, IsComparison}
use Rattle.tree_order.specs.Orders.{turned_equal}
use Rattle.tree_order.specs.declared.compare.Comparison.TheVariants.{Later}
use Rattle.tree_order.proofs.NextLoop.{all_equal, earlier_by_text, later_by_text}
use Rattle.tree_order.proofs.compare.by_text.Goals as goal

pub returns-then-pair-clause-order : goal.returns-then-pair-clause-order
returns-then-pair-clause-order c = λ context w u p alike long.
    subst (IsComparison context w u c.args.pair.now) (sym c.earlier.ensures)
    (earlier_by_text context w u c.args.pair.now p c.args.equal alike
    (all_equal context w u c.args.pair.now p c.args.equal alike (omega arith) (omega arith)) c.if-pair.true)

pub returns-clause-order : goal.returns-clause-order
returns-clause-order c =
    let equal = c.args.equal in
    IfOk-weaker c.later.result _ _
    (λ comparison is context w u p alike long.
    subst (IsComparison context w u c.args.pair.now)
    (sym (is ∙ ap (λ e. Later (record { equal = turned_equal e; strict = None })) c.as_slice.ensures))
    (later_by_text context w u c.args.pair.now p equal alike
    (all_equal context w u c.args.pair.now p equal alike (omega arith) (omega arith))
    (omega (arith, c.if-pair.false))))
    c.later.ensures

pub returns-then-pair-clause-next : goal.returns-then-pair-clause-next
returns-then-pair-clause-next c = λ had. subst (HasNextLoop c.args.pair.now had) (sym c.earlier.ensures) tt

pub returns-clause-next : goal.returns-clause-next
returns-clause-next c = IfOk-weaker c.later.result _ _
    (λ comparison is had. subst (HasNextLoop c.args.pair.now had) (sym is) tt) c.later.ensures
