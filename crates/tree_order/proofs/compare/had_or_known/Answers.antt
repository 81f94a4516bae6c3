use Rattle.std.proofs.Common.{ap, subst, arith}
use Rattle.std.specs.Prelude.{◌≡◌}
use Rattle.std.proofs.lemmas.Result.{IfOk-weaker}
use Rattle.tree_order.specs.Comparisons.{count_had, IsHad}
use Rattle.tree_order.proofs.NextLoop.{had_from_known}
use Rattle.tree_order.proofs.compare.had_or_known.Goals as goal

pub returns-in-Some-clause-had : goal.returns-in-Some-clause-had
returns-in-Some-clause-had c = λ a b l gap had. subst (IsHad c.args.context.now.system.now l a b) c.in-Some.is had

pub returns-in-Some-clause-kept : goal.returns-in-Some-clause-kept
returns-in-Some-clause-kept c = omega (arith, ap count_had c.in-Some.is)

pub returns-in-None-clause-had : goal.returns-in-None-clause-had
returns-in-None-clause-had c =
    IfOk-weaker c.known.result _ _ (λ found known a b l gap had. had_from_known c.args.context.now.system.now a b l
    c.args.form.now
    found gap known) c.known.ensures.some

pub returns-in-None-clause-kept : goal.returns-in-None-clause-kept
returns-in-None-clause-kept c =
    let none : count_had c.args.had ≡ 0 = ap count_had c.in-None.is in
    IfOk-weaker c.known.result _ _ (λ found known. omega (arith, none)) c.known.ensures.some
