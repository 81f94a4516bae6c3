use Rattle.std.proofs.Common.{◌≡◌, length, refl, sym, subst, arith}
use Rattle.std.specs.Prelude.{IfOk}
use Rattle.std.proofs.lemmas.Result.{IfOk-weaker}
use Rattle.tree_order.specs.Comparisons.{HasNextLoop, IsComparison}
use Rattle.tree_order.specs.declared.compare.Comparison.{Comparison}
use Rattle.tree_order.specs.declared.compare.Comparison.TheVariants.{Open}
use Rattle.tree_join.specs.Walking.{height, turns_left, GoesOn, IsUnderWay}
use Rattle.tree_join.specs.declared.path.Next.TheVariants.{Choose, Compare}
use Rattle.tree_join.specs.declared.path.Step.TheVariants.{On}
use Rattle.tree_join.specs.declared.path.Task.{Task}
use Rattle.tree_join.specs.declared.path.Walk.{Walk}
use Rattle.tree_order.specs.declared.compare.Pair.{Pair}
use Rattle.tree_order.specs.declared.seen.Position.{Position}
use Rattle.tree_join.proofs.Advancing.{after_on, before_on, compares_on, told_on}
use Rattle.tree_join.proofs.Moves.{no_more_left}
use Rattle.tree_join.proofs.PathSteps.{path_context}
use Rattle.tree_join.proofs.Walks.{turns_most}
use Rattle.tree_graphs.specs.Asked.{write_of}
use Rattle.tree_join.proofs.path.compare_on.Goals as goal

-- the walk, at what is told of the comparison
at_told : (task : Task) (walk : Walk) (at : Position) (pair : Pair) (comparison told : Comparison) → comparison ≡ told
    → IsUnderWay task walk (On (Compare at pair comparison)) → IsUnderWay task walk (On (Compare at pair told))
at_told task walk at pair comparison told e = subst (λ c. IsUnderWay task walk (On (Compare at pair c))) e

pub returns-in_ok-push-in-Earlier : goal.returns-in_ok-push-in-Earlier
returns-in_ok-push-in-Earlier c =
    let task = c.args.task.now in
    let walk = c.args.walk.now in
    let e = c.in-Earlier.is in
    let new : Walk = record walk { seen = c.push.new.self } in
    subst (λ comparison. GoesOn task (turns_left walk (On (Compare c.args.at c.args.pair comparison))) new (On Choose))
    (sym e)
    (before_on task walk new refl refl refl c.args.at c.args.pair c.in-Earlier.order
    (at_told task walk c.args.at c.args.pair c.args.comparison _ e c.requires) c.in_ok-push-in-Earlier.ensures.ok)

pub returns-in_ok-push-in-Later : goal.returns-in_ok-push-in-Later
returns-in_ok-push-in-Later c =
    let task = c.args.task.now in
    let walk = c.args.walk.now in
    let e = c.in-Later.is in
    let new : Walk = record walk { seen = c.push-in-Later.new.self } in
    subst (λ comparison. GoesOn task (turns_left walk (On (Compare c.args.at c.args.pair comparison))) new (On Choose))
    (sym e)
    (after_on task walk new refl refl refl c.args.at c.args.pair c.in-Later.order
    (at_told task walk c.args.at c.args.pair c.args.comparison _ e c.requires) c.in_ok-push-in-Later.ensures.ok)

pub compare_points-requires-clause-points : goal.compare_points-requires-clause-points
compare_points-requires-clause-points c =
    let h = c.requires.1.1.1 in
    (write_of h.0.candidate.now.writes, write_of c.args.at.candidate.now.writes, h.2.points)

pub invariant_of-here : goal.invariant_of-here
invariant_of-here c =
    let path = c.requires.1.0 in
    record { fits = path_context c.args.task.now.read.now c.args.walk.now.context _ path.read path.context_is }

pub compare_points-requires-clause-so_far : goal.compare_points-requires-clause-so_far
compare_points-requires-clause-so_far c =
    (at_told c.args.task.now c.args.walk.now c.args.at c.args.pair c.args.comparison _ c.in-Open.is c.requires).1.1.1.3

pub ask_next-requires-clause-way : goal.ask_next-requires-clause-way
ask_next-requires-clause-way c =
    let task = c.args.task.now in
    let walk = c.args.walk.now in
    let pair = c.args.pair in
    let at = c.args.at in
    let way = at_told task walk at pair c.args.comparison _ c.in-Open.is c.requires in
    let next = subst (HasNextLoop pair _) c.in-Open-compared.is c.in_ok-compared-in-Open.ensures.next in (
      way.0,
      compares_on task walk walk refl refl refl at pair c.in-Open.so_far (Open c.in-Open-compared.so_far) way
          (λ b is points. subst (IsComparison walk.context (write_of b.candidate.now.writes) (write_of at.candidate.now.writes)
          pair) c.in-Open-compared.is (c.in_ok-compared-in-Open.ensures.order (write_of b.candidate.now.writes)
          (write_of at.candidate.now.writes) points.points))
          (no_more_left pair c.in-Open.so_far c.in-Open-compared.so_far next.1) refl,
    )

pub ask_next-requires-clause-next : goal.ask_next-requires-clause-next
ask_next-requires-clause-next c =
    (subst (HasNextLoop c.args.pair _) c.in-Open-compared.is c.in_ok-compared-in-Open.ensures.next).0

pub ask_next-requires-clause-half : goal.ask_next-requires-clause-half
ask_next-requires-clause-half c =
    (subst (HasNextLoop c.args.pair _) c.in-Open-compared.is c.in_ok-compared-in-Open.ensures.next).2

pub returns-in-Open-compared : goal.returns-in-Open-compared
returns-in-Open-compared c =
    let task = c.args.task.now in
    let walk = c.args.walk.now in
    let pair = c.args.pair in
    let at = c.args.at in
    let n = length walk.left in
    let next = subst (HasNextLoop pair _) c.in-Open-compared.is c.in_ok-compared-in-Open.ensures.next in
    let le = no_more_left pair c.in-Open.so_far c.in-Open-compared.so_far next.1 in
    let lower = turns_most (height n (Compare at pair (Open c.in-Open-compared.so_far)))
    (height n (Compare at pair (Open c.in-Open.so_far))) (omega (arith, le)) in
    subst (λ comparison. IfOk c.ask_next.result (GoesOn task (turns_left walk (On (Compare at pair comparison)))
    c.ask_next.new.walk)) (sym c.in-Open.is)
    (IfOk-weaker c.ask_next.result _ _ (λ step told. (told.0, omega (arith, told.1, lower))) c.ask_next.ensures)

pub returns-in_default : goal.returns-in_default
returns-in_default c =
    let task = c.args.task.now in
    let walk = c.args.walk.now in
    let pair = c.args.pair in
    let at = c.args.at in
    let way = at_told task walk at pair c.args.comparison _ c.in-Open.is c.requires in
    subst (λ comparison. GoesOn task (turns_left walk (On (Compare at pair comparison))) walk
    (On (Compare at pair c.in_ok-compared-in-Open.compared))) (sym c.in-Open.is)
    (told_on task walk walk refl refl refl at pair c.in-Open.so_far c.in_ok-compared-in-Open.compared way
    (λ b is points. c.in_ok-compared-in-Open.ensures.order (write_of b.candidate.now.writes)
    (write_of at.candidate.now.writes) points.points) c.in_default.not-Open refl)
