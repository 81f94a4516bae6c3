use Rattle.std.proofs.Common.{◌∙◌, refl, sym, ap, subst}
use Rattle.std.specs.Prelude.{IfSome, None}
use Rattle.tree_order.specs.Seen.{best_in}
use Rattle.tree_join.specs.Joining.{IsBest}
use Rattle.tree_join.proofs.Advancing.{compared_on, first_on}
use Rattle.tree_join.proofs.path.arrive.Goals as goal

pub pair_of-requires : goal.pair_of-requires
pair_of-requires c =
    let r = c.args.task.now.read.now in
    let context = c.args.walk.now.context in
    let h = c.requires.way.1 in (
      r,
      context,
      subst (λ seen. IfSome (best_in seen) (IsBest r context)) (sym c.as_slice.ensures) h.0.best_is,
      (h.1, c.requires.point),
    )

pub returns-in-Some : goal.returns-in-Some
returns-in-Some c =
    let task = c.args.task.now in
    let walk = c.args.walk.now in
    let r = task.read.now in
    let at = c.args.at in
    let way = c.requires.way in
    let told = c.in-Some.ensures in
    let best_is = sym (ap best_in c.as_slice.ensures) ∙ told.1 in
    let best = subst (λ o. IfSome o (IsBest r walk.context)) best_is way.1.0.best_is in
    compared_on task walk walk refl refl refl at at way refl way.1.1 told.0 c.in-Some.pair c.unopened.result best_is
    (told.2 r walk.context best (way.1.1, c.requires.point)) c.unopened.ensures.equal c.unopened.ensures.upper
    c.unopened.ensures.lower refl

pub returns-in_ok-push-in-None : goal.returns-in_ok-push-in-None
returns-in_ok-push-in-None c =
    let way = c.requires.way in
    let point = c.requires.point in
    first_on c.args.task.now c.args.walk.now (record c.args.walk.now { seen = c.push.new.self }) refl refl refl c.args.at c.args.at way refl way.1.1 point.0 point.1
    (sym (ap best_in c.as_slice.ensures) ∙ c.in-None.ensures) c.in_ok-push-in-None.ensures.ok
