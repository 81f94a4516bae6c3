use Rattle.std.proofs.Common.{sym, subst}
use Rattle.std.specs.Prelude.{IfOk}
use Rattle.tree_join.specs.Walking.{turns_left, GoesOn, IsUnderWay}
use Rattle.tree_join.specs.declared.path.Step.TheVariants.{On}
use Rattle.tree_join.proofs.path.go_on.Goals as goal

pub choose_on-requires : goal.choose_on-requires
choose_on-requires c = subst (λ next. IsUnderWay c.args.task.now c.args.walk.now (On next)) c.in-Choose.is c.requires

pub follow_on-requires : goal.follow_on-requires
follow_on-requires c = subst (λ next. IsUnderWay c.args.task.now c.args.walk.now (On next)) c.in-Follow.is c.requires

pub compare_on-requires : goal.compare_on-requires
compare_on-requires c = subst (λ next. IsUnderWay c.args.task.now c.args.walk.now (On next)) c.in-Compare.is c.requires

pub returns-in-Choose : goal.returns-in-Choose
returns-in-Choose c =
    subst (λ next. IfOk c.choose_on.result (GoesOn c.args.task.now (turns_left c.args.walk.now (On next))
    c.choose_on.new.walk)) (sym c.in-Choose.is) c.choose_on.ensures

pub returns-in-Follow : goal.returns-in-Follow
returns-in-Follow c =
    subst (λ next. IfOk c.follow_on.result (GoesOn c.args.task.now (turns_left c.args.walk.now (On next))
    c.follow_on.new.walk)) (sym c.in-Follow.is) c.follow_on.ensures

pub returns-in-Compare : goal.returns-in-Compare
returns-in-Compare c =
    subst (λ next. IfOk c.compare_on.result (GoesOn c.args.task.now (turns_left c.args.walk.now (On next))
    c.compare_on.new.walk)) (sym c.in-Compare.is) c.compare_on.ensures
