use Rattle.lex_max.proofs.DecisionContexts.{next_same}
use Rattle.lex_max.proofs.decide.same_choice.Goals as goal
use Rattle.std.proofs.lemmas.Result.{IfOk-weaker}

pub returns : goal.returns
returns c =
    IfOk-weaker c.kept.result _ _
    (λ next is least more. next_same c.args.context.now.system.now least c.args.choice.now next c.args.form.now
    c.args.above.now
    c.in_ok-own.own c.len.result c.requires is c.len.ensures c.in_ok-own.ensures more) c.kept.ensures
