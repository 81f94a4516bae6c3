use Rattle.std.proofs.lemmas.Result.{IfOk-weaker}
use Rattle.tree_graphs.proofs.FloydWarshall.{through_less, through_more}
use Rattle.tree_graphs.proofs.closure.lesser_bound.Goals as goal

pub returns-then-is_shorter : goal.returns-then-is_shorter
returns-then-is_shorter c edges most bounds middle from to sound direct_is first_is second_is =
    through_less edges most bounds middle from to sound c.args.first.now c.args.second.now _ first_is second_is
    direct_is c.in_ok-path.path c.in_ok-path.ensures c.if-is_shorter.ensures

pub returns : goal.returns
returns c =
    IfOk-weaker c.copy.result _ _
    (λ kept is edges most bounds middle from to sound direct_is first_is second_is.
    through_more edges most bounds middle from to sound c.args.first.now c.args.second.now _ first_is second_is
    direct_is kept is c.if-is_shorter.ensures) c.copy.ensures
