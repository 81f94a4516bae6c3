use Rattle.std.proofs.Common.{refl}
use Rattle.std.proofs.lemmas.Result.{IfOk-weaker}
use Rattle.tree_graphs.proofs.PathSums.{first_from}
use Rattle.tree_graphs.proofs.closure.first_bound.Goals as goal

pub returns : goal.returns
returns c =
    let edges = c.args.edges.now in
    let e = c.requires.edges in
    IfOk-weaker c.bettered.result _ _
    (λ better h. first_from edges c.args.from c.args.to c.start_bound.result better
    (c.start_bound.ensures.sound edges) c.start_bound.ensures.itself
    (h edges e.0 e.1 e.2 refl e.3 e.4))
    c.bettered.ensures
