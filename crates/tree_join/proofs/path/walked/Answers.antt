use Rattle.std.proofs.Common.{subst}
use Rattle.tree_join.specs.Walking.{IsMade, IsUnderWay}
use Rattle.tree_join.specs.declared.path.Walk.{Walk}
use Rattle.tree_join.proofs.Walks.{closing, frames_none}
use Rattle.tree_join.proofs.path.walked.Goals as goal

pub close-requires : goal.close-requires
close-requires c =
    let task = c.args.task.now in
    let walk = c.turns.walk in
    let way = subst (IsUnderWay task walk) c.in-Made.is c.turns.invariant in
    let rest : Walk = record walk { frames = c.pop.new.self } in
    closing task rest walk.frames c.in-Some.frame c.in-Made.tree way.0 c.in-Some.ensures way.1

pub returns-in-None : goal.returns-in-None
returns-in-None c =
    let task = c.args.task.now in
    let walk = c.turns.walk in
    let way = subst (IsUnderWay task walk) c.in-Made.is c.turns.invariant in
    let root = frames_none task.read.now task.candidates.now walk.context walk.seen walk.frames way.0
    c.in-None.ensures.0 in
    subst (λ context. IsMade task.read.now context c.in-Made.tree) root way.1
