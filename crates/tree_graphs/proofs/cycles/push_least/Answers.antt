use Rattle.std.proofs.Common.{length, ap, arith}
use Rattle.std.proofs.lemmas.List.{length-set, length_push}
use Rattle.std.proofs.lemmas.Result.{on_ok_weaker}
use Rattle.tree_graphs.proofs.CycleEdges.{cycles_push, cycles_set}
use Rattle.tree_graphs.proofs.cycles.push_least.Goals as goal

pub returns-then-place-count-clause-each : goal.returns-then-place-count-clause-each
returns-then-place-count-clause-each c = on_ok_weaker c.push.result
    (λ is vars edges all one. cycles_push vars edges c.args.cycles.now c.push.new.self c.args.cycle is all one)
    c.push.ensures.ok

pub returns-then-place-count-clause-count : goal.returns-then-place-count-clause-count
returns-then-place-count-clause-count c = on_ok_weaker c.push.result
    (λ is. omega (arith, ap length is, length_push c.args.cycles.now c.args.cycle)) c.push.ensures.ok

pub returns-clause-each : goal.returns-clause-each
returns-clause-each c vars edges all one =
    cycles_set vars edges c.args.cycles.now c.set.new.self c.place_of-place.result c.args.cycle c.set.ensures all one

pub returns-clause-count : goal.returns-clause-count
returns-clause-count c =
    omega (arith, ap length c.set.ensures, length-set c.args.cycles.now c.place_of-place.result c.args.cycle)
