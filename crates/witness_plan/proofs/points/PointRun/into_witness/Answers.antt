use Rattle.std.proofs.Common.{◌∙◌, ap, map}
use Rattle.net_core.specs.Machine.{net_of}
use Rattle.witness_plan.specs.declared.queues.QueueTotals.{QueueTotals}
use Rattle.witness_plan.proofs.PointRunLemmas.{lengths_are}
use Rattle.witness_plan.proofs.points.PointRun.into_witness.Goals as goal

pub returns-clause-capacities : goal.returns-clause-capacities
returns-clause-capacities c =
    c.in_ok-capacities.ensures
    ∙ ap (map (λ (queue : QueueTotals). queue.greatest)) c.deref.ensures.value
    ∙ lengths_are (net_of c.args.network.now) c.args.self c.requires
