use Rattle.std.proofs.Common.{◌≡◌, subst}
use Rattle.std.specs.Prelude.{IfOk}
use Rattle.net_core.specs.Machine.{net_of}
use Rattle.witness_plan.specs.declared.schedules.Policy.TheVariants.{Seq, Down}
use Rattle.witness_plan.specs.Schedules.{downward_schedule}
use Rattle.witness_plan.specs.Sequential.{capacities}
use Rattle.witness_plan.proofs.PolicyRuns.{ends_planned}
use Rattle.witness_plan.proofs.schedules.plan_for.Goals as goal

pub returns-in-Seq-clause-run : goal.returns-in-Seq-clause-run
returns-in-Seq-clause-run c =
    ends_planned c.args.nest.now Seq c.args.network.now c.sequential.result c.requires.network
    c.sequential.ensures.schedule c.sequential.ensures.capacities

pub returns-in-Down-clause-run : goal.returns-in-Down-clause-run
returns-in-Down-clause-run c =
    ends_planned c.args.nest.now Down c.args.network.now c.downward.result c.requires.network
    (subst (λ x.
    IfOk c.downward.result
    (λ witness. witness.schedule
    ≡ downward_schedule (net_of x))) c.requires.network c.downward.ensures.schedule)
    (subst (λ x.
    IfOk c.downward.result
    (λ witness. witness.capacities
    ≡ capacities c.args.network.now
    (downward_schedule (net_of x)))) c.requires.network c.downward.ensures.capacities)
