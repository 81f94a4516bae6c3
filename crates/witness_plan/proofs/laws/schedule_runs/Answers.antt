use Rattle.process_derive.proofs.ScriptNames.{is_wired}
use Rattle.witness_plan.proofs.PolicyRuns.{ends_all, queue_lengths}
use Rattle.witness_plan.proofs.laws.schedule_runs.Goals as goal

pub returns : goal.returns
returns c =
    record { wired = is_wired c.args.nest.now; run = ends_all c.args.nest.now; lengths = queue_lengths c.args.nest.now }
