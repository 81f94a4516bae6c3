use Rattle.std.proofs.Common.{ap, ◌∙◌}
use Rattle.fire_runs.specs.declared.runs.FireRun.{FireRun}
use Rattle.fire_runs.specs.Runs.{processes_in}
use Rattle.fire_runs.proofs.TraceRuns.{run_added}
use Rattle.fire_runs.proofs.runs.add_run.Goals as goal

pub returns : goal.returns
returns c =
    ap processes_in c.in_ok-push.ensures.items
    ∙ run_added c.args.runs.now.items
    (let run : FireRun = record { process = c.args.process; count = c.args.count } in run)
