use Rattle.std.proofs.Common.{◌≡◌, drop}
use Rattle.net_core.specs.Held.{held_of, run_of, IsFor}
use Rattle.net_core.specs.Machine.{net_of, after, IsRun}
use Rattle.witness_plan.proofs.running.run_by.Given as goal

abbrev pub invariant-loop-process : goal.invariant-loop-process
invariant-loop-process g l =
    record {
      state : IsFor (net_of l.network) (held_of l.state);
      run : IsRun (net_of l.network) (g.F.Firing.meaning l.rule) (run_of l.state) (drop l.process-index l.schedule);
      ends : after (net_of l.network) (g.F.Firing.meaning l.rule) (run_of l.state) (drop l.process-index l.schedule)
          ≡ after (net_of l.network) (g.F.Firing.meaning l.rule) (run_of l.fn.state) l.schedule;
    }
