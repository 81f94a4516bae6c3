use Rattle.network_laws.specs.Stalls.{run_with_stalls}
use Rattle.network_laws.proofs.FasterRuns.{clocks_least, never_ahead, script_short}
use Rattle.network_laws.proofs.RunsWithStalls.{always, clocked_is_stalled, stalled_runs}
use Rattle.network_laws.proofs.clocks.clocked_run_is_fastest.Goals as goal

pub returns : goal.returns
returns g c =
    record {
      itself = clocked_is_stalled;
      ahead = λ n rule may k p wired. never_ahead n rule wired may k p;
      least = λ n rule may k wired ended.
          let ends =
          c.every_order.ensures.ends n rule rule (run_with_stalls n rule may k) wired
          (stalled_runs n rule wired may k, ended) in
          clocks_least n rule wired may (c.clocked_run_ends.ensures n rule wired ends) k ended;
      longest = λ n rule p wired ends.
          script_short n rule wired always (c.clocked_run_ends.ensures n rule wired ends) p;
    }
