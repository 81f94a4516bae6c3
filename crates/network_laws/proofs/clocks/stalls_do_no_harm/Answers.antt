use Rattle.net_core.specs.Machine.{net_of}
use Rattle.net_core.specs.Rules.{values}
use Rattle.network_laws.specs.Stalls.{run_with_stalls}
use Rattle.network_laws.proofs.FairRuns.{fair_ends}
use Rattle.network_laws.proofs.RunsWithStalls.{stalled_runs}
use Rattle.network_laws.proofs.clocks.stalls_do_no_harm.Goals as goal

pub returns : goal.returns
returns g c =
    record {
      runs = λ n rule may k wired. stalled_runs n rule wired may k;
      ends = λ n rule may wired ends fair. fair_ends n rule wired may ends fair;
      arrays = λ nest network d may sound fair.
          let n = net_of network in
          let rule = values nest d in
          let last = fair_ends n rule sound.fits.shaped.wired may (sound.ends d) fair in
          (last.0, last.1, sound.arrays d (run_with_stalls n rule may last.0) last.1);
    }
