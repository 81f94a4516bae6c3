use Rattle.net_core.specs.Machine.{net_of}
use Rattle.net_core.specs.Rules.{values}
use Rattle.clock_sim.specs.Clocks.{clocked_run, clocks}
use Rattle.clock_sim.proofs.laws.clocked_run_computes.Goals as goal

pub returns : goal.returns
returns c =
    record {
      ends = λ nest network d sound. c.clocked_run_ends.ensures (net_of network) (values nest d) sound.fits.shaped.wired
          (sound.ends d);
      arrays = λ nest network d sound.
          let n = net_of network in
          sound.arrays d (clocked_run n (values nest d) (clocks n))
          (c.clocked_run_ends.ensures n (values nest d) sound.fits.shaped.wired (sound.ends d)).ends;
    }
