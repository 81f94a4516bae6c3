use Rattle.net_core.specs.Machine.{net_of}
use Rattle.net_core.specs.Rules.{values}
use Rattle.port_runs.proofs.Arrays.{port_arrays}
use Rattle.port_runs.proofs.laws.port_runs_compute.Goals as goal

pub returns : goal.returns
returns c =
    record {
      ends = λ nest network d sound.
          c.port_runs_end.ensures (net_of network) (values nest d) sound.fits.shaped.wired (sound.ends d);
      arrays = λ nest network d run sound is all. port_arrays nest network d run sound is all;
    }
