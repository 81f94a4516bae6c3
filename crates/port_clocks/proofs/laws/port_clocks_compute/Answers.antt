use Rattle.net_core.specs.Machine.{net_of}
use Rattle.net_core.specs.Rules.{values}
use Rattle.port_clocks.specs.PortClocks.{clocked_port_run, port_clocks}
use Rattle.port_clocks.proofs.laws.port_clocks_compute.Goals as goal

pub returns : goal.returns
returns c =
    record {
      ends = λ nest network d sound.
          c.port_clocks_end.ensures (net_of network) (values nest d) sound.fits.shaped.wired (sound.ends d);
      arrays = λ nest network d sound.
          let n = net_of network in
          let rule = values nest d in
          let ends = c.port_clocks_end.ensures n rule sound.fits.shaped.wired (sound.ends d) in
          c.port_runs_compute.ensures.arrays nest network d (clocked_port_run n rule (port_clocks n)) sound
          (ends.run (port_clocks n)) ends.ends;
    }
