use Rattle.net_core.specs.Machine.{net_of}
use Rattle.net_core.specs.Rules.{values}
use Rattle.network_laws.proofs.StalledDesigns.{done_where_ended, stalled_arrays, stalled_design}
use Rattle.network_laws.proofs.designs.stalled_designs_compute.Goals as goal

pub returns : goal.returns
returns g c = record {
  design = λ n controls rule may k wired give. stalled_design n controls rule wired give may k;
  ends = λ n controls rule may wired give ends fair.
      let ended = c.stalls_do_no_harm.ensures.ends n rule may wired ends fair in
      (ended.0, done_where_ended n controls rule wired give may ended.0 ended.1.1);
  arrays = λ nest network controls d may k sound give done.
      stalled_arrays nest network sound controls give d may k
      (c.stalls_do_no_harm-2.ensures.runs (net_of network) (values nest d) may k sound.fits.shaped.wired) done;
}
