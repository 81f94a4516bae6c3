use Rattle.net_core.specs.Machine.{net_of}
use Rattle.net_core.specs.Rules.{tags}
use Rattle.swept_net.specs.Certificates.{swept_cert}
use Rattle.witness_plan.specs.Sequential.{with_capacities}
use Rattle.cap_trim.specs.Rests.{least_run}
use Rattle.cap_trim.proofs.TrimFits.{fits_trimmed, planned_wired}
use Rattle.network_laws.proofs.schedules.trimmed_network_is_sound.Goals as goal

pub returns : goal.returns
returns c =
    let nest = c.args.nest.now in
    record {
      fits = λ network capacities planned is.
          fits_trimmed nest network capacities planned c.fits_nest.ensures c.names_last_writers.ensures
          c.has_classes_of_uses.ensures is (planned_wired nest network planned);
      sound = λ network capacities planned is.
          let trimmed = with_capacities network capacities in
          c.is_sound.ensures nest trimmed (swept_cert nest (least_run (net_of trimmed)))
          (fits_trimmed nest network capacities planned c.fits_nest.ensures c.names_last_writers.ensures
          c.has_classes_of_uses.ensures is (planned_wired nest network planned));
      minimal = λ network lesser at run planned there within below whole.
          c.least_capacities_are_minimal.ensures (net_of network) tags lesser at run
          (planned_wired nest network planned) there within below whole;
    }
