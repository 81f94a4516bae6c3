-- A certificate with other origins fits as well.
--
-- Of what the checker asks only the names speak of origins, and both ways a usable origin means the last writer. So
-- what fits with some origins fits with any that are one for each read and usable: shape, schedule and classes stay as
-- they are, and the references name the last writers under either.
use Rattle.std.proofs.Common.{◌≡◌, length}
use Rattle.net_checker.specs.Fits.{Fits}
use Rattle.net_checker.specs.Shapes.{read_total}
use Rattle.net_checker.specs.Sources.{AreUsable}
use Rattle.net_checker.proofs.FitsNames.{last_are_wanted, wanted_are_last}
use Rattle.net_core.specs.declared.network.Network.{Network}
use Rattle.sanlp.specs.declared.nest.Nest.{Nest}
use Rattle.source_tree.specs.declared.cert.Cert.{Cert}

pub fits_again : (n : Nest) (network : Network) (old cert : Cert) → Fits n network old → cert.schedule ≡ old.schedule
    → length cert.sources ≡ read_total n → AreUsable n cert → Fits n network cert
fits_again n network old cert fits same count usable = record {
  shape = fits.shape;
  sources = count;
  trees = usable;
  ends = rw same fits.ends;
  names = last_are_wanted n network cert fits.shape usable count
      (wanted_are_last n network old fits.shape fits.trees fits.names);
  classes = fits.classes;
}
