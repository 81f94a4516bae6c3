use Rattle.net_checker.proofs.FitsCriteria.{first_fits, fits_first}
use Rattle.net_checker.proofs.laws.accepts_what_fits.Goals as goal

pub returns : goal.returns
returns c n network cert = (first_fits n network cert, fits_first n network cert)
