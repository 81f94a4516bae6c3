use Rattle.net_core.proofs.Soundness.{is_sound}
use Rattle.net_checker.proofs.FitsCriteria.{fits_last}
use Rattle.net_checker.proofs.laws.is_sound.Goals as goal

pub returns : goal.returns
returns c n network cert fits = is_sound n network fits.shape (fits_last n network cert fits) cert.schedule fits.ends
