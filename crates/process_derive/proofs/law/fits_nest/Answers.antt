use Rattle.process_derive.proofs.NetworkShape.{fits_nest}
use Rattle.process_derive.proofs.law.fits_nest.Goals as goal

pub returns : goal.returns
returns c = fits_nest c.args.nest.now
