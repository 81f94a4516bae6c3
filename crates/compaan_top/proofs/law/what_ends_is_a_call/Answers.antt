use Rattle.compaan_top.proofs.Calls.{what_ends}
use Rattle.compaan_top.proofs.law.what_ends_is_a_call.Goals as goal

pub returns : goal.returns
returns c =
    what_ends c.what_is_accepted_fits.ensures c.is_sound.ensures c.what_fits_is_accepted.ensures.exact
    c.status_is_determined.ensures.success
