use Rattle.compaan_top.proofs.Acceptance.{checks_vouched}
use Rattle.compaan_top.proofs.law.what_is_accepted_fits.Goals as goal

pub returns : goal.returns
returns c = λ params bundle answer checks zero. checks_vouched c.accepts_what_fits.ensures
    c.reads_what_is_written.ensures.forth params bundle checks zero
