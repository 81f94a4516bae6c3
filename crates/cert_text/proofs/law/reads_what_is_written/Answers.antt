use Rattle.cert_text.proofs.ReadBack.{reads_back, stands_for}
use Rattle.cert_text.proofs.law.reads_what_is_written.Goals as goal

pub returns : goal.returns
returns c = record { forth = stands_for; back = reads_back }
