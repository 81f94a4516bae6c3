use Rattle.cert_text.proofs.Stands.{written_stands}
use Rattle.cert_text.proofs.law.what_is_written_stands.Goals as goal

pub returns : goal.returns
returns c = written_stands
