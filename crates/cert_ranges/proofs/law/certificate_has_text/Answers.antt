use Rattle.cert_ranges.proofs.NetworkRanges.{planned_has_text}
use Rattle.cert_ranges.proofs.law.certificate_has_text.Goals as goal

pub returns : goal.returns
returns c = planned_has_text
