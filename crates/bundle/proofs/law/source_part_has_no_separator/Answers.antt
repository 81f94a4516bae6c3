use Rattle.bundle.proofs.CertifiedParts.{source_whole}
use Rattle.bundle.proofs.law.source_part_has_no_separator.Goals as goal

pub returns : goal.returns
returns c = source_whole
