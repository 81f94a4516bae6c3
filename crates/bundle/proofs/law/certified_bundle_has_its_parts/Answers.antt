use Rattle.bundle.proofs.CertifiedParts.{certified_certificate, certified_data, certified_source}
use Rattle.bundle.proofs.law.certified_bundle_has_its_parts.Goals as goal

pub returns : goal.returns
returns c = record { source = certified_source; between = certified_data; certificate = certified_certificate }
