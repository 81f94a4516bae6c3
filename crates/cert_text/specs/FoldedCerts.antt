-- Certificates whose schedule is kept folded, and the certificates that they are.
use Rattle.std.specs.Prelude.{Result, Ok, Err}
use Rattle.net_core.specs.declared.network.Network.{Network}
use Rattle.source_tree.specs.declared.cert.Cert.{Cert}
use Rattle.cert_lines.specs.declared.error.CertError.{CertError}
use Rattle.cert_text.specs.declared.folded_cert.FoldedCert.{FoldedCert}

-- the certificate that is kept folded: all but its schedule stands in `rest`
abbrev pub whole_cert : FoldedCert → Cert
whole_cert cert = record { sources = cert.rest.sources; schedule = cert.schedule }

-- the answer of a reader with the certificate in place of the folded one
abbrev pub whole_answer : Result (Network × FoldedCert) CertError → Result (Network × Cert) CertError
whole_answer (Ok pair) = Ok (pair.0, whole_cert pair.1)
whole_answer (Err error) = Err error
