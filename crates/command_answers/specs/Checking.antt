-- What the command `check` comes to on a bundle: one case for each cause, in the order in which they decide.
use Rattle.std.specs.Prelude.{◌≡◌, ℕ, ℤ, List, Some, None, Result, Ok, Err}
use Rattle.cert_text.specs.Reading.{reading}
use Rattle.cert_lines.specs.declared.error.CertError.{CertError}
use Rattle.bundle.specs.Parts.{certificate_part, source_part}
use Rattle.net_checker.specs.Fits.{first, verdict_of}
use Rattle.net_checker.specs.declared.verdict.Verdict.{Verdict}
use Rattle.net_checker.specs.declared.verdict.Verdict.TheVariants.{Accepted, Refused}
use Rattle.net_core.specs.declared.network.Network.{Network}
use Rattle.sanlp.specs.declared.nest.Nest.{Nest}
use Rattle.source_tree.specs.declared.cert.Cert.{Cert}
use Rattle.verdict_text.specs.VerdictText.{unread_text, verdict_text}
use Rattle.command_answers.specs.Replies.{Reply}
use Rattle.command_answers.specs.Source.{GivesWithinSize}
use Rattle.command_answers.specs.declared.refusal.Refusal.{Refusal}
use Rattle.command_answers.specs.declared.refusal.Refusal.TheVariants.{NoPart}
use Rattle.command_answers.specs.declared.status.Status.{Status}
use Rattle.command_answers.specs.declared.status.Status.TheVariants.{CertificateRefused, Done}

-- what was refused of a certificate is told on the output
abbrev pub refused : List ℕ → Reply
refused text = record { status = CertificateRefused; text = text }

abbrev pub verdict_status : Verdict → Status
verdict_status Accepted = Done
verdict_status (Refused refusal) = CertificateRefused

-- the reply that tells a verdict
abbrev pub verdict_reply : Verdict → Reply
verdict_reply verdict = record { status = verdict_status verdict; text = verdict_text verdict }

-- There is no certificate part, the source gives no nest within the limit, the certificate part is no text of a network with its
-- certificate, or the checker's verdict on these is told.
pub data Checks (params : List (List ℕ × ℤ)) (bundle : List ℕ) : Result Reply Refusal → Type 0 where
  part_missing : certificate_part bundle ≡ None → Checks params bundle (Err NoPart)
  source_refused : (part : List ℕ) (refusal : Refusal) → certificate_part bundle ≡ Some part
      → GivesWithinSize (source_part bundle) params (Err refusal)
      → Checks params bundle (Err refusal)
  unread : (part : List ℕ) (nest : Nest) (error : CertError) (text : List ℕ)
      → certificate_part bundle ≡ Some part
      → GivesWithinSize (source_part bundle) params (Ok nest) → reading part ≡ Err error
      → unread_text error ≡ Some text
      → Checks params bundle (Ok (refused text))
  judged : (part : List ℕ) (nest : Nest) (network : Network) (cert : Cert)
      → certificate_part bundle ≡ Some part
      → GivesWithinSize (source_part bundle) params (Ok nest) → reading part ≡ Ok (network, cert)
      → Checks params bundle (Ok (verdict_reply (verdict_of (first nest network cert))))
