-- What every reader of whole texts answers, by what its answer is: the definition's own, unless it tells want of memory.
use Rattle.std.proofs.Common.{◌≡◌, ℕ, List, Result, IfOk, MatchResult}
use Rattle.plain_data.specs.Answers.{IsUnlessMemory}
use Rattle.net_core.specs.Machine.{net_of}
use Rattle.net_core.specs.Shape.{FitsNumbers}
use Rattle.net_core.specs.declared.network.Network.{Network}
use Rattle.source_tree.specs.declared.cert.Cert.{Cert}
use Rattle.cert_lines.specs.declared.error.CertError.{CertError}
use Rattle.cert_lines.specs.declared.error.CertError.TheVariants.{Memory}
use Rattle.cert_lines.proofs.Outcomes.{answer_of_text, if_answered}
use Rattle.cert_text.specs.Reading.{reading}
use Rattle.cert_text.specs.StandsFor.{StandsFor}
use Rattle.cert_text.proofs.Lengths.{few_events}
use Rattle.cert_text.proofs.ReadBack.{reads_back, stands_for}

module _ (bytes : List ℕ) (answer : Result (Network × Cert) CertError)
    (exact : IsUnlessMemory Memory answer (reading bytes)) where
  pub answers_text : IfOk answer (λ pair. StandsFor bytes pair.0 pair.1)
  answers_text =
      if_answered (λ (pair : Network × Cert). StandsFor bytes pair.0 pair.1) answer (reading bytes) exact
      (λ pair read. stands_for bytes pair.0 pair.1 read)

  pub answers_of_text : (network : Network) (cert : Cert) → StandsFor bytes network cert
      → MatchResult answer (λ pair. pair ≡ (network, cert)) (λ error. error ≡ Memory)
  answers_of_text network cert stands =
      answer_of_text answer (reading bytes) (network, cert) exact (reads_back bytes network cert stands)

  pub answers_few : IfOk answer (λ pair. FitsNumbers (net_of pair.0))
  answers_few =
      if_answered (λ (pair : Network × Cert). FitsNumbers (net_of pair.0)) answer (reading bytes) exact
      (λ pair read. few_events bytes pair.0 pair.1 (stands_for bytes pair.0 pair.1 read))
