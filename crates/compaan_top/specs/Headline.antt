-- What the program vouches for where `check` accepts.
use Rattle.std.specs.Prelude.{◌≡◌, ◌≤◌, ◌↔◌, ℕ, ℤ, List, [], length, codes, Option, Some, Ok}
use Rattle.cert_text.specs.StandsFor.{StandsFor}
use Rattle.bundle.specs.Parts.{certificate_part, source_part}
use Rattle.command_line.specs.declared.words.Command.TheVariants.{Check}
use Rattle.command_line.specs.declared.words.Order.{Order}
use Rattle.net_checker.specs.Fits.{Fits}
use Rattle.net_core.specs.Sound.{IsSound}
use Rattle.net_core.specs.declared.network.Network.{Network}
use Rattle.sanlp.specs.declared.nest.Nest.{Nest}
use Rattle.source_tree.specs.declared.cert.Cert.{Cert}
use Rattle.std.specs.Io.KnownBytes.{Appends}
use Rattle.call_endings.specs.Changes.{Change}
use Rattle.call_endings.specs.Outcomes.{Outcome}
use Rattle.call_endings.specs.Reads.{bundle_limit}
use Rattle.compaan_top.specs.Outcome.{IsOutcome}
use Rattle.command_answers.specs.Source.{GivesWithinSize}
use Rattle.command_answers.specs.declared.status.Status.{Status}
use Rattle.command_answers.specs.declared.status.Status.TheVariants.{Done}

-- The source gives a nest within the limit on its size, and the certificate part stands for a network and a certificate that
-- fit this nest.
pub record HasFittingCertificate (params : List (List ℕ × ℤ)) (bundle : List ℕ) : Type 0 where
  pub nest : Nest
  pub network : Network
  pub cert : Cert
  pub gives : GivesWithinSize (source_part bundle) params (Ok nest)
  pub text : List ℕ
  pub is_part : certificate_part bundle ≡ Some text
  pub stands : StandsFor text network cert
  pub fits : Fits nest network cert

-- Besides, this network is sound for the nest: every run of it, in whatever order the processes step, can go on until all
-- have ended, keeps every channel within its capacity, and once ended has the same number of events and the sequential
-- program's arrays.
pub record HasSoundCertificate (params : List (List ℕ × ℤ)) (bundle : List ℕ) : Type 0 where
  pub fitting : HasFittingCertificate params bundle
  pub sound : IsSound fitting.nest fitting.network

-- what is written where the checker accepts
abbrev pub accepted : Outcome
accepted = record { status = Done; output = codes "accepted\n"; complaint = [] }

-- the bundle is within its limit and has a sound certificate
abbrev pub IsAcceptable : List (List ℕ × ℤ) → List ℕ → Type 0
IsAcceptable params bundle = (length bundle ≤ bundle_limit) × HasSoundCertificate params bundle

-- `accepted` was written, with its status
abbrev pub SaysAccepted : Change → Status → Type 0
SaysAccepted output status = (status ≡ Done) × Appends output.old output.new accepted.output

-- An order to `check` comes to `accepted` exactly where the bundle has a fitting certificate.
abbrev pub AcceptsWhatFits : Option Order → List ℕ → Type 0
AcceptsWhatFits wanted bundle =
    (order : Order) → wanted ≡ Some order → order.command ≡ Check → length bundle ≤ bundle_limit
    → (outcome : Outcome) → IsOutcome wanted bundle outcome
    → (outcome ≡ accepted) ↔ HasFittingCertificate order.params bundle
