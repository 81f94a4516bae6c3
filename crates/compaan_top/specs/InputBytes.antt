-- What a call comes to whose source tells its bytes.
use Rattle.std.specs.Prelude.{◌≡◌, ◌≢◌, ℕ, List, [], Option, Some}
use Rattle.command_answers.specs.declared.status.Status.{Status}
use Rattle.command_answers.specs.declared.status.Status.TheVariants.{InputFailed, NoMemory, OutputFailed}
use Rattle.command_line.specs.declared.words.Order.{Order}
use Rattle.call_endings.specs.Changes.{Change}
use Rattle.call_endings.specs.Outcomes.{WritesAll, Outcome}
use Rattle.call_endings.specs.Reads.{Reads, source_alone, source_and_data, source_and_certificate, nothing}
use Rattle.compaan_top.specs.Outcome.{IsOutcome}

-- the bundle is all that the source has left, and empty where nothing is read
abbrev pub HasLeft : Reads → Option (List ℕ) → List ℕ → Type 0
HasLeft source_alone left bundle = left ≡ Some bundle
HasLeft source_and_data left bundle = left ≡ Some bundle
HasLeft source_and_certificate left bundle = left ≡ Some bundle
HasLeft nothing left bundle = bundle ≡ []

-- the status is that of neither a failed read, a failed write nor want of memory
abbrev pub IsDecision : Status → Type 0
IsDecision status = (status ≢ InputFailed) × (status ≢ OutputFailed) × (status ≢ NoMemory)

-- the call wrote, with its status, what the order and the bundle come to
pub record ComesTo (wanted : Option Order) (bundle : List ℕ) (output complaint : Change)
    (status : Status) : Type 0 where
  pub outcome : Outcome
  pub is : IsOutcome wanted bundle outcome
  pub has_status : status ≡ outcome.status
  pub writes : WritesAll outcome output complaint
