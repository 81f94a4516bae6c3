-- What one can rely on of a call of the program.
use Rattle.std.specs.Prelude.{◌≡◌, ◌≢◌, ◌↔◌, ℕ, List, Option, Some}
use Rattle.command_answers.specs.Statuses.{status_number}
use Rattle.compaan_top.specs.DepsOutcomes.{GivesTrees}
use Rattle.command_answers.specs.declared.status.Status.{Status}
use Rattle.command_answers.specs.declared.status.Status.TheVariants.{Done, LimitPassed}
use Rattle.command_line.specs.declared.words.Command.TheVariants.{Check, Deps}
use Rattle.command_line.specs.declared.words.Order.{Order}
use Rattle.call_endings.specs.Changes.{Change}
use Rattle.call_endings.specs.Reads.{ReadsTo}
use Rattle.compaan_top.specs.Answers.{Ends}
use Rattle.compaan_top.specs.Commands.{read_by, reads_of}
use Rattle.compaan_top.specs.Headline.{HasSoundCertificate, IsAcceptable, SaysAccepted}
use Rattle.compaan_top.specs.Laws.{HasStatusOf, IsDone, IsValid}
use Rattle.compaan_top.specs.InputBytes.{ComesTo, IsDecision, HasLeft}

-- A call for this order, or with None for words that are refused, did this to its source and its two sinks, and answered this
-- number.
pub record IsCallOf (wanted : Option Order) (input output complaint : Change) (number : ℕ)
    : Type 0 where
  -- the status that has the number
  pub status : Status
  pub is_number : number ≡ status_number status
  -- how the call ended, whatever the source and the sinks are
  pub ends : Ends wanted input output complaint status
  -- the status is one of those that the order may have
  pub statuses : HasStatusOf wanted status
  -- where `check` was done, it read a bundle with a sound certificate
  pub accepts : (order : Order) → wanted ≡ Some order → order.command ≡ Check → status ≡ Done
      → (bundle : List ℕ) × ReadsTo input bundle × HasSoundCertificate order.params bundle
  -- what is left is of a source that tells its bytes: where no fault and no want of memory ended the call, it wrote what the
  -- order and these bytes come to
  pub comes : (bundle : List ℕ) → HasLeft (read_by wanted) input.old bundle → IsDecision status
      → ComesTo wanted bundle output complaint status
  -- so it was done where nothing is to be refused
  pub completes : (bundle : List ℕ) → HasLeft (read_by wanted) input.old bundle
      → (valid : IsValid wanted bundle) → IsDecision status
      → IsDone (reads_of valid.order.command) status
  -- and `check` wrote `accepted` exactly where the bundle is within its limit and has a sound certificate
  pub accepted : (order : Order) → wanted ≡ Some order → order.command ≡ Check
      → (bundle : List ℕ) → input.old ≡ Some bundle → IsDecision status
      → SaysAccepted output status ↔ IsAcceptable order.params bundle
  -- `deps` passes no limit where each read of the source's nest has a tree, whatever the size of the nest
  pub unlimited : (order : Order) → wanted ≡ Some order → order.command ≡ Deps
      → (bundle : List ℕ) → input.old ≡ Some bundle
      → GivesTrees order.params bundle → status ≢ LimitPassed
