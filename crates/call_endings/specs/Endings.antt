-- How a call of a program may end.
use Rattle.std.specs.Prelude.{◌≢◌, ℕ, List}
use Rattle.command_answers.specs.declared.status.Status.{Status}
use Rattle.command_answers.specs.declared.status.Status.TheVariants.{InputFailed, NoMemory, OutputFailed}
use Rattle.call_endings.specs.Changes.{Change, HasFault, IsQuiet, TakesAtMost, WritesNothing}
use Rattle.call_endings.specs.Outcomes.{Outcome, WritesAll, WritesFront}
use Rattle.call_endings.specs.Reads.{Reads, nothing, ReadsFor, bundle_limit, most_taken}

-- How a call may end, and its status, where it may come to these outcomes of a bundle, and this is read: it wrote nothing, for
-- want of memory or since the source had a fault, or it wrote an outcome of the bundle that it read, or a sink had a fault
-- while it did.
pub data EndsBy (comes_to : List ℕ → Outcome → Type 0) (reads : Reads)
    (input output complaint : Change) : Status → Type 0 where
  no_memory : IsQuiet input → TakesAtMost input (most_taken reads)
      → WritesNothing output complaint
      → EndsBy comes_to reads input output complaint NoMemory
  read_fault : reads ≢ nothing → HasFault input → TakesAtMost input bundle_limit
      → WritesNothing output complaint
      → EndsBy comes_to reads input output complaint InputFailed
  written : (bundle : List ℕ) (outcome : Outcome) → IsQuiet input → ReadsFor reads input bundle
      → comes_to bundle outcome → WritesAll outcome output complaint
      → EndsBy comes_to reads input output complaint outcome.status
  cut_short : (bundle : List ℕ) (outcome : Outcome) → IsQuiet input → ReadsFor reads input bundle
      → comes_to bundle outcome → WritesFront outcome output complaint
      → EndsBy comes_to reads input output complaint OutputFailed
