-- What reading the words and the input and working on them comes to, before anything is written.
use Rattle.std.specs.Prelude.{◌≡◌, ◌≢◌, ◌≤◌, ◌<◌, ◌+◌, ℕ, List, length, Option, Some, None, Result, Ok, Err}
use Rattle.std.specs.Global.{Vec}
use Rattle.command_line.specs.declared.words.Order.{Order}
use Rattle.command_answers.specs.Replies.{Reply}
use Rattle.command_answers.specs.declared.refusal.Refusal.{Refusal}
use Rattle.command_answers.specs.declared.refusal.Refusal.TheVariants.{Usage, TooLong}
use Rattle.command_answers.specs.declared.refusal.Stop.{Stop}
use Rattle.command_answers.specs.declared.refusal.Stop.TheVariants.{Refused, ReadFault, Memory}
use Rattle.call_endings.specs.Changes.{Change, IsQuiet, HasFault, TakesAtMost}
use Rattle.call_endings.specs.Outcomes.{Outcome, outcome_of}
use Rattle.call_endings.specs.Reads.{Reads, nothing, ReadsFor, ReadsTo, bundle_limit, most_taken}

-- the order that the words give, or they are refused
abbrev pub IsOrdered : Option Order → Result Order Refusal → Type 0
IsOrdered wanted (Ok order) = wanted ≡ Some order
IsOrdered wanted (Err refusal) = (wanted ≡ None) × (refusal ≡ Usage)

-- A bundle within the limit was read, one past it is refused, the source had a fault, or memory was wanting.
abbrev pub ReadsBundle : Change → Result (Vec ℕ) Stop → Type 0
ReadsBundle input (Ok bundle) =
    IsQuiet input × ReadsTo input bundle.items × (length bundle.items ≤ bundle_limit)
ReadsBundle input (Err (Refused refusal)) =
    IsQuiet input × (refusal ≡ TooLong) × (bundle : List ℕ) × ReadsTo input bundle
    × (bundle_limit < length bundle)
ReadsBundle input (Err ReadFault) = HasFault input × TakesAtMost input bundle_limit
ReadsBundle input (Err Memory) = IsQuiet input × TakesAtMost input (bundle_limit + 1)

-- the input was read, and the answer is one that the call may come to on what was read
abbrev pub ReadsAndJudges : (List ℕ → Outcome → Type 0) → Reads → Change → Result Reply Refusal
    → Type 0
ReadsAndJudges comes_to reads input answer =
    (bundle : List ℕ) × ReadsFor reads input bundle × comes_to bundle (outcome_of answer)

-- where the work stopped, the input was read and the refusal is one that the call may come to on it, the source had a fault,
-- or memory was wanting
abbrev pub IsStopped : (List ℕ → Outcome → Type 0) → Reads → Change → Stop → Type 0
IsStopped comes_to reads input (Refused refusal) =
    IsQuiet input × ReadsAndJudges comes_to reads input (Err refusal)
IsStopped comes_to reads input ReadFault =
    (reads ≢ nothing) × HasFault input × TakesAtMost input bundle_limit
IsStopped comes_to reads input Memory = IsQuiet input × TakesAtMost input (most_taken reads)
