-- How a call of the program `compaan_rtl` may end.
--
-- The bundle, its refusals and the statuses are those of the program `compaan`, and so is what a call does to its source and its
-- sinks. The words are this program's own, and so is the line that tells of words that are refused.
use Rattle.std.specs.Prelude.{◌≡◌, ◌≤◌, ◌<◌, ℕ, List, [], ◌∷◌, length, codes, Option, Some, None, Result, Ok, Err}
use Rattle.std.specs.Io.KnownBytes.{Appends}
use Rattle.io_edge.specs.Causes.{AppendsFront}
use Rattle.text_out.specs.Words.{line_text}
use Rattle.rtl_line.specs.declared.words.Order.{Order}
use Rattle.command_answers.specs.Replies.{Reply}
use Rattle.command_answers.specs.Statuses.{status_number}
use Rattle.command_answers.specs.declared.refusal.Refusal.{Refusal}
use Rattle.command_answers.specs.declared.refusal.Refusal.TheVariants.{TooLong}
use Rattle.command_answers.specs.declared.refusal.Stop.{Stop}
use Rattle.command_answers.specs.declared.status.Status.{Status}
use Rattle.command_answers.specs.declared.status.Status.TheVariants.{OutputFailed, WordsRefused}
use Rattle.call_endings.specs.Changes.{Change, HasFault, IsQuiet}
use Rattle.call_endings.specs.Endings.{EndsBy}
use Rattle.call_endings.specs.Outcomes.{Outcome, outcome_of}
use Rattle.call_endings.specs.Planned.{IsStopped, ReadsAndJudges}
use Rattle.call_endings.specs.Reads.{Reads, source_alone, nothing, bundle_limit}
use Rattle.rtl_answers.specs.Answering.{Answers, reply_of}
use Rattle.rtl_answers.specs.declared.answer.Answer.{Answer}

-- the line that tells of words that are refused
abbrev pub usage_line : List ℕ
usage_line =
    line_text
    (codes "usage: compaan_rtl [NAME=VALUE].. [--policy seq|down|least] [--ports one|all] [--clocks]" ∷ [])

abbrev pub usage_outcome : Outcome
usage_outcome = record { status = WordsRefused; output = []; complaint = usage_line }

-- The words are refused, the bundle is too long, or what the order comes to is written or refused.
pub data IsDesignOutcome (wanted : Option Order) (bundle : List ℕ) : Outcome → Type 0 where
  words_refused : wanted ≡ None → IsDesignOutcome wanted bundle usage_outcome
  bundle_refused : (order : Order) → wanted ≡ Some order → bundle_limit < length bundle
      → IsDesignOutcome wanted bundle (outcome_of (Err TooLong))
  performed : (order : Order) (answer : Result Reply Refusal) → wanted ≡ Some order
      → length bundle ≤ bundle_limit → Answers order bundle answer
      → IsDesignOutcome wanted bundle (outcome_of answer)

-- where the words are refused nothing is read, and else a bundle
abbrev pub design_reads : Option Order → Reads
design_reads None = nothing
design_reads (Some order) = source_alone

-- how a call may end, and its status, where this order is wanted, or None where the words are refused
abbrev pub EndsDesign : Option Order → Change → Change → Change → Status → Type 0
EndsDesign wanted = EndsBy (IsDesignOutcome wanted) (design_reads wanted)

-- A call for this order, or with None for words that are refused, ended so, and answered the number of its status.
pub record IsDesignCallOf (wanted : Option Order) (input output complaint : Change) (number : ℕ)
    : Type 0 where
  pub status : Status
  pub is_number : number ≡ status_number status
  pub ends : EndsDesign wanted input output complaint status

-- The line was written, or the sink had a fault and gained a front of it.
pub data TellsUsage (complaint : Change) : Status → Type 0 where
  usage_told : Appends complaint.old complaint.new usage_line → IsQuiet complaint
      → TellsUsage complaint WordsRefused
  usage_cut_short : AppendsFront complaint.old complaint.new usage_line → HasFault complaint
      → TellsUsage complaint OutputFailed

-- the input was read, and the answer is that of the order and of what was read; or the work stopped
abbrev pub IsDesignPlanned : Order → Change → Result Answer Stop → Type 0
IsDesignPlanned order input (Ok answer) =
    IsQuiet input
    × ReadsAndJudges (IsDesignOutcome (Some order)) source_alone input (Ok (reply_of answer))
IsDesignPlanned order input (Err stop) =
    IsStopped (IsDesignOutcome (Some order)) source_alone input stop
