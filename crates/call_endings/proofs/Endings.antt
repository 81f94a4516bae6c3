-- How a call ends, from what its parts did.
--
-- What a part reports is an answer, or why it stopped: a refusal, a fault of reading or want of memory. Each of these is carried on:
-- from the words and the bundle to why the work stopped (`IsStopped`), and from there, by how far the sinks took the text, to an
-- end of the call (`EndsBy`). All is by cases on the report; a report that a part can't give is contradictory. A sink that nothing
-- was written on stands still (`kept`). What a call may come to isn't looked at here: that an outcome is one of these is a premise,
-- and so is what is read where the words are refused.
use Rattle.std.proofs.Common.{◌≡◌, ◌≢◌, ◌≤◌, ◌<◌, ◌+◌, ℕ, List, [], length, Option, None, Result, Ok, Err, refl, sym, subst, inl, inr, lit≤, arith}
use Rattle.std.specs.Io.KnownBytes.{Appends, Keeps}
use Rattle.std.proofs.KnownBytes.{Appends-nil, Consumes-nil, Keeps-refl}
use Rattle.io_edge.specs.Causes.{AppendsFront}
use Rattle.command_line.specs.declared.words.Order.{Order}
use Rattle.command_answers.specs.Judging.{Judges}
use Rattle.command_answers.specs.Replies.{Reply}
use Rattle.command_answers.specs.declared.refusal.Refusal.{Refusal}
use Rattle.command_answers.specs.declared.refusal.Refusal.TheVariants.{TooLong, Usage}
use Rattle.command_answers.specs.declared.refusal.Stop.{Stop}
use Rattle.command_answers.specs.declared.refusal.Stop.TheVariants.{Refused, ReadFault, Memory}
use Rattle.command_answers.specs.declared.status.Status.{Status}
use Rattle.command_answers.specs.Statuses.{status_number}
use Rattle.command_answers.specs.declared.status.Status.TheVariants.{NoWords, OutputFailed}
use Rattle.call_endings.specs.Changes.{Change, HasFault, IsQuiet, TakesAtMost, WritesNothing}
use Rattle.call_endings.specs.Endings.{EndsBy, cut_short, no_memory, read_fault, written}
use Rattle.call_endings.specs.Outcomes.{Outcome, outcome_of}
use Rattle.call_endings.specs.Planned.{IsOrdered, IsStopped, ReadsAndJudges, ReadsBundle}
use Rattle.call_endings.specs.Reads.{Reads, source_alone, source_and_data, source_and_certificate, nothing, ReadsFor, ReadsTo, bundle_limit, most_taken}
use Rattle.call_endings.specs.Stops.{Tells, fault_untold, refusal_cut_short, refusal_told, want_untold}

-- a source or a sink that nothing was read of or written on
abbrev pub kept : Option (List ℕ) → ℕ → Change
kept held faults = record { old = held; new = held; faults_old = faults; faults_new = faults }

AppendsFront-nil : (held : Option (List ℕ)) → AppendsFront held held []
AppendsFront-nil held = (0, lit≤ tt, Appends-nil held)

-- nothing was written on the one sink, and none had a fault
pub nothing_written : (held : Option (List ℕ)) (faults : ℕ) (complaint : Change) → Keeps complaint.old complaint.new
    → IsQuiet complaint → WritesNothing (kept held faults) complaint
nothing_written held faults complaint keeps calm = record {
  output_kept = Keeps-refl held;
  complaint_kept = keeps;
  output_quiet = refl;
  complaint_quiet = calm;
}

pub takes_none : (left : Option (List ℕ)) (faults most : ℕ) → TakesAtMost (kept left faults) most
takes_none left faults most = ([], omega arith, Consumes-nil left)

-- what reads a bundle reads it so
pub reads_bundle : (reads : Reads) (input : Change) (bundle : List ℕ) → reads ≢ nothing → ReadsTo input bundle
    → ReadsFor reads input bundle
reads_bundle source_alone input bundle some read = read
reads_bundle source_and_data input bundle some read = read
reads_bundle source_and_certificate input bundle some read = read
reads_bundle nothing input bundle some read = absurd (some refl)

-- and takes at most a byte past the limit
takes_bundle : (reads : Reads) (input : Change) → reads ≢ nothing → TakesAtMost input (bundle_limit + 1)
    → TakesAtMost input (most_taken reads)
takes_bundle source_alone input some taken = taken
takes_bundle source_and_data input some taken = taken
takes_bundle source_and_certificate input some taken = taken
takes_bundle nothing input some taken = absurd (some refl)

pub takes_read : (reads : Reads) (input : Change) (bundle : List ℕ) → reads ≢ nothing → ReadsTo input bundle
    → TakesAtMost input (most_taken reads)
takes_read reads input bundle some read = takes_bundle reads input some (bundle, read.within, read.taken)

module _ (comes_to : List ℕ → Outcome → Type 0) (reads : Reads) where
  pub answer_written : (input output : Change) (held : Option (List ℕ)) (faults : ℕ) (reply : Reply)
      → IsQuiet input → ReadsAndJudges comes_to reads input (Ok reply) → Appends output.old output.new reply.text
      → IsQuiet output
      → EndsBy comes_to reads input output (kept held faults) reply.status
  answer_written input output held faults reply quiet judged appends calm =
      written judged.0 (outcome_of (Ok reply)) quiet judged.1 judged.2
      (record { written = appends; complained = Appends-nil held; output_quiet = calm; complaint_quiet = refl })

  pub answer_cut_short : (input output : Change) (held : Option (List ℕ)) (faults : ℕ) (reply : Reply)
      → IsQuiet input → ReadsAndJudges comes_to reads input (Ok reply) → AppendsFront output.old output.new reply.text
      → HasFault output
      → EndsBy comes_to reads input output (kept held faults) OutputFailed
  answer_cut_short input output held faults reply quiet judged front fault =
      cut_short judged.0 (outcome_of (Ok reply)) quiet judged.1 judged.2
      (record { written = front; complained = AppendsFront-nil held; cause = inl fault })

  -- work that stopped ends the call with what was told of it
  pub stopped : (input complaint : Change) (held : Option (List ℕ)) (faults : ℕ) {stop : Stop} {status : Status}
      → IsStopped comes_to reads input stop → Tells complaint stop status
      → EndsBy comes_to reads input (kept held faults) complaint status
  stopped input complaint held faults stop (refusal_told refusal appends calm) =
      written stop.1.0 (outcome_of (Err refusal)) stop.0 stop.1.1 stop.1.2
      (record { written = Appends-nil held; complained = appends; output_quiet = refl; complaint_quiet = calm })
  stopped input complaint held faults stop (refusal_cut_short refusal front fault) =
      cut_short stop.1.0 (outcome_of (Err refusal)) stop.0 stop.1.1 stop.1.2
      (record { written = AppendsFront-nil held; complained = front; cause = inr fault })
  stopped input complaint held faults stop (fault_untold keeps calm) =
      read_fault stop.0 stop.1 stop.2 (nothing_written held faults complaint keeps calm)
  stopped input complaint held faults stop (want_untold keeps calm) =
      no_memory stop.0 stop.1 (nothing_written held faults complaint keeps calm)

  -- where the words are refused nothing is read
  pub stopped_at_words : (wanted : Option Order) (left : Option (List ℕ)) (faults : ℕ) (stop : Stop)
      → (wanted ≡ None → (reads ≡ nothing) × comes_to [] (outcome_of (Err Usage)))
      → Judges (IsOrdered wanted) (Err stop) → IsStopped comes_to reads (kept left faults) stop
  stopped_at_words wanted left faults (Refused refusal) refuses judged =
      let none = refuses judged.0 in (
        refl,
        (
          [],
          subst (λ (r : Reads). ReadsFor r (kept left faults) []) (sym none.0) (Keeps-refl left, refl),
          subst (λ (r : Refusal). comes_to [] (outcome_of (Err r))) (sym judged.1) none.1,
        ),
      )
  stopped_at_words wanted left faults ReadFault refuses judged = absurd judged
  stopped_at_words wanted left faults Memory refuses judged = (refl, takes_none left faults (most_taken reads))

  pub stopped_at_bundle : (input : Change) (stop : Stop) → reads ≢ nothing
      → ((bundle : List ℕ) → bundle_limit < length bundle → comes_to bundle (outcome_of (Err TooLong)))
      → ReadsBundle input (Err stop) → IsStopped comes_to reads input stop
  stopped_at_bundle input (Refused refusal) some refuses read = (
    read.0,
    (
      read.2,
      reads_bundle reads input read.2 some read.3,
      subst (λ (r : Refusal). comes_to read.2 (outcome_of (Err r))) (sym read.1) (refuses read.2 read.4),
    ),
  )
  stopped_at_bundle input ReadFault some refuses read = (some, read.0, read.1)
  stopped_at_bundle input Memory some refuses read = (read.0, takes_bundle reads input some read.1)

  -- the work on what was read stopped
  pub stopped_at_work : {A : Type 0} (IsJudged : Result A Refusal → Type 0) (input : Change) (bundle : List ℕ)
      (stop : Stop) → IsQuiet input → ReadsFor reads input bundle → TakesAtMost input (most_taken reads)
      → ((refusal : Refusal) → IsJudged (Err refusal) → comes_to bundle (outcome_of (Err refusal)))
      → Judges IsJudged (Err stop) → IsStopped comes_to reads input stop
  stopped_at_work IsJudged input bundle (Refused refusal) quiet gives taken refuses judged =
      (quiet, (bundle, gives, refuses refusal judged))
  stopped_at_work IsJudged input bundle ReadFault quiet gives taken refuses judged = absurd judged
  stopped_at_work IsJudged input bundle Memory quiet gives taken refuses judged = (quiet, taken)

-- a program that was given no words
pub no_words : {number : ℕ} (left held other : Option (List ℕ)) (lefts faults others : ℕ)
    → number ≡ status_number NoWords
    → (number ≡ status_number NoWords) × Keeps left left × IsQuiet (kept left lefts)
    × WritesNothing (kept held faults) (kept other others)
no_words left held other lefts faults others is =
    (is, Keeps-refl left, refl, nothing_written held faults (kept other others) (Keeps-refl other) refl)
