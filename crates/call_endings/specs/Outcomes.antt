-- What a call comes to, and how far it was written.
use Rattle.std.specs.Prelude.{◌⊎◌, ℕ, List, [], Result, Ok, Err}
use Rattle.std.specs.Io.KnownBytes.{Appends}
use Rattle.io_edge.specs.Causes.{AppendsFront}
use Rattle.command_answers.specs.Replies.{Reply}
use Rattle.command_answers.specs.declared.refusal.Refusal.{Refusal}
use Rattle.command_answers.specs.declared.status.Status.{Status}
use Rattle.call_endings.specs.Changes.{Change, HasFault, IsQuiet}
use Rattle.call_endings.specs.Complaints.{refusal_line, refusal_status}

-- a status, what is written on the output, and what on the complaint sink
pub record Outcome : Type 0 where
  pub status : Status
  pub output : List ℕ
  pub complaint : List ℕ

-- what a command comes to: the reply that it writes, or why it is refused
abbrev pub outcome_of : Result Reply Refusal → Outcome
outcome_of (Ok reply) = record { status = reply.status; output = reply.text; complaint = [] }
outcome_of (Err refusal) =
    record { status = refusal_status refusal; output = []; complaint = refusal_line refusal }

-- the outcome was written whole, and no sink had a fault
pub record WritesAll (outcome : Outcome) (output complaint : Change) : Type 0 where
  pub written : Appends output.old output.new outcome.output
  pub complained : Appends complaint.old complaint.new outcome.complaint
  pub output_quiet : IsQuiet output
  pub complaint_quiet : IsQuiet complaint

-- a sink had a fault, and each sink gained a front of what it was to gain
pub record WritesFront (outcome : Outcome) (output complaint : Change) : Type 0 where
  pub written : AppendsFront output.old output.new outcome.output
  pub complained : AppendsFront complaint.old complaint.new outcome.complaint
  pub cause : HasFault output ⊎ HasFault complaint
