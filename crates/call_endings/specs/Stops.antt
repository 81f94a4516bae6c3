-- What is told of work that stopped.
use Rattle.std.specs.Io.KnownBytes.{Appends, Keeps}
use Rattle.io_edge.specs.Causes.{AppendsFront}
use Rattle.command_answers.specs.declared.refusal.Refusal.{Refusal}
use Rattle.command_answers.specs.declared.refusal.Stop.{Stop}
use Rattle.command_answers.specs.declared.refusal.Stop.TheVariants.{Refused, ReadFault, Memory}
use Rattle.command_answers.specs.declared.status.Status.{Status}
use Rattle.command_answers.specs.declared.status.Status.TheVariants.{InputFailed, NoMemory, OutputFailed}
use Rattle.call_endings.specs.Changes.{Change, HasFault, IsQuiet}
use Rattle.call_endings.specs.Complaints.{refusal_line, refusal_status}

-- What the complaint sink gained where the work stopped, and the status: a refusal's line was written, or the sink had a fault
-- and gained a front of it; of a fault of the source and of want of memory nothing was written.
pub data Tells (complaint : Change) : Stop → Status → Type 0 where
  refusal_told : (refusal : Refusal)
      → Appends complaint.old complaint.new (refusal_line refusal) → IsQuiet complaint
      → Tells complaint (Refused refusal) (refusal_status refusal)
  refusal_cut_short : (refusal : Refusal)
      → AppendsFront complaint.old complaint.new (refusal_line refusal) → HasFault complaint
      → Tells complaint (Refused refusal) OutputFailed
  fault_untold : Keeps complaint.old complaint.new → IsQuiet complaint
      → Tells complaint ReadFault InputFailed
  want_untold : Keeps complaint.old complaint.new → IsQuiet complaint
      → Tells complaint Memory NoMemory
