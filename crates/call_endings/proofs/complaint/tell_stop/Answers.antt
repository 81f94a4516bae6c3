use Rattle.std.proofs.KnownBytes.{Keeps-refl}
use Rattle.std.proofs.Common.{refl}
use Rattle.call_endings.specs.Stops.{fault_untold, refusal_cut_short, refusal_told, want_untold}
use Rattle.call_endings.proofs.complaint.tell_stop.Goals as goal

pub returns-in-Ok : goal.returns-in-Ok
returns-in-Ok g c =
    rw (c.in-Refused.is, c.refusal_status.ensures)
    (refusal_told c.in-Refused.refusal c.in-Ok.ensures.ok c.in-Ok.ensures.quiet)

pub returns-in-Refused : goal.returns-in-Refused
returns-in-Refused g c =
    rw c.in-Refused.is (refusal_cut_short c.in-Refused.refusal c.in-Err.ensures.front c.in-Err.ensures.cause)

pub returns-in-ReadFault : goal.returns-in-ReadFault
returns-in-ReadFault g c = rw c.in-ReadFault.is (fault_untold (Keeps-refl _) refl)

pub returns : goal.returns
returns g c = rw c.in-Memory.is (want_untold (Keeps-refl _) refl)
