-- What a call of a program does to its source and its two sinks.
use Rattle.std.specs.Prelude.{◌≡◌, ℕ, List, OnErr, OnOk, Option, Result}
use Rattle.std.specs.Io.KnownBytes.{Appends, Keeps}
use Rattle.io_edge.specs.Causes.{Rose, AppendsFront, ConsumesAtMost}

-- the bytes and the count of faults of a source or a sink, before a call and after it
pub record Change : Type 0 where
  pub old : Option (List ℕ)
  pub new : Option (List ℕ)
  pub faults_old : ℕ
  pub faults_new : ℕ

-- the bytes and the count of faults of a source or a sink, before a call and after it, by what its trait gives
abbrev pub change : {Edge : Type 0} → (Edge → Option (List ℕ)) → (Edge → ℕ) → Edge → Edge → Change
change bytes faults before after = record {
  old = bytes before;
  new = bytes after;
  faults_old = faults before;
  faults_new = faults after;
}

abbrev pub IsQuiet : Change → Type 0
IsQuiet change = change.faults_new ≡ change.faults_old

abbrev pub HasFault : Change → Type 0
HasFault change = Rose change.faults_old change.faults_new

-- a text that was to be written on a sink was written whole, and the sink had no fault; or it had one, and gained a front
pub record Writes {T E : Type 0} (sink : Change) (text : List ℕ)
    (result : Result T E) : Type 0 where
  pub ok : OnOk result (Appends sink.old sink.new text)
  pub quiet : OnOk result (IsQuiet sink)
  pub front : OnErr result (AppendsFront sink.old sink.new text)
  pub cause : OnErr result (HasFault sink)

abbrev pub TakesAtMost : Change → ℕ → Type 0
TakesAtMost input most = ConsumesAtMost input.old input.new most

-- nothing was written on either sink, and none had a fault
pub record WritesNothing (output complaint : Change) : Type 0 where
  pub output_kept : Keeps output.old output.new
  pub complaint_kept : Keeps complaint.old complaint.new
  pub output_quiet : IsQuiet output
  pub complaint_quiet : IsQuiet complaint
