use Rattle.std.proofs.Common.{◌≡◌, ◌+◌, ◌-◌, List, length}
use Rattle.csv.specs.Reading.{Reached, default_config, strip_bom}
use Rattle.csv.specs.declared.parser.State.TheVariants as st
use Rattle.array_data.specs.Data.{Record}
use Rattle.array_data.specs.Reading.{text_of}
use Rattle.array_data.proofs.RecordVerdicts.{HaveGiven}
use Rattle.array_data.proofs.inputs.read_records.Given as goal

-- the records so far were read and taken
abbrev pub invariant-loop-field : goal.invariant-loop-field
invariant-loop-field l =
    (seen : List Record)
    × Reached default_config st.StartRecord (strip_bom l.fn.bytes) seen (text_of l.reader).state (text_of l.reader).bytes
    × (l.number ≡ length seen + 1) × HaveGiven l.arrays seen l.given

-- there is at most one record more than bytes
abbrev pub decreases-loop-field : goal.decreases-loop-field
decreases-loop-field l = length l.fn.bytes + 3 - l.number
