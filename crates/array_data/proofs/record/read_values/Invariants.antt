use Rattle.std.proofs.Common.{ℕ, ◌+◌, ◌++◌, List, Option, Some, length}
use Rattle.std.specs.Prelude.{if◌then◌else◌}
use Rattle.csv.specs.Machine.{Read}
use Rattle.array_data.specs.Reading.{AreOf, IsLeft, text_of}
use Rattle.array_data.proofs.record.read_values.Given as goal

-- behind the fields that stood before, the record has those that were read and kept
abbrev pub invariant-loop-is_last : goal.invariant-loop-is_last
invariant-loop-is_last l = (read : Option Read) (fields : List (List ℕ))
    → IsLeft read (Some l.fn.is_only) (text_of l.fn.reader) fields
    → (more : List (List ℕ)) × IsLeft read (Some l.is_last) (text_of l.reader) (fields ++ more)
    × AreOf l.most more l.row

abbrev pub decreases-loop-is_last : goal.decreases-loop-is_last
decreases-loop-is_last l = length l.reader.bytes.now + (if l.is_last then 0 else 1)
