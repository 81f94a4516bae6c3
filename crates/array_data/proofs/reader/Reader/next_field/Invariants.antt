use Rattle.std.proofs.Common.{List, ℕ, ◌≡◌, ◌≤◌, length}
use Rattle.csv.specs.Machine.{next_record}
use Rattle.csv.specs.Reading.{default_config}
use Rattle.array_data.specs.Reading.{record_left, state_of, text_of}
use Rattle.array_data.proofs.reader.Reader.next_field.Given as goal

-- the bytes so far brought the reader from where it was to where it is, with these of the field
abbrev pub invariant-loop-byte : goal.invariant-loop-byte
invariant-loop-byte l = record {
  left : (fields : List (List ℕ))
      → next_record default_config (state_of l.self.place) fields l.field l.self.bytes.now
      ≡ record_left (text_of l.fn.self) fields;
  shorter : length l.self.bytes.now ≤ length l.fn.self.bytes.now;
}

abbrev pub decreases-loop-byte : goal.decreases-loop-byte
decreases-loop-byte l = length l.self.bytes.now
