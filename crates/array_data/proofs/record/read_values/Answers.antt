use Rattle.std.proofs.Common.{List, ℕ, ◌≡◌, ◌∷◌, ◌++◌, [], Option, Some, None, false}
use Rattle.std.proofs.lemmas.List.{append-nil}
use Rattle.array_data.specs.Reading.{record_left, text_of}
use Rattle.array_data.proofs.Readings.{left_on}
use Rattle.array_data.proofs.record.read_values.Goals as goal

pub loop-is_last-init : goal.loop-is_last-init
loop-is_last-init c = λ read fields h. ([], rw (append-nil fields) h, c.none-row.ensures c.args.most)

pub returns-in_default : goal.returns-in_default
returns-in_default c = λ read fields h.
    let more = c.loop-is_last.invariant read fields h in
    let left : read ≡ record_left (text_of c.loop-is_last.reader) (fields ++ more.0) =
    rw c.loop-is_last-test.true at more.1 in
    rw c.in_default.is at
    (left_on read (text_of c.loop-is_last.reader) (text_of c.next_field.new.self) c.in_ok-ends.field-0 fields more.0
    c.next_field.new.field left c.in_ok-ends.ensures.left)

pub loop-is_last-preserved : goal.loop-is_last-preserved
loop-is_last-preserved c = λ read fields h.
    let more = c.loop-is_last.invariant read fields h in
    let left : read ≡ record_left (text_of c.loop-is_last.reader) (fields ++ more.0) =
    rw c.loop-is_last-test.true at more.1 in (
      more.0 ++ c.next_field.new.field ∷ [],
      rw c.in-Some.is at
          (left_on read (text_of c.loop-is_last.reader) (text_of c.next_field.new.self) c.in_ok-ends.field-0 fields more.0
          c.next_field.new.field left c.in_ok-ends.ensures.left),
      rw c.as_slice.ensures at (c.in_ok-add.ensures more.0 more.2),
    )
