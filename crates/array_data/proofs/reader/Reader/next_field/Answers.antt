use Rattle.std.proofs.Common.{◌≡◌, ◌∷◌, ◌∙◌, List, ℕ, sym, ap, arith, length}
use Rattle.std.proofs.lemmas.List.{nil_from_length}
use Rattle.array_data.specs.Reading.{state_of}
use Rattle.array_data.proofs.Readings.{copied, ended_in, ended_outside, field_ended, record_ended, skipped}
use Rattle.array_data.proofs.reader.Reader.next_field.Goals as goal

pub loop-byte-preserved-in-Skip : goal.loop-byte-preserved-in-Skip
loop-byte-preserved-in-Skip c = record {
  left = λ fields.
      sym (skipped (state_of c.loop-byte.self.place) (state_of c.step-place.result.0) c.in-Some.byte.now fields
      c.loop-byte.field c.in-Some.rest.now (rw c.in-Skip.is at c.step-place.ensures))
      ∙ (rw c.in-Some.ensures.cases.0 at (c.loop-byte.invariant.left fields));
  shorter = omega (arith, c.loop-byte.invariant.shorter, ap (λ (bs : List ℕ). length bs) c.in-Some.ensures.cases.0);
}

pub loop-byte-preserved : goal.loop-byte-preserved
loop-byte-preserved c = record {
  left = λ fields.
      rw c.in_ok-push-in-Copy.ensures.ok
      (sym (copied (state_of c.loop-byte.self.place) (state_of c.step-place.result.0) c.in-Some.byte.now fields
      c.loop-byte.field c.in-Some.rest.now (rw c.in-Copy.is at c.step-place.ensures))
      ∙ (rw c.in-Some.ensures.cases.0 at (c.loop-byte.invariant.left fields)));
  shorter = omega (arith, c.loop-byte.invariant.shorter, ap (λ (bs : List ℕ). length bs) c.in-Some.ensures.cases.0);
}

pub returns-in-EndField-clause-left : goal.returns-in-EndField-clause-left
returns-in-EndField-clause-left c = λ fields.
    sym (rw c.in-Some.ensures.cases.0 at (c.loop-byte.invariant.left fields))
    ∙ field_ended (state_of c.loop-byte.self.place) (state_of c.step-place.result.0) c.in-Some.byte.now fields
    c.loop-byte.field c.in-Some.rest.now (rw c.in-EndField.is at c.step-place.ensures)

pub returns-in-EndRecord-clause-left : goal.returns-in-EndRecord-clause-left
returns-in-EndRecord-clause-left c = λ fields.
    sym (rw c.in-Some.ensures.cases.0 at (c.loop-byte.invariant.left fields))
    ∙ record_ended (state_of c.loop-byte.self.place) (state_of c.step-place.result.0) c.in-Some.byte.now fields
    c.loop-byte.field c.in-Some.rest.now (rw c.in-EndRecord.is at c.step-place.ensures)

pub returns-then-is_in_record-clause-left : goal.returns-then-is_in_record-clause-left
returns-then-is_in_record-clause-left c =
    let none = nil_from_length c.loop-byte.self.bytes.now c.in_default.ensures.cases in
    rw none (λ fields.
    sym (rw none at (c.loop-byte.invariant.left fields))
    ∙ ended_in (state_of c.loop-byte.self.place) fields c.loop-byte.field
    (sym c.if-is_in_record.true ∙ c.is_in_record.ensures))

pub returns-else-is_in_record-clause-left : goal.returns-else-is_in_record-clause-left
returns-else-is_in_record-clause-left c = λ fields.
    let none = nil_from_length c.loop-byte.self.bytes.now c.in_default.ensures.cases in
    sym (rw none at (c.loop-byte.invariant.left fields))
    ∙ ended_outside (state_of c.loop-byte.self.place) fields c.loop-byte.field
    (sym c.if-is_in_record.false ∙ c.is_in_record.ensures)
