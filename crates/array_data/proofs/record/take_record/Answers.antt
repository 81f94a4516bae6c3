use Rattle.std.proofs.Common.{ℕ, ℤ, List, Option, ◌<◌, arith, length, Result, Ok, Err, Some, None, Bool, ◌≡◌, ◌∷◌, ◌∙◌, [], refl, sym, ap}
use Rattle.std.proofs.lemmas.Result.{err_from_is_err_and}
use Rattle.std.specs.Prelude.{is_some, min, slice_index_or}
use Rattle.array_data.specs.Data.{array_named, wanted_count, without_blanks}
use Rattle.array_data.specs.Judging.{Given}
use Rattle.array_data.specs.Reading.{record_left, state_of, text_of}
use Rattle.array_data.proofs.Readings.{index_read, taken_known, taken_unknown}
use Rattle.array_data.proofs.record.take_record.Goals as goal

pub returns-in_default : goal.returns-in_default
returns-in_default c = (rw c.in_default.is at (c.in_ok-is_only.ensures.left []), refl)

pub returns-in_default-2 : goal.returns-in_default-2
returns-in_default-2 c =
    let first = rw c.in-Some.is at (c.in_ok-is_only.ensures.left []) in (
      rw c.in_default-2.is at
          (c.in_ok-row.ensures (record_left (text_of c.args.reader.now) []) (c.next_field.new.field ∷ []) first),
      refl,
    )

pub returns-in_default-array : goal.returns-in_default-array
returns-in_default-array c = λ known.
    let name = c.next_field.new.field in
    let first = rw c.in-Some.is at (c.in_ok-is_only.ensures.left []) in
    let read = rw c.in-Some-2.is at
    (c.in_ok-row.ensures (record_left (text_of c.args.reader.now) []) (name ∷ []) first) in
    let trimmed = c.without_blanks.ensures ∙ ap without_blanks c.as_slice.ensures in (
      (name ∷ read.0, state_of c.read_values.new.reader.place, c.read_values.new.reader.bytes.now),
      read.1,
      taken_unknown c.args.arrays.now c.args.number name read.0 c.args.given.now
          (c.in_default-array.ensures.number ∙ ap (array_named c.args.arrays.now) trimmed),
    )

pub returns-in_err-values : goal.returns-in_err-values
returns-in_err-values c =
    let name = c.next_field.new.field in
    let arrays = c.args.arrays.now in
    let a = c.in-Some-array.array in
    let fault = c.in_err-values.field-0.0 in
    let first = rw c.in-Some.is at (c.in_ok-is_only.ensures.left []) in
    let read = rw c.in-Some-2.is at
    (c.in_ok-row.ensures (record_left (text_of c.args.reader.now) []) (name ∷ []) first) in
    let trimmed = c.without_blanks.ensures ∙ ap without_blanks c.as_slice.ensures in
    let most : c.most_values-most.result ≡ min (wanted_count arrays a) 18446744073709551615 =
    rw c.in-Some-array.is at c.most_values-most.ensures in
    let given : c.is_some-is_given.result ≡ is_some (slice_index_or c.args.given.now a None) =
    let within : a < length c.args.given.now = omega (arith, c.requires, c.in-Some-array.ensures.within) in
    c.is_some-is_given.ensures
    ∙ ap (λ (o : Option (List ℤ)). is_some o)
    (index_read c.args.given.now a c.index-as_slice-array.result None within
    (rw c.as_slice-2.ensures at c.index-as_slice-array.is)) in
    let answer =
    err_from_is_err_and c.from_residual-in_err-values.result c.from_residual-in_err-values.ensures.1 in
    rw (answer.1, answer.2) (λ known. (
      (name ∷ read.0, state_of c.read_values.new.reader.place, c.read_values.new.reader.bytes.now),
      read.1,
      taken_known arrays c.args.number name read.0 c.args.given.now a c.is_some-is_given.result (Err fault)
          (c.in-Some-array.ensures.number ∙ ap (array_named arrays) trimmed) given
          (c.in_err-values.ensures (wanted_count arrays a) name read.0 most read.2 known),
    ))

pub returns : goal.returns
returns c =
    let name = c.next_field.new.field in
    let arrays = c.args.arrays.now in
    let a = c.in-Some-array.array in
    let first = rw c.in-Some.is at (c.in_ok-is_only.ensures.left []) in
    let read = rw c.in-Some-2.is at
    (c.in_ok-row.ensures (record_left (text_of c.args.reader.now) []) (name ∷ []) first) in
    let trimmed = c.without_blanks.ensures ∙ ap without_blanks c.as_slice.ensures in
    let most : c.most_values-most.result ≡ min (wanted_count arrays a) 18446744073709551615 =
    rw c.in-Some-array.is at c.most_values-most.ensures in
    let given : c.is_some-is_given.result ≡ is_some (slice_index_or c.args.given.now a None) =
    let within : a < length c.args.given.now = omega (arith, c.requires, c.in-Some-array.ensures.within) in
    c.is_some-is_given.ensures
    ∙ ap (λ (o : Option (List ℤ)). is_some o)
    (index_read c.args.given.now a c.index-as_slice-array.result None within
    (rw c.as_slice-2.ensures at c.index-as_slice-array.is)) in (
      name ∷ read.0,
      read.1,
      taken_known arrays c.args.number name read.0 c.args.given.now a c.is_some-is_given.result
          (Ok c.in_ok-values.values) (c.in-Some-array.ensures.number ∙ ap (array_named arrays) trimmed) given
          (c.in_ok-values.ensures (wanted_count arrays a) name read.0 most read.2)
          ∙ ap (λ (g : Given). Ok g) (sym c.set.ensures),
    )
