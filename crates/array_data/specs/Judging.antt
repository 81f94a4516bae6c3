-- How the records are judged in turn, with the values so far at the numbers of their arrays.
use Rattle.std.specs.Prelude.{◌≡◌, ◌<◌, ℕ, ◌+◌, ◌==◌, ℤ, Bool, true, map, min, List, [], ◌∷◌, length, is_some, ok_or, Option, Some, None, Result, Ok, Err, if◌then◌else◌, slice_index_or, slice_set}
use Rattle.std.specs.Option.{option_map, option_map_or}
use Rattle.std.specs.List.{range_with_len}
use Rattle.sanlp.specs.declared.nest.ArrayDecl.{ArrayDecl}
use Rattle.sanlp.specs.Cells.{cell_count, is_input}
use Rattle.plain_data.specs.Answers.{IsUnlessMemory}
use Rattle.array_data.specs.declared.error.DataError.{DataError}
use Rattle.array_data.specs.declared.error.DataError.TheVariants.{UnknownArray, Twice, Missing, Count, NotANumber, Memory}
use Rattle.array_data.specs.Data.{Record, array_named, first_fault, name_of, record_of, unless, value_fields, value_of, values_in, wanted_count}

-- the list with this value before it, if both are there
abbrev pub before : {A : Type 0} → Result A DataError → Result (List A) DataError
    → Result (List A) DataError
before (Ok value) (Ok values) = Ok (value ∷ values)
before (Ok value) (Err fault) = Err fault
before (Err fault) values = Err fault

-- the values of the fields from place `at` on, or the first that is none
abbrev pub values_from : ℕ → ℕ → List (List ℕ) → Result (List ℤ) DataError
values_from number at [] = Ok []
values_from number at (field ∷ fields) =
    before (ok_or (value_of field) (NotANumber number at)) (values_from number (at + 1) fields)

-- values that were read of a record, or its first field that is none, if there is one
abbrev pub held : ℕ → List ℤ → Option ℕ → Result (List ℤ) DataError
held number values None = Ok values
held number values (Some at) = Err (NotANumber number at)

-- the values of a record whose array has so many cells
abbrev pub values_taken : ℕ → ℕ → Bool → Record → Result (List ℤ) DataError
values_taken cells number is_given row =
    if is_given then Err (Twice number)
    else if length (value_fields row) == cells then values_from number 1 (value_fields row)
    else Err (Count number (length (value_fields row)) cells)

-- a count that differs from the number of cells; those from 2^64 - 1 on can't be told
abbrev pub IsCountFault : ℕ → ℕ → ℕ → DataError → Type 0
IsCountFault number got want Memory = Unit {0}
IsCountFault number got want (Count n g w) =
    (got < 18446744073709551615) × (want < 18446744073709551615)
    × (Count n g w ≡ Count number got want)
IsCountFault number got want (UnknownArray n) = ⊥
IsCountFault number got want (Twice n) = ⊥
IsCountFault number got want (Missing a) = ⊥
IsCountFault number got want (NotANumber n f) = ⊥

-- the values so far: for each array its values, if it has a record
abbrev pub Given : Type 0
Given = List (Option (List ℤ))

abbrev pub placed : Given → ℕ → Result (List ℤ) DataError → Result Given DataError
placed given a (Ok values) = Ok (slice_set given a (Some values))
placed given a (Err fault) = Err fault

-- the values so far after one more record
abbrev pub taken : List ArrayDecl → ℕ → Record → Given → Result Given DataError
taken arrays number row given =
    option_map_or
    (λ a. placed given a
    (values_taken (wanted_count arrays a) number (is_some (slice_index_or given a None)) row))
    (array_named arrays (name_of row)) (Err (UnknownArray number))

-- how many values a record's array takes, or 2^64 - 1 where it takes more
abbrev pub most_for : List ArrayDecl → Option ℕ → ℕ
most_for arrays None = 0
most_for arrays (Some a) = min (wanted_count arrays a) 18446744073709551615

-- the values of array a, which has none unless it is no input
abbrev pub given_or_missing : ArrayDecl → ℕ → Option (List ℤ) → Result (List ℤ) DataError
given_or_missing array a (Some values) = Ok values
given_or_missing array a None = if is_input array.kind then Err (Missing a) else Ok []

-- the values of all arrays, or the first input that has none; the first array has number a
abbrev pub collected : ℕ → List ArrayDecl → Given → Result (List (List ℤ)) DataError
collected a [] given = Ok []
collected a (array ∷ arrays) [] = Ok []
collected a (array ∷ arrays) (values ∷ given) =
    before (given_or_missing array a values) (collected (a + 1) arrays given)

-- the array of this number is told to have no record; past 32 bits its number can't be told
abbrev pub IsMissing : ℕ → DataError → Type 0
IsMissing a Memory = Unit {0}
IsMissing a (Missing b) = a ≡ b
IsMissing a (UnknownArray n) = ⊥
IsMissing a (Twice n) = ⊥
IsMissing a (Count n g w) = ⊥
IsMissing a (NotANumber n f) = ⊥

-- values stand only at input arrays, and are as many as their cells
abbrev pub Fits : List ArrayDecl → Given → Type 0
Fits [] given = Unit {0}
Fits (array ∷ arrays) [] = ⊥
Fits (array ∷ arrays) (Some values ∷ given) =
    (is_input array.kind ≡ true) × (length values ≡ cell_count array.extents) × Fits arrays given
Fits (array ∷ arrays) (None ∷ given) = Fits arrays given

-- the values of the record of each array that has one
abbrev pub given_by : List ArrayDecl → List Record → Given
given_by arrays rows =
    map (λ a. option_map values_in (record_of arrays rows a)) (range_with_len 0 (length arrays))

-- what the records give before it is known which arrays have none
abbrev pub IsGivenBy : List ArrayDecl → List Record → Result Given DataError → Type 0
IsGivenBy arrays rows (Ok given) =
    (first_fault arrays [] rows ≡ None) × (given ≡ given_by arrays rows) × Fits arrays given
IsGivenBy arrays rows (Err fault) =
    IsUnlessMemory {A = Given} Memory (Err fault) (unless (first_fault arrays [] rows) [])
