-- Input values as CSV: each record is the name of an `in` or `inout` array, and then its values in row-major order.
use Rattle.std.specs.Prelude.{ℕ, ◌+◌, ◌-◌, ◌==◌, ◌&&◌, ◌||◌, ℤ, pos, neg_ℤ, Bool, false, List, [], ◌∷◌, ◌++◌, map, length, take, drop, find, filter_map, nat_le, not, is_some, is_none, bytes_eq, Option, Some, None, Result, Ok, Err, if◌then◌else◌, slice_get, slice_index_or}
use Rattle.std.specs.Char.{is_ascii_digit}
use Rattle.std.specs.List.{list_all, prefix_len, suffix_len, position_from, range_with_len}
use Rattle.std.specs.Option.{option_map, option_map_or, option_or}
use Rattle.csv.specs.Reading.{default_config, records, strip_bom}
use Rattle.plain_data.specs.Digits.{decimal_number}
use Rattle.sanlp.specs.declared.nest.ArrayDecl.{ArrayDecl}
use Rattle.sanlp.specs.declared.nest.Inputs.{Inputs}
use Rattle.sanlp.specs.declared.nest.Nest.{Nest}
use Rattle.sanlp.specs.Cells.{cell_count, is_input}
use Rattle.sanlp.specs.WellFormed.{input_numbers}
use Rattle.array_data.specs.declared.error.DataError.{DataError}
use Rattle.array_data.specs.declared.error.DataError.TheVariants.{UnknownArray, Twice, Missing, Count, NotANumber}

-- Records and fields

-- a record is the list of its fields
abbrev pub Record : Type 0
Record = List (List ℕ)

-- the records of the data by the rules of the crate `csv`, after a byte order mark is dropped
abbrev pub records_of : List ℕ → List Record
records_of bytes = records default_config (strip_bom bytes)

-- a space or a tab
abbrev pub is_blank : ℕ → Bool
is_blank b = (b == 32) || (b == 9)

-- a field without the blanks at its start, and at its end
abbrev pub without_first_blanks : List ℕ → List ℕ
without_first_blanks field = drop (prefix_len is_blank field) field

abbrev pub without_last_blanks : List ℕ → List ℕ
without_last_blanks field = take (length field - suffix_len is_blank field) field

abbrev pub without_blanks : List ℕ → List ℕ
without_blanks field = without_last_blanks (without_first_blanks field)

-- the first field of a record
abbrev pub name_of : Record → List ℕ
name_of row = without_blanks (slice_index_or row 0 [])

-- the fields behind the first
abbrev pub value_fields : Record → List (List ℕ)
value_fields row = map without_blanks (drop 1 row)

-- Values

-- decimal digits, at least one
abbrev pub is_digits : List ℕ → Bool
is_digits text = not (length text == 0) && list_all is_ascii_digit text

-- what digits are without a sign, up to 2 ^ 63 - 1, and behind a `-`, up to 2 ^ 63
abbrev pub plain_value : List ℕ → Option ℤ
plain_value digits =
    if is_digits digits && nat_le (decimal_number digits) 9223372036854775807
    then Some (pos (decimal_number digits)) else None

abbrev pub negated_value : List ℕ → Option ℤ
negated_value digits =
    if is_digits digits && nat_le (decimal_number digits) 9223372036854775808
    then Some (neg_ℤ (pos (decimal_number digits))) else None

-- the value of a field, if it is one: an optional `-`, then decimal digits, within 64 signed bits
abbrev pub value_of : List ℕ → Option ℤ
value_of [] = None
value_of (b ∷ bs) = if b == 45 then negated_value bs else plain_value (b ∷ bs)

abbrev pub values_in : Record → List ℤ
values_in row = filter_map value_of (value_fields row)

-- The refusals. Records count from 1, and so do the value fields of a record.

-- the number of the `in` or `inout` array of this name
abbrev pub array_named : List ArrayDecl → List ℕ → Option ℕ
array_named arrays name =
    position_from (λ array. is_input array.kind && bytes_eq array.name name) 0 arrays

-- the first record that names array a
abbrev pub record_of : List ArrayDecl → List Record → ℕ → Option Record
record_of arrays rows a =
    find (λ row. option_map_or (λ b. b == a) (array_named arrays (name_of row)) false) rows

-- how many values array a takes
abbrev pub wanted_count : List ArrayDecl → ℕ → ℕ
wanted_count arrays a = option_map_or (λ array. cell_count array.extents) (slice_get arrays a) 0

-- the first field, from place `at` on, that is no value
abbrev pub field_fault : ℕ → ℕ → List (List ℕ) → Option DataError
field_fault number at fields =
    option_map (NotANumber number) (position_from (λ field. is_none (value_of field)) at fields)

-- what is wrong with the values of a record that names array a, where `earlier` records stand before it
abbrev pub values_fault : List ArrayDecl → List Record → Record → ℕ → Option DataError
values_fault arrays earlier row a =
    let number = length earlier + 1 in
    let got = length (value_fields row) in
    if is_some (record_of arrays earlier a) then Some (Twice number)
    else if got == wanted_count arrays a then field_fault number 1 (value_fields row)
    else Some (Count number got (wanted_count arrays a))

-- what is wrong with a record
abbrev pub record_fault : List ArrayDecl → List Record → Record → Option DataError
record_fault arrays earlier row =
    option_map_or (values_fault arrays earlier row) (array_named arrays (name_of row))
    (Some (UnknownArray (length earlier + 1)))

-- the first fault of the records behind the earlier ones
abbrev pub first_fault : List ArrayDecl → List Record → List Record → Option DataError
first_fault arrays earlier [] = None
first_fault arrays earlier (row ∷ rows) =
    option_or (record_fault arrays earlier row) (first_fault arrays (earlier ++ row ∷ []) rows)

-- the first `in` or `inout` array in declaration order that no record names
abbrev pub missing_array : List ArrayDecl → List Record → Option ℕ
missing_array arrays rows = find (λ a. is_none (record_of arrays rows a)) (input_numbers arrays)

-- why the records are refused, if they are
abbrev pub fault_of : List ArrayDecl → List Record → Option DataError
fault_of arrays rows =
    option_or (first_fault arrays [] rows) (option_map Missing (missing_array arrays rows))

-- the values of each array, and none for an array that is no input
abbrev pub lists_of : List ArrayDecl → List Record → List (List ℤ)
lists_of arrays rows =
    map (λ a. option_map_or values_in (record_of arrays rows a) [])
    (range_with_len 0 (length arrays))

abbrev pub unless : {A : Type 0} → Option DataError → A → Result A DataError
unless None value = Ok value
unless (Some fault) value = Err fault

-- the values of each array, or why the records are refused
abbrev pub lists_or_fault : List ArrayDecl → List Record → Result (List (List ℤ)) DataError
lists_or_fault arrays rows = unless (fault_of arrays rows) (lists_of arrays rows)

-- the inputs of a nest, or why the records are refused
abbrev pub inputs_of : Nest → List Record → Result Inputs DataError
inputs_of n rows = unless (fault_of n.arrays rows) (record { arrays = lists_of n.arrays rows })
