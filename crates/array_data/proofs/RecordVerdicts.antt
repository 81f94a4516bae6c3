-- Records that are judged in turn are judged as the definition of the inputs says.
--
-- The code judges a record by the values given so far, the definition by the records before it. `Agrees` compares both:
-- there is a value that is right and no fault, or the same fault. It is kept from fields to records, and along the
-- records: after each the values given are those of the records so far and fit their arrays (`IsAfter`), since a record
-- that is taken changes the place of one array alone, which had none before (`given_more`). The first fault is the
-- first record's that isn't taken, whatever follows it (`first_refused`). Arrays without a record are looked for last
-- (`collected_are`).
use Rattle.std.proofs.Common.{ℕ, zero, suc, ℤ, List, ◌≡◌, ◌≢◌, ◌+◌, ◌<◌, ◌==◌, ◌∷◌, ◌++◌, [], Bool, true, false}
use Rattle.std.proofs.Common.{cond, map, length, Option, Some, None, Result, Ok, Err, refl, sym, ◌∙◌, ap, arith, inl}
use Rattle.std.proofs.Common.{inr, append_assoc}
use Rattle.std.specs.Prelude.{IfOk, replicate, filter_map, find, is_some, is_none, ok_or, slice_get, slice_set}
use Rattle.std.specs.Prelude.{slice_index_or, option_map, if◌then◌else◌}
use Rattle.std.specs.Option.{option_map_or, option_or}
use Rattle.std.specs.List.{cons_option, position_from, range_with_len}
use Rattle.std.proofs.lemmas.Bool.{cases_Bool, and_parts, eqb-true, ne_eqb, eq-eqb}
use Rattle.std.proofs.lemmas.List.{append-nil}
use Rattle.std.proofs.lemmas.List.Folds.{find-append}
use Rattle.std.proofs.lemmas.List.FromFn.{get_or-map-range_with_len, length-map-range_with_len}
use Rattle.sanlp.specs.declared.nest.ArrayDecl.{ArrayDecl}
use Rattle.sanlp.specs.Cells.{cell_count, is_input, input_count}
use Rattle.sanlp.specs.WellFormed.{numbers_from}
use Rattle.sanlp.proofs.Lists.{map-range_with_len_same, map-range_with_len_replicate}
use Rattle.plain_data.specs.Answers.{IsUnlessMemory}
use Rattle.plain_data.proofs.Options.{option_cases, is_some-false}
use Rattle.array_data.specs.declared.error.DataError.{DataError}
use Rattle.array_data.specs.declared.error.DataError.TheVariants.{UnknownArray, Missing, NotANumber, Memory}
use Rattle.array_data.specs.Data.{Record, array_named, field_fault, first_fault, lists_or_fault, name_of, record_fault}
use Rattle.array_data.specs.Data.{record_of, unless, value_fields, value_of, values_fault, values_in, wanted_count}
use Rattle.array_data.specs.Judging.{Fits, Given, before, collected, given_by, placed, taken, values_from, values_taken}

-- a result and a fault agree: there is a value of which P holds and no fault, or the same fault
abbrev pub Agrees : {A : Type 0} → Result A DataError → Option DataError → (A → Type 0) → Type 0
Agrees (Ok value) None P = P value
Agrees (Ok value) (Some fault) P = ⊥
Agrees (Err fault) None P = ⊥
Agrees (Err fault) (Some other) P = other ≡ fault

agrees_if : {A : Type 0} (P : A → Type 0) (b : Bool) (r s : Result A DataError) (o q : Option DataError)
    → (b ≡ true → Agrees r o P) → (b ≡ false → Agrees s q P) → Agrees (if b then r else s) (if b then o else q) P
agrees_if P true r s o q yes_case no_case = yes_case refl
agrees_if P false r s o q yes_case no_case = no_case refl

agrees_ok : {A : Type 0} (P : A → Type 0) (r : Result A DataError) (o : Option DataError) (value : A) → r ≡ Ok value
    → Agrees r o P → (o ≡ None) × P value
agrees_ok P (Ok x) None value e h = let same : x ≡ value = cc in (refl, rw same at h)
agrees_ok P (Ok x) (Some fault) value e h = absurd h
agrees_ok P (Err fault) o value e h = cc e

agrees_err : {A : Type 0} (P : A → Type 0) (r : Result A DataError) (o : Option DataError) (fault : DataError)
    → r ≡ Err fault → Agrees r o P → o ≡ Some fault
agrees_err P (Ok x) o fault e h = cc e
agrees_err P (Err other) None fault e h = absurd h
agrees_err P (Err other) (Some third) fault e h =
    let same : other ≡ fault = cc in ap (λ (f : DataError). Some f) (h ∙ same)

agrees_then : {A : Type 0} (P Q : A → Type 0) (r : Result A DataError) (o : Option DataError)
    → ((value : A) → P value → Q value) → Agrees r o P → Agrees r o Q
agrees_then P Q (Ok value) None f h = f value h
agrees_then P Q (Ok value) (Some fault) f h = h
agrees_then P Q (Err fault) None f h = h
agrees_then P Q (Err fault) (Some other) f h = h

-- what holds of the value that is wanted holds of the one that is given
pub gives_if_ok : {A : Type 0} (P : A → Type 0) (r s : Result A DataError) → IsUnlessMemory Memory r s → IfOk s P
    → IfOk r P
gives_if_ok P (Ok value) s e h = rw e at h
gives_if_ok P (Err fault) s e h = tt

-- The values of a record

-- these are all values of the fields
abbrev pub AreValues : List (List ℕ) → List ℤ → Type 0
AreValues fields values = (values ≡ filter_map value_of fields) × (length values ≡ length fields)

one_more : (number at : ℕ) (o : Option ℤ) (r : Result (List ℤ) DataError) (q : Option ℕ) (all : List ℤ) (n : ℕ)
    → Agrees r (option_map (NotANumber number) q) (λ values. (values ≡ all) × (length values ≡ n))
    → Agrees (before (ok_or o (NotANumber number at)) r) (option_map (NotANumber number) (cond (is_none o) (Some at) q))
    (λ values. (values ≡ cons_option o all) × (length values ≡ suc n))
one_more number at None r q all n h = refl
one_more number at (Some value) (Ok values) None all n h = (ap (λ (vs : List ℤ). value ∷ vs) h.0, ap suc h.1)
one_more number at (Some value) (Ok values) (Some place) all n h = absurd h
one_more number at (Some value) (Err fault) None all n h = absurd h
one_more number at (Some value) (Err fault) (Some place) all n h = h

values_agree : (number at : ℕ) (fields : List (List ℕ))
    → Agrees (values_from number at fields) (field_fault number at fields) (AreValues fields)
values_agree number at [] = (refl, refl)
values_agree number at (field ∷ fields) =
    one_more number at (value_of field) (values_from number (at + 1) fields)
    (position_from (λ f. is_none (value_of f)) (at + 1) fields) (filter_map value_of fields) (length fields)
    (values_agree number (at + 1) fields)

-- the values of the first record of array a
abbrev pub AreTaken : List ArrayDecl → List Record → Record → ℕ → List ℤ → Type 0
AreTaken arrays earlier row a values =
    (is_some (record_of arrays earlier a) ≡ false) × (values ≡ values_in row) × (length values ≡ wanted_count arrays a)

values_taken_agree : (arrays : List ArrayDecl) (earlier : List Record) (row : Record) (a : ℕ)
    → Agrees (values_taken (wanted_count arrays a) (length earlier + 1) (is_some (record_of arrays earlier a)) row)
    (values_fault arrays earlier row a) (AreTaken arrays earlier row a)
values_taken_agree arrays earlier row a =
    let fields = value_fields row in
    let number = length earlier + 1 in
    let cells = wanted_count arrays a in
    let P = AreTaken arrays earlier row a in
    agrees_if P (is_some (record_of arrays earlier a)) _ _ _ _ (λ again. refl)
    (λ first. agrees_if P (length fields == cells) (values_from number 1 fields) _ (field_fault number 1 fields) _
    (λ same. agrees_then (AreValues fields) P _ _
    (λ values are. (first, are.0, are.1 ∙ eqb-true (length fields) cells same)) (values_agree number 1 fields))
    (λ other. refl))

-- The values at the numbers of the arrays

-- two functions that differ at one number alone
changed_at : {X : Type 0} (f g : ℕ → X) (s n i j : ℕ) → s + i ≡ j → i < n → ((b : ℕ) → b ≢ j → f b ≡ g b)
    → map f (range_with_len s n) ≡ slice_set (map g (range_with_len s n)) i (f j)
changed_at f g s zero i j at within same = absurd (omega arith)
changed_at f g s (suc n) zero j at within same =
    let here : s ≡ j = omega (arith, at) in
    let first = ap f here in
    let more = map-range_with_len_same f g (s + 1) n (λ b above below. same b (omega (arith, here))) in cc
changed_at f g s (suc n) (suc i) j at within same =
    let first = same s (omega (arith, at)) in
    let more = changed_at f g (s + 1) n i j (omega (arith, at)) (omega arith) same in cc

-- which record is that of an array after one more, which names array a

names_one : (arrays : List ArrayDecl) (row : Record) (a b : ℕ) → array_named arrays (name_of row) ≡ Some a
    → find (λ r. option_map_or (λ c. c == b) (array_named arrays (name_of r)) false) (row ∷ [])
    ≡ cond (a == b) (Some row) None
names_one arrays row a b named = rw named refl

option_or-none : {X : Type 0} (o : Option X) → option_or o None ≡ o
option_or-none None = refl
option_or-none (Some x) = refl

is_some-map : {X Y : Type 0} (f : X → Y) (o : Option X) → is_some (option_map f o) ≡ is_some o
is_some-map f None = refl
is_some-map f (Some x) = refl

record_of_other : (arrays : List ArrayDecl) (earlier : List Record) (row : Record) (a b : ℕ)
    → array_named arrays (name_of row) ≡ Some a → b ≢ a
    → record_of arrays (earlier ++ row ∷ []) b ≡ record_of arrays earlier b
record_of_other arrays earlier row a b named other =
    let differ : (a == b) ≡ false = ne_eqb a b (λ e. other (sym e)) in
    find-append _ earlier (row ∷ [])
    ∙ ap (option_or (record_of arrays earlier b)) (names_one arrays row a b named ∙ rw differ refl)
    ∙ option_or-none (record_of arrays earlier b)

record_of_this : (arrays : List ArrayDecl) (earlier : List Record) (row : Record) (a : ℕ)
    → array_named arrays (name_of row) ≡ Some a → is_some (record_of arrays earlier a) ≡ false
    → record_of arrays (earlier ++ row ∷ []) a ≡ Some row
record_of_this arrays earlier row a named first =
    let same : (a == a) ≡ true = eq-eqb a a refl in
    let none = is_some-false (record_of arrays earlier a) first in
    find-append _ earlier (row ∷ [])
    ∙ ap (λ (o : Option Record).
    option_or o (find (λ r. option_map_or (λ c. c == a) (array_named arrays (name_of r)) false) (row ∷ []))) none
    ∙ names_one arrays row a a named ∙ rw same refl

given_more : (arrays : List ArrayDecl) (earlier : List Record) (row : Record) (a : ℕ)
    → array_named arrays (name_of row) ≡ Some a → a < length arrays → is_some (record_of arrays earlier a) ≡ false
    → given_by arrays (earlier ++ row ∷ []) ≡ slice_set (given_by arrays earlier) a (Some (values_in row))
given_more arrays earlier row a named within first =
    let f : ℕ → Option (List ℤ) = λ b. option_map values_in (record_of arrays (earlier ++ row ∷ []) b) in
    let g : ℕ → Option (List ℤ) = λ b. option_map values_in (record_of arrays earlier b) in
    changed_at f g 0 (length arrays) a a (omega arith) within
    (λ b other. ap (option_map values_in) (record_of_other arrays earlier row a b named other))
    ∙ ap (λ (o : Option Record). slice_set (given_by arrays earlier) a (option_map values_in o))
    (record_of_this arrays earlier row a named first)

-- the array that is found by its name
found_at : {X : Type 0} (test : X → Bool) (xs : List X) (s j : ℕ) → position_from test s xs ≡ Some j
    → (i : ℕ) × (s + i ≡ j) × (i < length xs) × ((x : X) × (slice_get xs i ≡ Some x) × (test x ≡ true))
found_at test [] s j e = cc e
found_at test (x ∷ xs) s j e = elim (cases_Bool (test x)) [
  | inl passes ↦ let here : ◌≡◌ {A = Option ℕ} (Some s) (Some j) =
      rw passes at e in let same : s ≡ j = cc in (0, omega (arith, same), omega arith, (x, refl, passes))
  | inr fails ↦ let k =
      found_at test xs (s + 1) j (rw fails at e) in let at =
      k.1 in let within = k.2 in (suc k.0, omega (arith, at), omega (arith, within), k.3)
]

fits_more : (arrays : List ArrayDecl) (given : Given) (i : ℕ) (array : ArrayDecl) (values : List ℤ)
    → slice_get arrays i ≡ Some array → is_input array.kind ≡ true → length values ≡ cell_count array.extents
    → Fits arrays given → Fits arrays (slice_set given i (Some values))
fits_more [] given i array values there reads count h = tt
fits_more (x ∷ arrays) [] i array values there reads count h = absurd h
fits_more (x ∷ arrays) (Some old ∷ given) zero array values there reads count h =
    let same : x ≡ array = cc in rw same (reads, count, h.2)
fits_more (x ∷ arrays) (None ∷ given) zero array values there reads count h =
    let same : x ≡ array = cc in rw same (reads, count, h)
fits_more (x ∷ arrays) (Some old ∷ given) (suc i) array values there reads count h =
    (h.0, h.1, fits_more arrays given i array values there reads count h.2)
fits_more (x ∷ arrays) (None ∷ given) (suc i) array values there reads count h =
    fits_more arrays given i array values there reads count h

-- One more record

abbrev pub IsAfter : List ArrayDecl → List Record → Given → Type 0
IsAfter arrays rows given = (given ≡ given_by arrays rows) × Fits arrays given

placed_agrees : (P : List ℤ → Type 0) (Q : Given → Type 0) (given : Given) (a : ℕ) (r : Result (List ℤ) DataError)
    (o : Option DataError)
    → ((values : List ℤ) → P values → Q (slice_set given a (Some values))) → Agrees r o P
    → Agrees (placed given a r) o Q
placed_agrees P Q given a (Ok values) None f h = f values h
placed_agrees P Q given a (Ok values) (Some fault) f h = h
placed_agrees P Q given a (Err fault) None f h = h
placed_agrees P Q given a (Err fault) (Some other) f h = h

taken_for : (arrays : List ArrayDecl) (earlier : List Record) (row : Record) (given : Given) (a : ℕ)
    → array_named arrays (name_of row) ≡ Some a → IsAfter arrays earlier given
    → Agrees (placed given a
    (values_taken (wanted_count arrays a) (length earlier + 1) (is_some (slice_index_or given a None)) row))
    (values_fault arrays earlier row a) (IsAfter arrays (earlier ++ row ∷ []))
taken_for arrays earlier row given a named after =
    let k = found_at _ arrays 0 a named in
    let here : k.0 ≡ a = let at = k.1 in omega (arith, at) in
    let there : slice_get arrays a ≡ Some k.3.0 = ap (slice_get arrays) (sym here) ∙ k.3.1 in
    let within : a < length arrays = let below = k.2 in omega (arith, here, below) in
    let values_of : ℕ → Option (List ℤ) = λ b. option_map values_in (record_of arrays earlier b) in
    let start : 0 + a ≡ a = omega arith in
    let old : slice_index_or given a None ≡ values_of a =
    ap (λ (g : Given). slice_index_or g a None) after.0
    ∙ get_or-map-range_with_len values_of 0 (length arrays) a a None within start in
    let is : is_some (slice_index_or given a None) ≡ is_some (record_of arrays earlier a) =
    ap is_some old ∙ is_some-map values_in (record_of arrays earlier a) in
    let count : wanted_count arrays a ≡ cell_count k.3.0.extents = rw there refl in
    rw is (placed_agrees (AreTaken arrays earlier row a) (IsAfter arrays (earlier ++ row ∷ [])) given a _ _
    (λ values are. (
      ap (λ (g : Given). slice_set g a (Some values)) after.0
          ∙ ap (λ (vs : List ℤ). slice_set (given_by arrays earlier) a (Some vs)) are.1
          ∙ sym (given_more arrays earlier row a named within are.0),
      fits_more arrays given a k.3.0 values there (and_parts _ _ k.3.2).0 (are.2 ∙ count) after.1,
    ))
    (values_taken_agree arrays earlier row a))

taken_at : (arrays : List ArrayDecl) (earlier : List Record) (row : Record) (given : Given) (o : Option ℕ)
    → array_named arrays (name_of row) ≡ o → IsAfter arrays earlier given
    → Agrees (option_map_or
    (λ a. placed given a
    (values_taken (wanted_count arrays a) (length earlier + 1) (is_some (slice_index_or given a None)) row)) o
    (Err (UnknownArray (length earlier + 1))))
    (option_map_or (values_fault arrays earlier row) o (Some (UnknownArray (length earlier + 1))))
    (IsAfter arrays (earlier ++ row ∷ []))
taken_at arrays earlier row given None named after = refl
taken_at arrays earlier row given (Some a) named after = taken_for arrays earlier row given a named after

taken_agrees : (arrays : List ArrayDecl) (earlier : List Record) (row : Record) (given : Given)
    → IsAfter arrays earlier given
    → Agrees (taken arrays (length earlier + 1) row given) (record_fault arrays earlier row)
    (IsAfter arrays (earlier ++ row ∷ []))
taken_agrees arrays earlier row given after =
    taken_at arrays earlier row given (array_named arrays (name_of row)) refl after

-- Several records

option_or_assoc : {X : Type 0} (a b c : Option X) → option_or a (option_or b c) ≡ option_or (option_or a b) c
option_or_assoc None b c = refl
option_or_assoc (Some x) b c = refl

first_fault-append : (arrays : List ArrayDecl) (earlier rows more : List Record)
    → first_fault arrays earlier (rows ++ more)
    ≡ option_or (first_fault arrays earlier rows) (first_fault arrays (earlier ++ rows) more)
first_fault-append arrays earlier [] more =
    ap (λ (e : List Record). first_fault arrays e more) (sym (append-nil earlier))
first_fault-append arrays earlier (row ∷ rows) more =
    ap (option_or (record_fault arrays earlier row)) (first_fault-append arrays (earlier ++ row ∷ []) rows more)
    ∙ option_or_assoc (record_fault arrays earlier row) (first_fault arrays (earlier ++ row ∷ []) rows)
    (first_fault arrays ((earlier ++ row ∷ []) ++ rows) more)
    ∙ ap (λ (e : List Record).
    option_or (option_or (record_fault arrays earlier row) (first_fault arrays (earlier ++ row ∷ []) rows))
    (first_fault arrays e more)) (append_assoc earlier (row ∷ []) rows)

-- these records have no fault, and the values are theirs
pub record HaveGiven (arrays : List ArrayDecl) (rows : List Record) (given : Given) : Type 0 where
  pub no_fault : first_fault arrays [] rows ≡ None
  pub after : IsAfter arrays rows given

fits_none : (arrays : List ArrayDecl) → Fits arrays (replicate (length arrays) None)
fits_none [] = tt
fits_none (array ∷ arrays) = fits_none arrays

-- no records have no values
pub none_given : (arrays : List ArrayDecl) → HaveGiven arrays [] (replicate (length arrays) None)
none_given arrays =
    record {
      no_fault = refl;
      after = (
        sym (map-range_with_len_replicate
            (λ a. option_map values_in (record_of arrays [] a)) None 0 (length arrays) (λ a. refl)),
        fits_none arrays,
      );
    }

-- there is a place for each array
pub length-given : (arrays : List ArrayDecl) (rows : List Record) (given : Given) → HaveGiven arrays rows given
    → length given ≡ length arrays
length-given arrays rows given have = ap length have.after.0 ∙ length-map-range_with_len _ 0 (length arrays)

-- one more record that is taken
pub more_given : (arrays : List ArrayDecl) (rows : List Record) (row : Record) (given new : Given)
    → HaveGiven arrays rows given
    → taken arrays (length rows + 1) row given ≡ Ok new → HaveGiven arrays (rows ++ row ∷ []) new
more_given arrays rows row given new have took =
    let k = agrees_ok (IsAfter arrays (rows ++ row ∷ [])) _ _ new took
    (taken_agrees arrays rows row given have.after) in
    record {
      no_fault = first_fault-append arrays [] rows (row ∷ []) ∙ rw (have.no_fault, k.0) refl;
      after = k.1;
    }

-- one more record that is refused, whatever comes after it
pub first_refused : (arrays : List ArrayDecl) (rows : List Record) (row : Record) (rest : List Record) (given : Given)
    (fault : DataError) → HaveGiven arrays rows given
    → taken arrays (length rows + 1) row given ≡ Err fault → first_fault arrays [] (rows ++ row ∷ rest) ≡ Some fault
first_refused arrays rows row rest given fault have refused =
    let k = agrees_err (IsAfter arrays (rows ++ row ∷ [])) _ _ fault refused
    (taken_agrees arrays rows row given have.after) in
    first_fault-append arrays [] rows (row ∷ rest) ∙ rw (have.no_fault, k) refl

-- All arrays

before_unless : (values : List ℤ) (o : Option DataError) (lists : List (List ℤ))
    → before (Ok values) (unless o lists) ≡ unless o (values ∷ lists)
before_unless values None lists = refl
before_unless values (Some fault) lists = refl

-- the lists of the arrays from number s on, where `of` gives the record of each
collected_from : (of : ℕ → Option Record) (s : ℕ) (arrays : List ArrayDecl)
    → collected s arrays (map (λ a. option_map values_in (of a)) (range_with_len s (length arrays)))
    ≡ unless (option_map Missing (find (λ a. is_none (of a)) (numbers_from (λ array. is_input array.kind) s arrays)))
    (map (λ a. option_map_or values_in (of a) []) (range_with_len s (length arrays)))
collected_from of s [] = refl
collected_from of s (array ∷ arrays) =
    let more = collected_from of (s + 1) arrays in
    elim (option_cases (of s)) [
      | inl none ↦ elim (cases_Bool (is_input array.kind)) [
        | inl reads ↦ rw (reads, none, reads) refl
        | inr passed ↦ rw (passed, none, passed, more) (before_unless [] _ _)
      ]
      | inr there ↦ elim (cases_Bool (is_input array.kind)) [
        | inl reads ↦ rw (reads, there.1, more) (before_unless (values_in there.0) _ _)
        | inr passed ↦ rw (passed, there.1, more) (before_unless (values_in there.0) _ _)
      ]
    ]

-- what is collected is what the definition says
pub collected_are : (arrays : List ArrayDecl) (rows : List Record) (given : Given) → HaveGiven arrays rows given
    → collected 0 arrays given ≡ lists_or_fault arrays rows
collected_are arrays rows given have =
    ap (collected 0 arrays) have.after.0 ∙ collected_from (record_of arrays rows) 0 arrays ∙ rw have.no_fault refl

before_lengths : (values : List ℤ) (n : ℕ) (rest : Result (List (List ℤ)) DataError) (counts : List ℕ)
    → length values ≡ n
    → IfOk rest (λ lists. map length lists ≡ counts)
    → IfOk (before (Ok values) rest) (λ lists. map length lists ≡ n ∷ counts)
before_lengths values n (Ok lists) counts e h = cc
before_lengths values n (Err fault) counts e h = tt

-- what is collected has the numbers of cells of the inputs
pub collected_lengths : (a : ℕ) (arrays : List ArrayDecl) (given : Given) → Fits arrays given
    → IfOk (collected a arrays given) (λ lists. map length lists ≡ map input_count arrays)
collected_lengths a [] given h = refl
collected_lengths a (array ∷ arrays) [] h = absurd h
collected_lengths a (array ∷ arrays) (Some values ∷ given) h =
    rw h.0 (before_lengths values (cell_count array.extents) (collected (a + 1) arrays given)
    (map input_count arrays) h.1 (collected_lengths (a + 1) arrays given h.2))
collected_lengths a (array ∷ arrays) (None ∷ given) h = elim (cases_Bool (is_input array.kind)) [
  | inl reads ↦ rw reads tt
  | inr passed ↦ rw passed
      (before_lengths [] 0 (collected (a + 1) arrays given) (map input_count arrays) refl
      (collected_lengths (a + 1) arrays given h))
]
