-- A record is read byte by byte to the end of a field, and field by field to its own.
--
-- The definition of the next record carries the fields so far and the bytes of the one at hand, so what a byte does is one
-- unfolding of it (`skipped`, `copied`, `field_ended`, `record_ended`), and a field that was read stands behind the fields
-- before it, whatever these are. That a record was read puts it behind those that were reached (`reached_behind`).
-- The values of a record come by fields in front, and are kept by fields behind: one more field behind goes to the values
-- that are there, unless one before it was none (`values_behind`).
use Rattle.std.proofs.Common.{ℕ, zero, suc, get_or, ℤ, List, ◌≡◌, ◌≢◌, ◌+◌, ◌<◌, ◌≤◌, ◌∷◌, ◌++◌, [], map, length, append_assoc, Bool, true, false}
use Rattle.std.proofs.Common.{Option, Some, None, Result, Ok, Err, refl, sym, ◌∙◌, ap, arith, inl, inr}
use Rattle.std.specs.Prelude.{is_some, ok_or, slice_index_or}
use Rattle.std.proofs.lemmas.Bool.{cases_Bool, and_parts, eqb-true}
use Rattle.std.proofs.lemmas.List.{length-map, length_push, map-append}
use Rattle.csv.specs.declared.parser.Action.TheVariants as act
use Rattle.csv.specs.declared.parser.Config.{Config}
use Rattle.csv.specs.declared.parser.State.{State}
use Rattle.csv.specs.declared.parser.State.TheVariants as st
use Rattle.csv.specs.Machine.{Read, ends_at_end, next_record, step}
use Rattle.sanlp.specs.declared.nest.ArrayDecl.{ArrayDecl}
use Rattle.csv.specs.Reading.{Reached, default_config, is_bom, strip_bom}
use Rattle.array_data.specs.declared.error.DataError.{DataError}
use Rattle.array_data.specs.declared.error.DataError.TheVariants.{NotANumber, UnknownArray}
use Rattle.array_data.specs.declared.record.Values.{Values}
use Rattle.array_data.specs.Data.{Record, array_named, value_of, wanted_count, without_blanks}
use Rattle.array_data.specs.Judging.{Given, before, held, placed, taken, values_from, values_taken}
use Rattle.array_data.specs.Reading.{AreOf, IsLeft, Text, record_left}

-- A byte

pub skipped : (s t : State) (c : ℕ) (fields : List (List ℕ)) (field rest : List ℕ)
    → (t, act.Skip) ≡ step default_config s c
    → next_record default_config s fields field (c ∷ rest) ≡ next_record default_config t fields field rest
unfolding next_record
skipped s t c fields field rest e = rw (sym e) refl

pub copied : (s t : State) (c : ℕ) (fields : List (List ℕ)) (field rest : List ℕ)
    → (t, act.Copy) ≡ step default_config s c
    → next_record default_config s fields field (c ∷ rest)
    ≡ next_record default_config t fields (field ++ c ∷ []) rest
unfolding next_record
copied s t c fields field rest e = rw (sym e) refl

pub field_ended : (s t : State) (c : ℕ) (fields : List (List ℕ)) (field rest : List ℕ)
    → (t, act.EndField) ≡ step default_config s c
    → next_record default_config s fields field (c ∷ rest)
    ≡ next_record default_config t (fields ++ field ∷ []) [] rest
unfolding next_record
field_ended s t c fields field rest e = rw (sym e) refl

pub record_ended : (s t : State) (c : ℕ) (fields : List (List ℕ)) (field rest : List ℕ)
    → (t, act.EndRecord) ≡ step default_config s c
    → next_record default_config s fields field (c ∷ rest) ≡ Some (fields ++ field ∷ [], t, rest)
unfolding next_record
record_ended s t c fields field rest e = rw (sym e) refl

-- the end of the data, in a record and outside
pub ended_in : (s : State) (fields : List (List ℕ)) (field : List ℕ) → true ≡ ends_at_end s
    → next_record default_config s fields field [] ≡ Some (fields ++ field ∷ [], st.StartRecord, [])
unfolding next_record
ended_in s fields field e = rw (sym e) refl

pub ended_outside : (s : State) (fields : List (List ℕ)) (field : List ℕ) → false ≡ ends_at_end s
    → next_record default_config s fields field [] ≡ None
unfolding next_record
ended_outside s fields field e = rw (sym e) refl

-- The byte order mark

pub behind_mark : (text rest : List ℕ) → text ≡ 239 ∷ 187 ∷ 191 ∷ rest → rest ≡ strip_bom text
unfolding strip_bom
behind_mark text rest e = rw e refl

pub no_mark : (text : List ℕ) → ((rest : List ℕ) → text ≢ 239 ∷ 187 ∷ 191 ∷ rest) → text ≡ strip_bom text
unfolding strip_bom
no_mark [] h = refl
no_mark (a ∷ []) h = refl
no_mark (a ∷ b ∷ []) h = refl
no_mark (a ∷ b ∷ c ∷ rest) h = elim (cases_Bool (is_bom a b c)) [
  | inl mark ↦
      let first = and_parts _ _ mark in
      let both = and_parts _ _ first.0 in
      let one : a ≡ 239 = eqb-true a 239 both.0 in
      let two : b ≡ 187 = eqb-true b 187 both.1 in
      let three : c ≡ 191 = eqb-true c 191 first.1 in
      absurd (h rest cc)
  | inr other ↦ rw other refl
]

-- Fields

-- one more field, whatever stands before it
pub left_on : (read : Option Read) (text new : Text) (last : Option Bool) (fields more : List (List ℕ)) (field : List ℕ)
    → read ≡ record_left text (fields ++ more)
    → ((all : List (List ℕ)) → IsLeft (record_left text all) last new (all ++ field ∷ []))
    → IsLeft read last new (fields ++ (more ++ field ∷ []))
left_on read text new last fields more field e h =
    let a = append_assoc fields more (field ∷ []) in rw (e, sym a) (h (fields ++ more))

-- Records

-- one more record that was read
pub reached_behind : (cfg : Config) (s : State) (text : List ℕ) (seen : List Record) (t : State) (left : List ℕ) (p : Read)
    → Reached cfg s text seen t left → next_record cfg t [] [] left ≡ Some p
    → Reached cfg s text (seen ++ p.0 ∷ []) p.1 p.2
unfolding Reached
reached_behind cfg s text [] t left p h e = (p, rw (h.0, h.1) e, refl, (refl, refl))
reached_behind cfg s text (row ∷ seen) t left p h e =
    (h.0, h.1, h.2, reached_behind cfg h.0.1 h.0.2 seen t left p h.3 e)

-- Values

-- the values with one more behind them, which is that of the field at this place
abbrev pub with_value : ℕ → ℕ → Option ℤ → Result (List ℤ) DataError → Result (List ℤ) DataError
with_value number at o (Err fault) = Err fault
with_value number at None (Ok values) = Err (NotANumber number at)
with_value number at (Some value) (Ok values) = Ok (values ++ value ∷ [])

before_with_value : (number at : ℕ) (first : Result ℤ DataError) (o : Option ℤ) (r : Result (List ℤ) DataError)
    → before first (with_value number at o r) ≡ with_value number at o (before first r)
before_with_value number at (Err fault) o r = refl
before_with_value number at (Ok value) o (Err fault) = refl
before_with_value number at (Ok value) None (Ok values) = refl
before_with_value number at (Ok value) (Some last) (Ok values) = refl

with_value_first : (number at : ℕ) (o : Option ℤ)
    → before (ok_or o (NotANumber number at)) (Ok []) ≡ with_value number at o (Ok [])
with_value_first number at None = refl
with_value_first number at (Some value) = refl

values_from_behind : (number at : ℕ) (fields : List (List ℕ)) (field : List ℕ)
    → values_from number at (fields ++ field ∷ [])
    ≡ with_value number (at + length fields) (value_of field) (values_from number at fields)
values_from_behind number at [] field =
    let here : at + 0 ≡ at = omega arith in
    rw here (with_value_first number at (value_of field))
values_from_behind number at (first ∷ fields) field =
    let there : at + 1 + length fields ≡ at + length (first ∷ fields) = omega arith in
    ap (before (ok_or (value_of first) (NotANumber number at))) (values_from_behind number (at + 1) fields field)
    ∙ before_with_value number (at + 1 + length fields) (ok_or (value_of first) (NotANumber number at)) (value_of field)
    (values_from number (at + 1) fields)
    ∙ ap (λ (n : ℕ). with_value number n (value_of field) (values_from number at (first ∷ fields))) there

-- of one more field
pub values_behind : (number : ℕ) (fields : List (List ℕ)) (field : List ℕ)
    → values_from number 1 (map without_blanks (fields ++ field ∷ []))
    ≡ with_value number (length fields + 1) (value_of (without_blanks field))
    (values_from number 1 (map without_blanks fields))
values_behind number fields field =
    let at : 1 + length (map without_blanks fields) ≡ length fields + 1 =
    let n = length-map fields without_blanks in omega (arith, n) in
    ap (values_from number 1) (map-append without_blanks fields (field ∷ []))
    ∙ values_from_behind number 1 (map without_blanks fields) (without_blanks field)
    ∙ ap (λ (n : ℕ). with_value number n (value_of (without_blanks field))
    (values_from number 1 (map without_blanks fields))) at

-- what is kept with one more field
pub row_behind : (most : ℕ) (fields : List (List ℕ)) (field : List ℕ) (old new : Values)
    → AreOf most fields old
    → (new.count < 18446744073709551615 → new.count ≡ old.count + 1)
    → (new.count < 18446744073709551615 → new.count ≤ most → (number : ℕ)
    → held number new.values new.fault
    ≡ with_value number new.count (value_of (without_blanks field)) (held number old.values old.fault))
    → AreOf most (fields ++ field ∷ []) new
row_behind most fields field old new are more one = λ few.
    let count = more few in
    let fewer : old.count < 18446744073709551615 = omega (arith, few, count) in
    let was = are fewer in
    let all : new.count ≡ length (fields ++ field ∷ []) =
    let l = length_push fields field in let w = was.0 in omega (arith, count, l, w) in (
      all,
      λ within number.
          let less : old.count ≤ most = omega (arith, within, count) in
          let at : new.count ≡ length fields + 1 = let w = was.0 in omega (arith, count, w) in
          one few within number
          ∙ ap (λ (r : Result (List ℤ) DataError). with_value number new.count (value_of (without_blanks field)) r)
          (was.1 less number)
          ∙ ap (λ (n : ℕ). with_value number n (value_of (without_blanks field))
          (values_from number 1 (map without_blanks fields))) at
          ∙ sym (values_behind number fields field),
    )

-- the three ways of a field: behind one that is none, a value, and none

pub faulty : (number n : ℕ) (o : Option ℤ) (values : List ℤ) (fault : Option ℕ) → is_some fault ≡ true
    → held number values fault ≡ with_value number n o (held number values fault)
faulty number n o values None e = cc e
faulty number n o values (Some at) e = refl

pub valued : (number n : ℕ) (o : Option ℤ) (value : ℤ) (values more : List ℤ) (fault : Option ℕ) → is_some fault ≡ false
    → o ≡ Some value → more ≡ values ++ value ∷ []
    → held number more fault ≡ with_value number n o (held number values fault)
valued number n o value values more None e f g = rw (f, g) refl
valued number n o value values more (Some at) e f g = cc e

pub unvalued : (number n : ℕ) (o : Option ℤ) (values : List ℤ) (fault : Option ℕ) → is_some fault ≡ false → o ≡ None
    → held number values (Some n) ≡ with_value number n o (held number values fault)
unvalued number n o values None e f = rw f refl
unvalued number n o values (Some at) e f = cc e

-- The judgement of a record

-- what is read at a place within a list, whatever stands for places beyond it
pub index_read : {X : Type 0} (xs : List X) (i : ℕ) (x other : X) → i < length xs → x ≡ get_or xs i x
    → x ≡ get_or xs i other
index_read [] i x other within e = absurd (omega arith)
index_read (y ∷ ys) zero x other within e = e
index_read (y ∷ ys) (suc i) x other within e = index_read ys i x other (omega (arith, within)) e

pub taken_unknown : (arrays : List ArrayDecl) (number : ℕ) (name : List ℕ) (more : List (List ℕ)) (given : Given)
    → None ≡ array_named arrays (without_blanks name)
    → taken arrays number (name ∷ more) given ≡ Err (UnknownArray number)
taken_unknown arrays number name more given e = rw (sym e) refl

pub taken_known : (arrays : List ArrayDecl) (number : ℕ) (name : List ℕ) (more : List (List ℕ)) (given : Given) (a : ℕ)
    (is_given : Bool) (r : Result (List ℤ) DataError)
    → Some a ≡ array_named arrays (without_blanks name) → is_given ≡ is_some (slice_index_or given a None)
    → values_taken (wanted_count arrays a) number is_given (name ∷ more) ≡ r
    → taken arrays number (name ∷ more) given ≡ placed given a r
taken_known arrays number name more given a is_given r e f g = rw (sym e) (ap (placed given a) (rw f at g))
