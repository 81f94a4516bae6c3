-- How the fields of the data are read, one after the other.
use Rattle.std.specs.Prelude.{◌≡◌, ◌≢◌, ◌<◌, ◌≤◌, ◌++◌, ℕ, Bool, true, false, List, [], map, length, Option, Some, None, Result, Ok, Err}
use Rattle.csv.specs.Machine.{Read, next_record}
use Rattle.csv.specs.Reading.{default_config}
use Rattle.csv.specs.declared.parser.Action.{Action}
use Rattle.csv.specs.declared.parser.Action.TheVariants as act
use Rattle.csv.specs.declared.parser.State.{State}
use Rattle.csv.specs.declared.parser.State.TheVariants as st
use Rattle.array_data.specs.Data.{Record, without_blanks}
use Rattle.array_data.specs.Judging.{Given, held, values_from}
use Rattle.array_data.specs.declared.error.DataError.{DataError}
use Rattle.array_data.specs.declared.error.DataError.TheVariants.{Memory}
use Rattle.array_data.specs.declared.record.Values.{Values}
use Rattle.array_data.specs.declared.reader.Reader.{Reader}
use Rattle.array_data.specs.declared.reader.Action.{Action as OurAction}
use Rattle.array_data.specs.declared.reader.Action.TheVariants as our
use Rattle.array_data.specs.declared.reader.Place.{Place}
use Rattle.array_data.specs.declared.reader.Place.TheVariants as at

-- the state of the crate `csv` for a place: with its defaults there are no escapes and no comments
abbrev pub state_of : Place → State
state_of at.StartRecord = st.StartRecord
state_of at.StartField = st.StartField
state_of at.InField = st.InField
state_of at.InQuoted = st.InQuoted
state_of at.AfterQuote = st.AfterQuote
state_of at.AfterCr = st.AfterCr

abbrev pub action_of : OurAction → Action
action_of our.Skip = act.Skip
action_of our.Copy = act.Copy
action_of our.EndField = act.EndField
action_of our.EndRecord = act.EndRecord

-- what is left of the data, and the state that it is read in
pub record Text : Type 0 where
  pub state : State
  pub bytes : List ℕ

abbrev pub text_of : Reader → Text
text_of reader = record { state = state_of reader.place; bytes = reader.bytes.now }

-- the next record, of which these fields were read already
abbrev pub record_left : Text → List (List ℕ) → Option Read
record_left text fields = next_record default_config text.state fields [] text.bytes

-- what a record is that has these fields so far, by whether the last of them ended it, if there is a record
abbrev pub IsLeft : Option Read → Option Bool → Text → List (List ℕ) → Type 0
IsLeft read (Some false) text fields = read ≡ record_left text fields
IsLeft read (Some true) text fields = read ≡ Some (fields, text.state, text.bytes)
IsLeft read None text fields = read ≡ None

-- what is kept of these fields, unless they are too many to be counted: their number, and where there are at most `most`, their
-- values or the first that is none
abbrev pub AreOf : ℕ → List (List ℕ) → Values → Type 0
AreOf most fields row = row.count < 18446744073709551615 → (row.count ≡ length fields)
    × (row.count ≤ most → (number : ℕ)
    → held number row.values row.fault ≡ values_from number 1 (map without_blanks fields))

-- a record was read to its end behind these fields, and kept, if there is a record
abbrev pub AreRead : ℕ → Option Read → Option Values → Text → List (List ℕ) → Type 0
AreRead most read None text fields = read ≡ None
AreRead most read (Some row) text fields = (more : List (List ℕ))
    × (read ≡ Some (fields ++ more, text.state, text.bytes)) × AreOf most more row

-- a record is read and judged, if there is one, unless memory ran out
abbrev pub TakesNext : Result Bool DataError → Option Read → Text → Given → Given
    → (Record → Result Given DataError) → Type 0
TakesNext (Ok true) read text old new judged = (row : Record)
    × (read ≡ Some (row, text.state, text.bytes)) × (judged row ≡ Ok new)
TakesNext (Ok false) read text old new judged = (read ≡ None) × (new ≡ old)
TakesNext (Err fault) read text old new judged = fault ≢ Memory
    → (next : Read) × (read ≡ Some next) × (judged next.0 ≡ Err fault)
