-- The entries of a column, event by event, and how many there are.
--
-- Going through the events, the entries of a column are written with the event's index, or, for what is read, with the
-- number of fires before it; the entries of the column's values, numbered from 0, are the same ones, by induction along
-- the events with both counts running (`column_entries`). So how many there are is the number of events or of fires.
-- The text of a constant has a comma before each entry but the first, the code writes one behind each but the last, and
-- both are one text (`constant_pieces`).
use Rattle.std.proofs.Common.{◌≡◌, ℕ, suc, ◌+◌, ◌≤◌, List, [], ◌∷◌, ◌++◌, codes, count_by, decimal, length, map, slice_get}
use Rattle.std.proofs.Common.{append_assoc, append-nil, refl, sym, ap, ◌∙◌, arith}
use Rattle.std.specs.List.{concat, enumerate_from, flat_map, join_by}
use Rattle.std.proofs.lemmas.List.{length-map}
use Rattle.net_core.specs.declared.network.Event.{Event}
use Rattle.net_core.specs.declared.network.Event.TheVariants.{Get, Fire, Put}
use Rattle.net_core.specs.Shape.{is_fire}
use Rattle.net_core.proofs.EventCounts.{count_cons}
use Rattle.text_out.specs.Wrote.{Given, Wrote}
use Rattle.vhdl_text.specs.declared.constants.Column.{Column}
use Rattle.vhdl_text.specs.declared.constants.Column.TheVariants.{Op, Arg, Dst, Read}
use Rattle.vhdl_text.specs.Constants.{args_from, column_values, constant_text, dst_of, entry, fires_of, op_of}
use Rattle.vhdl_text.specs.Constants.{slot_text}
use Rattle.vhdl_text.specs.Pieces.{entries_from, entry_comma, event_entries, event_entry, fires_after, head_text}
use Rattle.vhdl_text.specs.Pieces.{tail_text}

-- Numbers of values

args_length : (f : ℕ) (events : List Event) → length (args_from f events) ≡ length events
args_length f [] = refl
args_length f (Get channel slot ∷ events) = ap suc (args_length f events)
args_length f (Fire refs ∷ events) = ap suc (args_length (f + 1) events)
args_length f (Put channel ∷ events) = ap suc (args_length f events)

fires_length : (events : List Event) → length (fires_of events) ≡ count_by is_fire events
fires_length [] = refl
fires_length (Get channel slot ∷ events) = fires_length events
fires_length (Fire refs ∷ events) =
    let more : length (fires_of (Fire refs ∷ events)) ≡ suc (length (fires_of events)) = refl in
    omega (arith, more, fires_length events, count_cons is_fire (Fire refs) events)
fires_length (Put channel ∷ events) = fires_length events

pub arg_length : (events : List Event) → length (column_values Arg events) ≡ length events
arg_length events = length-map (args_from 0 events) decimal ∙ args_length 0 events

pub read_length : (k : ℕ) (events : List Event) → length (column_values (Read k) events) ≡ count_by is_fire events
read_length k events = length-map (fires_of events) (λ refs. slot_text (slice_get refs k)) ∙ fires_length events

-- Entries

op_entries : (i f : ℕ) (events : List Event)
    → event_entries Op i f events ≡ entries_from i (map (λ event. decimal (op_of event)) events)
op_entries i f [] = refl
op_entries i f (event ∷ events) =
    ap (λ (text : List ℕ). event_entry Op i f event ++ text) (op_entries (i + 1) (fires_after f event) events)

dst_entries : (i f : ℕ) (events : List Event)
    → event_entries Dst i f events ≡ entries_from i (map (λ event. decimal (dst_of event)) events)
dst_entries i f [] = refl
dst_entries i f (event ∷ events) =
    ap (λ (text : List ℕ). event_entry Dst i f event ++ text) (dst_entries (i + 1) (fires_after f event) events)

arg_entries : (i f : ℕ) (events : List Event)
    → event_entries Arg i f events ≡ entries_from i (map decimal (args_from f events))
arg_entries i f [] = refl
arg_entries i f (Get channel slot ∷ events) =
    ap (λ (text : List ℕ). event_entry Arg i f (Get channel slot) ++ text) (arg_entries (i + 1) f events)
arg_entries i f (Fire refs ∷ events) =
    ap (λ (text : List ℕ). event_entry Arg i f (Fire refs) ++ text) (arg_entries (i + 1) (f + 1) events)
arg_entries i f (Put channel ∷ events) =
    ap (λ (text : List ℕ). event_entry Arg i f (Put channel) ++ text) (arg_entries (i + 1) f events)

read_entries : (k i f : ℕ) (events : List Event)
    → event_entries (Read k) i f events ≡ entries_from f (map (λ refs. slot_text (slice_get refs k)) (fires_of events))
read_entries k i f [] = refl
read_entries k i f (Get channel slot ∷ events) = read_entries k (i + 1) f events
read_entries k i f (Fire refs ∷ events) =
    ap (λ (text : List ℕ). event_entry (Read k) i f (Fire refs) ++ text) (read_entries k (i + 1) (f + 1) events)
read_entries k i f (Put channel ∷ events) = read_entries k (i + 1) f events

-- event by event the entries of the column's values are written
pub column_entries : (column : Column) (events : List Event)
    → event_entries column 0 0 events ≡ entries_from 0 (column_values column events)
column_entries Op events = op_entries 0 0 events
column_entries Arg events = arg_entries 0 0 events
column_entries Dst events = dst_entries 0 0 events
column_entries (Read k) events = read_entries k 0 0 events

pub fires_few : (f : ℕ) (event : Event) → fires_after f event ≤ f + 1
fires_few f (Get channel slot) = omega arith
fires_few f (Fire refs) = omega arith
fires_few f (Put channel) = omega arith

-- the entry of the next event goes behind what was written, before those of the events that are left
pub entries_next : {W : Type 0} (given : W → Given) {mid new : W} (column : Column) (i f : ℕ) (left later : List Event)
    (event : Event) (all : List ℕ) → left ≡ event ∷ later
    → (given mid).text ++ event_entries column i f left ≡ all
    → Wrote given mid new (event_entry column i f event)
    → (given new).text ++ event_entries column (i + 1) (fires_after f event) later ≡ all
entries_next given {mid} column i f left later event all next before wrote =
    ap (λ (text : List ℕ). text ++ event_entries column (i + 1) (fires_after f event) later) wrote.1
    ∙ append_assoc (given mid).text (event_entry column i f event)
    (event_entries column (i + 1) (fires_after f event) later)
    ∙ ap (λ (events : List Event). (given mid).text ++ event_entries column i f events) (sym next)
    ∙ before

-- The text of a constant

concat_onto : (pieces : List (List ℕ)) (rest : List ℕ) → concat pieces ++ rest ≡ concat (pieces ++ rest ∷ [])
concat_onto [] rest = sym (append-nil rest)
concat_onto (piece ∷ pieces) rest =
    append_assoc piece (concat pieces) rest ∙ ap (λ (text : List ℕ). piece ++ text) (concat_onto pieces rest)

-- a separator before each item but the first, or behind each but the last
module _ {X : Type 0} (f : X → List ℕ) (sep : List ℕ) where
  abbrev separated : List X → List ℕ
  separated xs = flat_map (λ x. f x ++ sep) xs

  joined_on : (xs : List X) (y : X) → flat_map (λ x. sep ++ f x) (xs ++ y ∷ []) ≡ sep ++ (separated xs ++ f y)
  joined_on [] y = append-nil (sep ++ f y)
  joined_on (x ∷ xs) y =
      ap (λ (text : List ℕ). (sep ++ f x) ++ text) (joined_on xs y)
      ∙ append_assoc sep (f x) (sep ++ (separated xs ++ f y))
      ∙ ap (λ (text : List ℕ). sep ++ text)
      (sym (append_assoc (f x) sep (separated xs ++ f y)) ∙ sym (append_assoc (f x ++ sep) (separated xs) (f y)))

  joined : (xs : List X) (y : X) → join_by f sep (xs ++ y ∷ []) ≡ separated xs ++ f y
  joined [] y = append-nil (f y)
  joined (x ∷ xs) y =
      ap (λ (text : List ℕ). f x ++ text) (joined_on xs y)
      ∙ sym (append_assoc (f x) sep (separated xs ++ f y))
      ∙ sym (append_assoc (f x ++ sep) (separated xs) (f y))

numbered_last : {X : Type 0} (i : ℕ) (xs : List X) (y : X) (k : ℕ) → i + length xs ≡ k
    → enumerate_from i (xs ++ y ∷ []) ≡ enumerate_from i xs ++ (k, y) ∷ []
numbered_last i [] y k sum = let same : i ≡ k = omega arith in rw same refl
numbered_last i (x ∷ xs) y k sum =
    ap (λ (rest : List (ℕ × _)). (i, x) ∷ rest) (numbered_last (i + 1) xs y k (omega arith))

with_commas : (numbered : List (ℕ × List ℕ)) → separated entry (codes ", ") numbered ≡ flat_map entry_comma numbered
with_commas [] = refl
with_commas ((n, value) ∷ rest) =
    ap (λ (text : List ℕ). text ++ separated entry (codes ", ") rest)
    (concat_onto (decimal n ∷ codes " => " ∷ value ∷ []) (codes ", "))
    ∙ ap (λ (text : List ℕ). entry_comma (n, value) ++ text) (with_commas rest)

-- the entries of an aggregate, the last with this index
entries_joined : (values : List (List ℕ)) (last : List ℕ)
    → join_by entry (codes ", ") (enumerate_from 0 (values ++ last ∷ []))
    ≡ entries_from 0 values ++ entry (length values, last)
entries_joined values last =
    ap (join_by entry (codes ", ")) (numbered_last 0 values last (length values) (omega arith))
    ∙ joined entry (codes ", ") (enumerate_from 0 values) (length values, last)
    ∙ ap (λ (text : List ℕ). text ++ entry (length values, last)) (with_commas (enumerate_from 0 values))

-- a constant's text is its head, its entries and its tail
pub constant_pieces : (name type : List ℕ) (values : List (List ℕ)) (last : List ℕ)
    → constant_text name type values last
    ≡ head_text name type (length values) ++ (entries_from 0 values ++ tail_text (length values) last)
constant_pieces name type values last =
    let k = length values in
    let entries = entries_from 0 values in
    let final = entry (k, last) in
    let all = join_by entry (codes ", ") (enumerate_from 0 (values ++ last ∷ [])) in
    let tail : final ++ codes ");\n" ≡ tail_text k last =
    concat_onto (decimal k ∷ codes " => " ∷ last ∷ []) (codes ");\n") in
    let ends : (all ++ codes ")") ++ codes ";\n" ≡ entries ++ tail_text k last =
    append_assoc all (codes ")") (codes ";\n")
    ∙ ap (λ (text : List ℕ). text ++ codes ");\n") (entries_joined values last)
    ∙ append_assoc entries final (codes ");\n")
    ∙ ap (λ (text : List ℕ). entries ++ text) tail in
    ap (λ (text : List ℕ).
    codes "  constant "
    ++ (name ++ (codes " : " ++ (type ++ (codes "(0 to " ++ (decimal k ++ (codes ") := (" ++ text)))))))
    (ends ∙ sym (append-nil (entries ++ tail_text k last)))
    ∙ sym (concat_onto
    (codes "  constant " ∷ name ∷ codes " : " ∷ type ∷ codes "(0 to " ∷ decimal k ∷ codes ") := (" ∷ [])
    (entries ++ tail_text k last))
