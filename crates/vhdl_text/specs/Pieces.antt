-- The parts in which the code writes the text.
use Rattle.std.specs.Prelude.{ℕ, ◌+◌, List, [], ◌∷◌, ◌++◌, codes, decimal, slice_get}
use Rattle.std.specs.List.{concat, enumerate_from, flat_map}
use Rattle.net_core.specs.declared.network.Event.{Event}
use Rattle.net_core.specs.declared.network.Event.TheVariants.{Get, Fire, Put}
use Rattle.vhdl_text.specs.declared.constants.Column.{Column}
use Rattle.vhdl_text.specs.declared.constants.Column.TheVariants.{Op, Arg, Dst, Read}
use Rattle.vhdl_text.specs.Constants.{dst_of, op_of, slot_text}
use Rattle.vhdl_text.specs.VhdlText.{entity_head, fired_line, least_text, most_text, mul_text, pick_text}

-- Constants

-- what comes before the entries, of which there are so many
abbrev pub head_text : List ℕ → List ℕ → ℕ → List ℕ
head_text name type count =
    concat (codes "  constant " ∷ name ∷ codes " : " ∷ type ∷ codes "(0 to " ∷ decimal count
    ∷ codes ") := (" ∷ [])

-- an entry that another follows
abbrev pub entry_comma : ℕ × List ℕ → List ℕ
entry_comma numbered = concat (decimal numbered.0 ∷ codes " => " ∷ numbered.1 ∷ codes ", " ∷ [])

-- such entries, the first with index i
abbrev pub entries_from : ℕ → List (List ℕ) → List ℕ
entries_from i values = flat_map entry_comma (enumerate_from i values)

-- the last entry
abbrev pub tail_text : ℕ → List ℕ → List ℕ
tail_text count last = concat (decimal count ∷ codes " => " ∷ last ∷ codes ");\n" ∷ [])

-- the fires after an event that comes after so many
abbrev pub fires_after : ℕ → Event → ℕ
fires_after f (Get channel slot) = f
fires_after f (Fire refs) = f + 1
fires_after f (Put channel) = f

abbrev pub arg_of : ℕ → Event → ℕ
arg_of f (Get channel slot) = channel
arg_of f (Fire refs) = f
arg_of f (Put channel) = channel

-- the slot that read k of a Fire names, or -1
abbrev pub read_slot : ℕ → Event → List ℕ
read_slot k (Get channel slot) = codes "-1"
read_slot k (Fire refs) = slot_text (slice_get refs k)
read_slot k (Put channel) = codes "-1"

-- the value of an event after so many fires
abbrev pub event_value : Column → ℕ → Event → List ℕ
event_value Op f event = decimal (op_of event)
event_value Arg f event = decimal (arg_of f event)
event_value Dst f event = decimal (dst_of event)
event_value (Read k) f event = read_slot k event

-- the entry of a read at an event after so many fires, if it is a fire
abbrev pub read_entry : ℕ → ℕ → Event → List ℕ
read_entry k f (Get channel slot) = []
read_entry k f (Fire refs) = entry_comma (f, slot_text (slice_get refs k))
read_entry k f (Put channel) = []

-- the entry of an event of this index after so many fires
abbrev pub event_entry : Column → ℕ → ℕ → Event → List ℕ
event_entry Op i f event = entry_comma (i, event_value Op f event)
event_entry Arg i f event = entry_comma (i, event_value Arg f event)
event_entry Dst i f event = entry_comma (i, event_value Dst f event)
event_entry (Read k) i f event = read_entry k f event

abbrev pub event_entries : Column → ℕ → ℕ → List Event → List ℕ
event_entries column i f [] = []
event_entries column i f (event ∷ events) =
    event_entry column i f event ++ event_entries column (i + 1) (fires_after f event) events

-- Nodes

-- the empty line and the head of the entity
abbrev pub start_text : ℕ → List ℕ
start_text p = codes "\n" ++ entity_head p

-- the functions, and the beginning of the statements
abbrev pub functions_text : List ℕ
functions_text = concat (pick_text ∷ mul_text ∷ least_text ∷ most_text ∷ codes "begin\n" ∷ [])

-- the assignment of a fire
abbrev pub fire_text : List ℕ → List ℕ
fire_text expr = codes "          when 2 =>\n" ++ fired_line expr

-- the end of a fire
abbrev pub step_text : List ℕ
step_text = codes "            pc <= pc + 1;\n          when 3 =>\n"
