-- The constants of a node: arrays that say what each event does, what each fire reads, and the loop values of each point.
use Rattle.std.specs.Prelude.{ℕ, ◌+◌, ℤ, pos, Option, Some, None, List, [], ◌∷◌, ◌++◌, codes, decimal, length, map, slice_get, slice_index_or}
use Rattle.std.specs.List.{concat, enumerate_from, flat_map, join_by, range_with_len}
use Rattle.net_core.specs.declared.refs.Ref.{Ref}
use Rattle.net_core.specs.declared.refs.Ref.TheVariants.{Zero, Slot}
use Rattle.net_core.specs.declared.network.Event.{Event}
use Rattle.net_core.specs.declared.network.Event.TheVariants.{Get, Fire, Put}
use Rattle.node_automata.specs.declared.node.NodeAuto.{NodeAuto}
use Rattle.vhdl_text.specs.declared.constants.Column.{Column}
use Rattle.vhdl_text.specs.declared.constants.Column.TheVariants.{Op, Arg, Dst, Read}
use Rattle.vhdl_text.specs.Literals.{literal}

-- The values

-- which kind of event it is
abbrev pub op_of : Event → ℕ
op_of (Get channel slot) = 1
op_of (Fire refs) = 2
op_of (Put channel) = 3

-- the channel of a Get or a Put, and the number of a Fire, where the first has number f
abbrev pub args_from : ℕ → List Event → List ℕ
args_from f [] = []
args_from f (Get channel slot ∷ events) = channel ∷ args_from f events
args_from f (Fire refs ∷ events) = f ∷ args_from (f + 1) events
args_from f (Put channel ∷ events) = channel ∷ args_from f events

-- the slot of a Get, else 0
abbrev pub dst_of : Event → ℕ
dst_of (Get channel slot) = slot
dst_of (Fire refs) = 0
dst_of (Put channel) = 0

-- the references of each fire
abbrev pub refs_of : Event → List (List Ref)
refs_of (Get channel slot) = []
refs_of (Fire refs) = refs ∷ []
refs_of (Put channel) = []

abbrev pub fires_of : List Event → List (List Ref)
fires_of events = flat_map refs_of events

-- the slot that a reference names, or -1 where it names no token
abbrev pub slot_text : Option Ref → List ℕ
slot_text (Some (Slot slot)) = decimal slot
slot_text (Some Zero) = codes "-1"
slot_text None = codes "-1"

-- op, arg and dst have a value for each event, and a read has one for each fire
abbrev pub column_values : Column → List Event → List (List ℕ)
column_values Op events = map (λ event. decimal (op_of event)) events
column_values Arg events = map decimal (args_from 0 events)
column_values Dst events = map (λ event. decimal (dst_of event)) events
column_values (Read k) events = map (λ refs. slot_text (slice_get refs k)) (fires_of events)

-- the value behind the last one
abbrev pub last_of : Column → List ℕ
last_of Op = codes "0"
last_of Arg = codes "0"
last_of Dst = codes "0"
last_of (Read k) = codes "-1"

-- a loop variable has a value for each point
abbrev pub variable_values : ℕ → List (List ℤ) → List (List ℕ)
variable_values n values = map (λ at. literal (slice_index_or at n (pos 0))) values

-- Their texts

abbrev pub name_of : Column → List ℕ
name_of Op = codes "op"
name_of Arg = codes "arg"
name_of Dst = codes "dst"
name_of (Read k) = codes "r" ++ decimal k

-- a value with its index
abbrev pub entry : ℕ × List ℕ → List ℕ
entry numbered = concat (decimal numbered.0 ∷ codes " => " ∷ numbered.1 ∷ [])

-- all values, each with its index
abbrev pub aggregate : List (List ℕ) → List ℕ
aggregate values =
    concat (codes "(" ∷ join_by entry (codes ", ") (enumerate_from 0 values) ∷ codes ")" ∷ [])

-- a constant with its name, the type of its values, the values and one more behind them
abbrev pub constant_text : List ℕ → List ℕ → List (List ℕ) → List ℕ → List ℕ
constant_text name type values last = concat (
    codes "  constant " ∷ name ∷ codes " : " ∷ type ∷ codes "(0 to " ∷ decimal (length values)
    ∷ codes ") := "
    ∷ aggregate (values ++ last ∷ []) ∷ codes ";\n" ∷ [])

abbrev pub event_constant : Column → NodeAuto → List ℕ
event_constant column a =
    constant_text (name_of column) (codes "codes") (column_values column a.events) (last_of column)

abbrev pub variable_constant : ℕ → NodeAuto → List ℕ
variable_constant n a =
    constant_text (codes "v" ++ decimal n) (codes "words") (variable_values n a.values)
    (literal (pos 0))

-- one for each read, and one for each loop
abbrev pub read_constants : NodeAuto → List ℕ
read_constants a = flat_map (λ k. event_constant (Read k) a) (range_with_len 0 a.reads)

abbrev pub variable_constants : NodeAuto → List ℕ
variable_constants a = flat_map (λ n. variable_constant n a) (range_with_len 0 a.depth)
