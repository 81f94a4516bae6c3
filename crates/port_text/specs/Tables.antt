-- Constant tables of what each instruction of the sequencers does: a value for each instruction, and one more behind them, which isn't
-- 0, since a tool makes zeros of a table of which only the first value isn't 0.
use Rattle.std.specs.Prelude.{ℕ, Bool, true, false, Option, Some, None, is_some, List, ◌++◌, codes, decimal, map, slice_get}
use Rattle.net_core.specs.declared.refs.Ref.{Ref}
use Rattle.repeat_sequencer.specs.declared.sequencer.Sequencer.{Sequencer}
use Rattle.vhdl_text.specs.Constants.{constant_text, slot_text}
use Rattle.port_items.specs.declared.items.GetItem.{GetItem}
use Rattle.port_items.specs.declared.items.PutItem.{PutItem}
use Rattle.port_text.specs.declared.tables.GetColumn.{GetColumn}
use Rattle.port_text.specs.declared.tables.GetColumn.TheVariants.{Op, Dst}
use Rattle.port_text.specs.declared.unit.GetControl.{GetControl}
use Rattle.port_text.specs.declared.unit.PutControl.{PutControl}

-- what an item does: 1 for a token alone, 2 for a fire alone, and 3 for both
abbrev pub op_of : Bool → Bool → ℕ
op_of false false = 0
op_of true false = 1
op_of false true = 2
op_of true true = 3

-- the slot of a Get, or 0 where there is none
abbrev pub dst_of : Option ℕ → ℕ
dst_of (Some slot) = slot
dst_of None = 0

-- the values of an item of a Get port
abbrev pub get_value : GetColumn → GetItem → List ℕ
get_value Op item = decimal (op_of (is_some item.get) item.fire)
get_value Dst item = decimal (dst_of item.get)

-- the value behind the last one: 4 in place of what an item does says that the port is at its end
abbrev pub get_last : GetColumn → List ℕ
get_last Op = codes "4"
get_last Dst = codes "1"

abbrev pub get_name : GetColumn → List ℕ
get_name Op = codes "op_get"
get_name Dst = codes "dst_get"

abbrev pub get_table : GetColumn → GetControl → List ℕ
get_table column control =
    constant_text (get_name column ++ decimal control.channel) (codes "codes")
    (map (λ i. get_value column i.item) control.items.instructions) (get_last column)

-- of a Put port there is one table
abbrev pub put_value : PutItem → List ℕ
put_value item = decimal (op_of item.put item.fire)

abbrev pub put_table : PutControl → List ℕ
put_table control =
    constant_text (codes "op_put" ++ decimal control.channel) (codes "codes")
    (map (λ i. put_value i.item) control.items.instructions) (codes "4")

-- the slot that each fire names for a read, or -1 where it names no token
abbrev pub read_table : ℕ → Sequencer (List Ref) → List ℕ
read_table k fires =
    constant_text (codes "r" ++ decimal k) (codes "codes")
    (map (λ i. slot_text (slice_get i.item k)) fires.instructions) (codes "-1")
