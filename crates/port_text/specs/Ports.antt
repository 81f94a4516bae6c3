-- What a node has for each of its ports. A Get port takes the token of an item into its slot, and waits for the fire of the
-- item; a Put port waits for room for the value that was fired last, until its channel takes it.
use Rattle.std.specs.Prelude.{ℕ, Bool, if◌then◌else◌, List, [], ◌∷◌, ◌++◌, codes, decimal, length}
use Rattle.std.specs.List.{concat, flat_map}
use Rattle.vhdl_text.specs.Numbered.{with_number}
use Rattle.sequencer_text.specs.declared.sequencer.EntityName.TheVariants as names
use Rattle.sequencer_text.specs.Sequencers.{name_text, sequencer_text}
use Rattle.port_text.specs.declared.ports.PortPart.{PortPart}
use Rattle.port_text.specs.declared.ports.PortPart.TheVariants as parts
use Rattle.port_text.specs.declared.tables.GetColumn.TheVariants.{Op, Dst}
use Rattle.port_text.specs.declared.unit.GetControl.{GetControl}
use Rattle.port_text.specs.declared.unit.PutControl.{PutControl}
use Rattle.port_text.specs.Tables.{get_table, put_table}

abbrev pub bit : Bool → List ℕ
bit high = if high then codes "1" else codes "0"

-- A Get port

-- its instruction, what its tables have there, whether it may take an item, whether it takes one, and whether it waits
abbrev pub get_signals : GetControl → List ℕ
get_signals control = concat (
    codes "  signal get" ∷ decimal control.channel ∷ codes "_pc : integer range 0 to "
    ∷ decimal (length control.items.instructions)
    ∷ with_number control.channel (
    codes ";\n  signal get" ∷ codes "_op_here, get" ∷ codes "_dst_here : integer;\n  signal get"
    ∷ codes "_free, get" ∷ codes "_step : std_logic;\n  signal get"
    ∷ codes "_waits : std_logic := '" ∷ [])
    ∷ bit control.waits ∷ codes "';\n" ∷ [])

-- its sequencer in the node
abbrev pub get_sequencer : ℕ → ℕ → List ℕ
get_sequencer p c = concat (
    codes "  get" ∷ decimal c ∷ codes " : entity work." ∷ name_text (names.Get p c)
    ∷ with_number c (
    codes "\n    port map (\n      clk => clk,\n      rst => rst,\n      again => again,\n      step => get"
    ∷ codes "_step,\n      at => get" ∷ codes "_pc\n    );\n" ∷ []) ∷ [])

-- It may take an item where it doesn't wait, or the process fires; it takes one that has no token, or whose token is there.
abbrev pub get_lines : ℕ → List ℕ
get_lines c = with_number c (
    codes "  get" ∷ codes "_op_here <= op_get" ∷ codes "(get" ∷ codes "_pc);\n  get"
    ∷ codes "_dst_here <= dst_get" ∷ codes "(get" ∷ codes "_pc);\n  get"
    ∷ codes "_free <= '1' when get" ∷ codes "_waits = '0' or fires = '1' else '0';\n  get"
    ∷ codes "_step <= '1' when get" ∷ codes "_free = '1' and (get"
    ∷ codes "_op_here = 2 or (get" ∷ codes "_op_here /= 4 and c"
    ∷ codes "_valid = '1')) else '0';\n  c"
    ∷ codes "_take <= '1' when get" ∷ codes "_free = '1' and (get" ∷ codes "_op_here = 1 or get"
    ∷ codes "_op_here = 3) else '0';\n" ∷ [])

-- the token goes into its slot, and from an item with a fire on the port waits
abbrev pub get_clocked : ℕ → List ℕ
get_clocked c = with_number c (
    codes "      if get" ∷ codes "_step = '1' and get" ∷ codes "_op_here /= 2 then\n        slot(get"
    ∷ codes "_dst_here) <= c" ∷ codes "_front;\n      end if;\n      if get"
    ∷ codes "_step = '1' and get" ∷ codes "_op_here /= 1 then\n        get"
    ∷ codes "_waits <= '1';\n      elsif fires = '1' then\n        get"
    ∷ codes "_waits <= '0';\n      end if;\n" ∷ [])

abbrev pub get_reset : GetControl → List ℕ
get_reset control = concat (
    codes "        get" ∷ decimal control.channel ∷ codes "_waits <= '" ∷ bit control.waits
    ∷ codes "';\n" ∷ [])

abbrev pub get_text : PortPart → ℕ → GetControl → List ℕ
get_text parts.Entity p control = sequencer_text (names.Get p control.channel) control.items
get_text parts.Tables p control = get_table Op control ++ get_table Dst control
get_text parts.Signals p control = get_signals control
get_text parts.Sequencer p control = get_sequencer p control.channel
get_text parts.Lines p control = get_lines control.channel
get_text parts.MayFire p control =
    with_number control.channel (codes "    and get" ∷ codes "_waits = '1'\n" ∷ [])
get_text parts.Done p control =
    with_number control.channel (codes "    and get" ∷ codes "_op_here = 4\n" ∷ [])
get_text parts.Clocked p control = get_clocked control.channel
get_text parts.Reset p control = get_reset control

abbrev pub gets_text : PortPart → ℕ → List GetControl → List ℕ
gets_text part p controls = flat_map (get_text part p) controls

-- A Put port

-- its instruction, what its table has there, whether it is clear, whether it takes an item, and whether it waits
abbrev pub put_signals : PutControl → List ℕ
put_signals control = concat (
    codes "  signal put" ∷ decimal control.channel ∷ codes "_pc : integer range 0 to "
    ∷ decimal (length control.items.instructions)
    ∷ with_number control.channel (
    codes ";\n  signal put" ∷ codes "_op_here : integer;\n  signal put" ∷ codes "_clear, put"
    ∷ codes "_step : std_logic;\n  signal put" ∷ codes "_waits : std_logic := '0';\n" ∷ []) ∷ [])

-- its sequencer in the node
abbrev pub put_sequencer : ℕ → ℕ → List ℕ
put_sequencer p c = concat (
    codes "  put" ∷ decimal c ∷ codes " : entity work." ∷ name_text (names.Put p c)
    ∷ with_number c (
    codes "\n    port map (\n      clk => clk,\n      rst => rst,\n      again => again,\n      step => put"
    ∷ codes "_step,\n      at => put" ∷ codes "_pc\n    );\n" ∷ []) ∷ [])

-- It is clear where it doesn't wait, or its channel takes the value; it takes an item where the process fires, and one that has no
-- fire where it is clear.
abbrev pub put_lines : ℕ → List ℕ
put_lines c = with_number c (
    codes "  put" ∷ codes "_op_here <= op_put" ∷ codes "(put" ∷ codes "_pc);\n  put"
    ∷ codes "_clear <= '1' when put" ∷ codes "_waits = '0' or c" ∷ codes "_ready = '1' else '0';\n  put"
    ∷ codes "_step <= '1' when fires = '1' or (put" ∷ codes "_clear = '1' and put"
    ∷ codes "_op_here = 1) else '0';\n  c"
    ∷ codes "_data <= fired;\n  c" ∷ codes "_give <= put" ∷ codes "_waits;\n" ∷ [])

-- from an item with a token on it waits
abbrev pub put_clocked : ℕ → List ℕ
put_clocked c = with_number c (
    codes "      if put" ∷ codes "_step = '1' and put" ∷ codes "_op_here /= 2 then\n        put"
    ∷ codes "_waits <= '1';\n      elsif put" ∷ codes "_clear = '1' then\n        put"
    ∷ codes "_waits <= '0';\n      end if;\n" ∷ [])

abbrev pub put_text : PortPart → ℕ → PutControl → List ℕ
put_text parts.Entity p control = sequencer_text (names.Put p control.channel) control.items
put_text parts.Tables p control = put_table control
put_text parts.Signals p control = put_signals control
put_text parts.Sequencer p control = put_sequencer p control.channel
put_text parts.Lines p control = put_lines control.channel
put_text parts.MayFire p control = with_number control.channel (
    codes "    and put" ∷ codes "_clear = '1' and (put" ∷ codes "_op_here = 2 or put"
    ∷ codes "_op_here = 3)\n" ∷ [])
put_text parts.Done p control = with_number control.channel (
    codes "    and put" ∷ codes "_op_here = 4 and put" ∷ codes "_waits = '0'\n" ∷ [])
put_text parts.Clocked p control = put_clocked control.channel
put_text parts.Reset p control =
    with_number control.channel (codes "        put" ∷ codes "_waits <= '0';\n" ∷ [])

abbrev pub puts_text : PortPart → ℕ → List PutControl → List ℕ
puts_text part p controls = flat_map (put_text part p) controls
