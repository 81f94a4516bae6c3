-- The node of a process whose ports go each at its own pace: sequencers say at which fire it is, and at which item each port.
use Rattle.std.specs.Prelude.{ℕ, List, [], ◌∷◌, ◌++◌, codes, decimal, length}
use Rattle.std.specs.List.{concat, flat_map, range_with_len}
use Rattle.sanlp.specs.declared.nest.Role.{Role}
use Rattle.sanlp.specs.declared.nest.Role.TheVariants.{Source, Assign, Sink}
use Rattle.vhdl_text.specs.declared.expression.Naming.TheVariants as naming
use Rattle.vhdl_text.specs.Expressions.{expr_text}
use Rattle.vhdl_text.specs.Numbered.{with_number}
use Rattle.vhdl_text.specs.Pieces.{functions_text}
use Rattle.sequencer_text.specs.declared.sequencer.EntityName.TheVariants as names
use Rattle.sequencer_text.specs.Sequencers.{name_text, sequencer_text}
use Rattle.unit_text.specs.declared.node.LoopPart.TheVariants as loops
use Rattle.unit_text.specs.declared.node.RolePart.TheVariants as roles
use Rattle.unit_text.specs.Nodes.{entity_text, fire_lines, loops_text, node_end, node_types, process_head, reset_lines, role_text, slot_signals}
use Rattle.port_text.specs.declared.node.ReadPart.{ReadPart}
use Rattle.port_text.specs.declared.node.ReadPart.TheVariants as reads
use Rattle.port_text.specs.declared.ports.PortPart.{PortPart}
use Rattle.port_text.specs.declared.ports.PortPart.TheVariants as parts
use Rattle.port_text.specs.declared.unit.PortUnit.{PortUnit}
use Rattle.port_text.specs.Ports.{gets_text, puts_text}
use Rattle.port_text.specs.Tables.{read_table}

-- What a node has for a read: a table of its slot at each fire, a signal of what the table has at the next one, and the line that
-- drives this.
abbrev pub read_text : ReadPart → PortUnit → ℕ → List ℕ
read_text reads.Table unit k = read_table k unit.fires
read_text reads.Signal unit k =
    with_number k (codes "  signal r" ∷ codes "_here : integer;\n" ∷ [])
read_text reads.Line unit k =
    with_number k (codes "  r" ∷ codes "_here <= r" ∷ codes "(pc);\n" ∷ [])

abbrev pub reads_text : ReadPart → PortUnit → List ℕ
reads_text part unit = flat_map (read_text part unit) (range_with_len 0 unit.unit.auto.reads)

-- what a node has for each port at which the process gets, and then for each at which it puts
abbrev pub ports_text : PortPart → PortUnit → List ℕ
ports_text part unit =
    gets_text part unit.unit.auto.process unit.gets ++ puts_text part unit.unit.auto.process unit.puts

-- A source fires when a value is there, and a sink when its last value was taken, or is taken at the same edge.
abbrev pub role_lines : Role → List ℕ
role_lines (Source array) =
    codes "  fires <= may_fire and given_valid;\n  given_ready <= may_fire and not rst;\n"
role_lines Assign = codes "  fires <= may_fire;\n"
role_lines (Sink array) =
    codes "  fires <= '1' when may_fire = '1' and (gave = '0' or result_ready = '1') else '0';\n"
    ++ role_text roles.Lines (Sink array)

-- the sequencer of its fires in the node
abbrev pub fire_sequencer : ℕ → List ℕ
fire_sequencer p = concat (
    codes "  fire : entity work." ∷ name_text (names.Fires p)
    ∷ codes "\n    port map (\n      clk => clk,\n      rst => rst,\n      again => again,\n      step => fires,\n      at => pc\n    );\n"
    ∷ [])

-- the number of the next fire's instruction, whether its operands are there and its results may go, and whether it comes
abbrev pub fire_signals : ℕ → List ℕ
fire_signals count = with_number count (
    codes "  signal pc : integer range 0 to "
    ∷ codes ";\n  signal may_fire, fires : std_logic;\n" ∷ [])

-- the process may fire where it isn't at its last fire's end, and each port is at one
abbrev pub may_fire_line : PortUnit → List ℕ
may_fire_line unit = concat (
    codes "  may_fire <= '1' when pc /= " ∷ decimal (length unit.fires.instructions) ∷ codes "\n"
    ∷ ports_text parts.MayFire unit ∷ codes "    else '0';\n" ∷ [])

-- it is done where its fires and each port are at their end, and no value waits for room
abbrev pub done_line : PortUnit → List ℕ
done_line unit = concat (
    codes "  done <= '1' when pc = " ∷ decimal (length unit.fires.instructions) ∷ codes "\n"
    ∷ ports_text parts.Done unit ∷ codes "    else '0';\n" ∷ [])

-- The node of a process

-- the sequencers of the fires, of the ports and of the loops
abbrev pub entities_text : PortUnit → List ℕ
entities_text unit = concat (
    sequencer_text (names.Fires unit.unit.auto.process) unit.fires
    ∷ ports_text parts.Entity unit
    ∷ loops_text loops.Entity unit.unit ∷ [])

abbrev pub constants_text : PortUnit → List ℕ
constants_text unit = concat (
    node_types unit.unit.auto.process
    ∷ ports_text parts.Tables unit
    ∷ reads_text reads.Table unit ∷ loops_text loops.Table unit.unit ∷ [])

abbrev pub signals_text : PortUnit → List ℕ
signals_text unit = concat (
    fire_signals (length unit.fires.instructions)
    ∷ ports_text parts.Signals unit
    ∷ reads_text reads.Signal unit ∷ loops_text loops.Signals unit.unit
    ∷ slot_signals unit.unit.auto.slots ∷ role_text roles.Signal unit.unit.auto.role
    ∷ functions_text ∷ [])

abbrev pub sequencers_text : PortUnit → List ℕ
sequencers_text unit = concat (
    fire_sequencer unit.unit.auto.process
    ∷ ports_text parts.Sequencer unit
    ∷ loops_text loops.Part unit.unit ∷ [])

abbrev pub wiring_text : PortUnit → List ℕ
wiring_text unit = concat (
    sequencers_text unit
    ∷ reads_text reads.Line unit
    ∷ ports_text parts.Lines unit
    ∷ may_fire_line unit ∷ role_lines unit.unit.auto.role ∷ done_line unit ∷ [])

-- what is fired is the expression's value
abbrev pub clocked_text : PortUnit → List ℕ
clocked_text unit = concat (
    process_head
    ∷ ports_text parts.Clocked unit
    ∷ role_text roles.Taken unit.unit.auto.role
    ∷ fire_lines (expr_text naming.Signals unit.unit.auto.expr)
    ∷ role_text roles.Gives unit.unit.auto.role ∷ loops_text loops.Gain unit.unit ∷ [])

abbrev pub reset_text : PortUnit → List ℕ
reset_text unit = concat (
    reset_lines ∷ role_text roles.Reset unit.unit.auto.role ∷ loops_text loops.Reset unit.unit
    ∷ ports_text parts.Reset unit ∷ node_end ∷ [])

-- its sequencers, and the node over them
abbrev pub port_unit_text : PortUnit → List ℕ
port_unit_text unit = concat (
    entities_text unit ∷ entity_text unit.unit ∷ constants_text unit ∷ signals_text unit
    ∷ wiring_text unit ∷ clocked_text unit ∷ reset_text unit ∷ [])
