-- The entity of a process: a sequencer says where it is in its script, and tables what it does there.
use Rattle.std.specs.Prelude.{ℕ, pos, List, [], ◌∷◌, ◌++◌, codes, decimal, length, map}
use Rattle.std.specs.List.{concat, flat_map, range_with_len}
use Rattle.sanlp.specs.declared.nest.Role.{Role}
use Rattle.sanlp.specs.declared.nest.Role.TheVariants.{Source, Assign, Sink}
use Rattle.vhdl_text.specs.Constants.{constant_text}
use Rattle.vhdl_text.specs.declared.constants.Column.TheVariants.{Op, Arg, Dst, Read}
use Rattle.vhdl_text.specs.declared.expression.Naming.TheVariants as naming
use Rattle.vhdl_text.specs.Expressions.{expr_text}
use Rattle.vhdl_text.specs.Literals.{literal}
use Rattle.vhdl_text.specs.Numbered.{with_number}
use Rattle.vhdl_text.specs.Pieces.{functions_text}
use Rattle.unit_text.specs.declared.node.Part.{Part}
use Rattle.unit_text.specs.declared.node.Part.TheVariants.{PortsIn, PortsOut, StepIn, StepOut, Take, Give, Receive}
use Rattle.unit_text.specs.declared.node.LoopPart.{LoopPart}
use Rattle.unit_text.specs.declared.node.LoopPart.TheVariants as loops
use Rattle.unit_text.specs.declared.node.ReadPart.{ReadPart}
use Rattle.unit_text.specs.declared.node.ReadPart.TheVariants as reads
use Rattle.unit_text.specs.declared.node.RolePart.{RolePart}
use Rattle.unit_text.specs.declared.node.RolePart.TheVariants as roles
use Rattle.sequencer_text.specs.declared.sequencer.EntityName.TheVariants.{Control, Loop}
use Rattle.unit_text.specs.declared.unit.LoopCounter.{LoopCounter}
use Rattle.unit_text.specs.declared.unit.Unit.{Unit}
use Rattle.sequencer_text.specs.Sequencers.{library_lines, name_text, sequencer_text}
use Rattle.unit_text.specs.Events.{event_table}

-- What a node has for its role: a source is given values, and a sink gives them out. A source fires when a value is there,
-- and a sink when its last value was taken, or is taken at the same edge.
abbrev pub role_text : RolePart → Role → List ℕ
role_text roles.Ports (Source array) =
    codes "    given : in signed(63 downto 0);\n    given_valid : in std_logic;\n    given_ready : out std_logic;\n"
role_text roles.Ports Assign = []
role_text roles.Ports (Sink array) =
    codes "    result : out signed(63 downto 0);\n    result_valid : out std_logic;\n    result_ready : in std_logic;\n"
role_text roles.Signal (Source array) = []
role_text roles.Signal Assign = []
role_text roles.Signal (Sink array) = codes "  signal gave : std_logic := '0';\n"
role_text roles.Fires (Source array) =
    codes "  fires <= '1' when op_here = 2 and given_valid = '1' else '0';\n"
role_text roles.Fires Assign = codes "  fires <= '1' when op_here = 2 else '0';\n"
role_text roles.Fires (Sink array) =
    codes "  fires <= '1' when op_here = 2 and (gave = '0' or result_ready = '1') else '0';\n"
role_text roles.Lines (Source array) =
    codes "  given_ready <= '1' when op_here = 2 and rst = '0' else '0';\n"
role_text roles.Lines Assign = []
role_text roles.Lines (Sink array) =
    codes "  result <= fired;\n  result_valid <= '1' when gave = '1' and rst = '0' else '0';\n"
role_text roles.Taken (Source array) = []
role_text roles.Taken Assign = []
role_text roles.Taken (Sink array) =
    codes "      if result_ready = '1' then\n        gave <= '0';\n      end if;\n"
role_text roles.Gives (Source array) = []
role_text roles.Gives Assign = []
role_text roles.Gives (Sink array) = codes "        gave <= '1';\n"
role_text roles.Reset (Source array) = []
role_text roles.Reset Assign = []
role_text roles.Reset (Sink array) = codes "        gave <= '0';\n"

-- What it has for a channel: it takes from an incoming one at an edge at which both wires are high, and gives to an outgoing
-- one likewise.
abbrev pub part_text : Part → ℕ → List ℕ
part_text PortsIn c = with_number c (
    codes "    c" ∷ codes "_valid : in std_logic;\n    c"
    ∷ codes "_front : in signed(63 downto 0);\n    c" ∷ codes "_take : out std_logic;\n" ∷ [])
part_text PortsOut c = with_number c (
    codes "    c" ∷ codes "_ready : in std_logic;\n    c"
    ∷ codes "_data : out signed(63 downto 0);\n    c" ∷ codes "_give : out std_logic;\n" ∷ [])
part_text StepIn c = with_number c (
    codes "    or (op_here = 1 and arg_here = " ∷ codes " and c" ∷ codes "_valid = '1')\n" ∷ [])
part_text StepOut c = with_number c (
    codes "    or (op_here = 3 and arg_here = " ∷ codes " and c" ∷ codes "_ready = '1')\n" ∷ [])
part_text Take c = with_number c (
    codes "  c" ∷ codes "_take <= '1' when op_here = 1 and arg_here = " ∷ codes " else '0';\n" ∷ [])
part_text Give c = with_number c (
    codes "  c" ∷ codes "_data <= fired;\n  c"
    ∷ codes "_give <= '1' when op_here = 3 and arg_here = " ∷ codes " else '0';\n" ∷ [])
part_text Receive c = with_number c (
    codes "      if op_here = 1 and arg_here = " ∷ codes " and c"
    ∷ codes "_valid = '1' then\n        slot(dst_here) <= c" ∷ codes "_front;\n      end if;\n" ∷ [])

abbrev pub parts_text : Part → List ℕ → List ℕ
parts_text part channels = flat_map (part_text part) channels

-- What it has for a read: a table, a signal of what the table has at the instruction, and the line that drives this.
abbrev pub read_text : ReadPart → Unit → ℕ → List ℕ
read_text reads.Table unit k = event_table (Read k) unit.control
read_text reads.Signal unit k =
    with_number k (codes "  signal r" ∷ codes "_here : integer;\n" ∷ [])
read_text reads.Line unit k =
    with_number k (codes "  r" ∷ codes "_here <= r" ∷ codes "(pc);\n" ∷ [])

abbrev pub reads_text : ReadPart → Unit → List ℕ
reads_text part unit = flat_map (read_text part unit) (range_with_len 0 unit.auto.reads)

-- What it has for a loop that its expression names. A sequencer, which steps with the fires and begins anew behind the last,
-- says what the value gains at a fire.
abbrev pub gain_table : LoopCounter → List ℕ
gain_table counter =
    constant_text (codes "gain" ++ decimal counter.number) (codes "words")
    (map (λ i. literal i.item) counter.gains.instructions) (literal (pos 1))

abbrev pub loop_signals : LoopCounter → List ℕ
loop_signals counter = concat (
    codes "  signal pc" ∷ decimal counter.number ∷ codes " : integer range 0 to "
    ∷ decimal (length counter.gains.instructions)
    ∷ codes ";\n  signal v" ∷ decimal counter.number ∷ codes " : signed(63 downto 0) := "
    ∷ literal counter.first ∷ codes ";\n" ∷ [])

abbrev pub loop_part : ℕ → LoopCounter → List ℕ
loop_part p counter = concat (
    codes "  loop" ∷ decimal counter.number ∷ codes " : entity work."
    ∷ name_text (Loop p counter.number)
    ∷ codes "\n    port map (\n      clk => clk,\n      rst => rst,\n      again => '1',\n      step => fires,\n      at => pc"
    ∷ decimal counter.number ∷ codes "\n    );\n" ∷ [])

abbrev pub loop_reset : LoopCounter → List ℕ
loop_reset counter = concat (
    codes "        v" ∷ decimal counter.number ∷ codes " <= " ∷ literal counter.first
    ∷ codes ";\n" ∷ [])

abbrev pub loop_text : LoopPart → ℕ → LoopCounter → List ℕ
loop_text loops.Entity p counter = sequencer_text (Loop p counter.number) counter.gains
loop_text loops.Table p counter = gain_table counter
loop_text loops.Signals p counter = loop_signals counter
loop_text loops.Part p counter = loop_part p counter
loop_text loops.Gain p counter = with_number counter.number (
    codes "        v" ∷ codes " <= v" ∷ codes " + gain" ∷ codes "(pc" ∷ codes ");\n" ∷ [])
loop_text loops.Reset p counter = loop_reset counter

abbrev pub loops_text : LoopPart → Unit → List ℕ
loops_text part unit = flat_map (loop_text part unit.auto.process) unit.loops

-- The entity

abbrev pub node_entity : ℕ → List ℕ
node_entity p = with_number p (
    (library_lines ++ codes "entity node_")
    ∷ codes " is\n  port (\n    clk : in std_logic;\n    rst : in std_logic;\n    again : in std_logic;\n"
    ∷ [])

abbrev pub node_entity_end : List ℕ
node_entity_end = codes "    done : out std_logic\n  );\nend entity;\n"

-- The architecture's declarations

abbrev pub node_types : ℕ → List ℕ
node_types p = with_number p (
    codes "architecture rtl of node_"
    ∷ codes " is\n  type codes is array (natural range <>) of integer;\n  type words is array (natural range <>) of signed(63 downto 0);\n  constant zero : signed(63 downto 0) := x\"0000000000000000\";\n"
    ∷ [])

-- the place in the script, whether it is left at the next edge, and by a fire; what the tables have there
abbrev pub node_signals : ℕ → List ℕ
node_signals count = with_number count (
    codes "  signal pc : integer range 0 to "
    ∷ codes ";\n  signal step : std_logic;\n  signal fires : std_logic;\n  signal op_here, arg_here, dst_here : integer;\n"
    ∷ [])

-- the slots with a spare one, and the value that was fired last
abbrev pub slot_signals : ℕ → List ℕ
slot_signals slots = with_number slots (
    codes "  signal slot : words(0 to "
    ∷ codes ");\n  signal fired : signed(63 downto 0);\n" ∷ [])

-- The architecture's statements

abbrev pub control_part : ℕ → List ℕ
control_part p = concat (
    codes "  control : entity work." ∷ name_text (Control p)
    ∷ codes "\n    port map (\n      clk => clk,\n      rst => rst,\n      again => again,\n      step => step,\n      at => pc\n    );\n"
    ∷ [])

abbrev pub here_lines : List ℕ
here_lines = codes "  op_here <= op(pc);\n  arg_here <= arg(pc);\n  dst_here <= dst(pc);\n"

abbrev pub done_line : List ℕ
done_line = codes "  done <= '1' when op_here = 4 else '0';\n"

abbrev pub process_head : List ℕ
process_head = codes "  process (clk)\n  begin\n    if rising_edge(clk) then\n"

-- what is fired is the expression's value
abbrev pub fire_lines : List ℕ → List ℕ
fire_lines expr =
    concat (codes "      if fires = '1' then\n        fired <= " ∷ expr ∷ codes ";\n" ∷ [])

abbrev pub reset_lines : List ℕ
reset_lines = codes "      end if;\n      if rst = '1' then\n        fired <= zero;\n"

abbrev pub node_end : List ℕ
node_end = codes "      end if;\n    end if;\n  end process;\nend architecture;\n"

-- The node of a process

-- the entity of a node, with the ports of its role and of its channels
abbrev pub entity_text : Unit → List ℕ
entity_text unit = concat (
    node_entity unit.auto.process ∷ role_text roles.Ports unit.auto.role
    ∷ parts_text PortsIn unit.auto.gets ∷ parts_text PortsOut unit.auto.puts
    ∷ node_entity_end ∷ [])

abbrev pub declarations_text : Unit → List ℕ
declarations_text unit = concat (
    node_types unit.auto.process
    ∷ event_table Op unit.control ∷ event_table Arg unit.control ∷ event_table Dst unit.control
    ∷ reads_text reads.Table unit ∷ loops_text loops.Table unit
    ∷ node_signals (length unit.control.instructions)
    ∷ reads_text reads.Signal unit ∷ loops_text loops.Signals unit
    ∷ slot_signals unit.auto.slots ∷ role_text roles.Signal unit.auto.role
    ∷ functions_text ∷ [])

abbrev pub wiring_text : Unit → List ℕ
wiring_text unit = concat (
    control_part unit.auto.process ∷ loops_text loops.Part unit
    ∷ here_lines ∷ reads_text reads.Line unit ∷ role_text roles.Fires unit.auto.role
    ∷ codes "  step <= '1' when fires = '1'\n"
    ∷ parts_text StepIn unit.auto.gets ∷ parts_text StepOut unit.auto.puts
    ∷ codes "    else '0';\n" ∷ role_text roles.Lines unit.auto.role
    ∷ parts_text Take unit.auto.gets ∷ parts_text Give unit.auto.puts ∷ done_line ∷ [])

abbrev pub process_text : Unit → List ℕ
process_text unit = concat (
    process_head ∷ parts_text Receive unit.auto.gets ∷ role_text roles.Taken unit.auto.role
    ∷ fire_lines (expr_text naming.Signals unit.auto.expr) ∷ role_text roles.Gives unit.auto.role
    ∷ loops_text loops.Gain unit
    ∷ reset_lines ∷ role_text roles.Reset unit.auto.role ∷ loops_text loops.Reset unit
    ∷ node_end ∷ [])

-- its sequencers, and the node over them
abbrev pub unit_text : Unit → List ℕ
unit_text unit = concat (
    sequencer_text (Control unit.auto.process) unit.control ∷ loops_text loops.Entity unit
    ∷ entity_text unit ∷ declarations_text unit ∷ wiring_text unit ∷ process_text unit ∷ [])
