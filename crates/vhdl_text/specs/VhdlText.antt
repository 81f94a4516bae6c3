-- The VHDL text of a network: its channels, and an entity for each process.
use Rattle.std.specs.Prelude.{ℕ, List, [], ◌∷◌, ◌++◌, codes, decimal, length}
use Rattle.std.specs.List.{concat, enumerate_from, flat_map}
use Rattle.sanlp.specs.declared.nest.Role.{Role}
use Rattle.sanlp.specs.declared.nest.Role.TheVariants as role
use Rattle.net_core.specs.declared.network.Channel.{Channel}
use Rattle.net_core.specs.declared.network.Network.{Network}
use Rattle.node_automata.specs.declared.node.NodeAuto.{NodeAuto}
use Rattle.vhdl_text.specs.declared.channels.Part.TheVariants.{PortsIn, PortsOut, Take, Give, Receive, Send}
use Rattle.vhdl_text.specs.declared.constants.Column.TheVariants.{Op, Arg, Dst}
use Rattle.vhdl_text.specs.Channels.{branch_text, parts_text}
use Rattle.vhdl_text.specs.Constants.{event_constant, read_constants, variable_constants}
use Rattle.vhdl_text.specs.declared.expression.Naming.TheVariants.{Arrays}
use Rattle.vhdl_text.specs.Expressions.{expr_text}

-- The entity

abbrev pub entity_head : ℕ → List ℕ
entity_head p = concat (
    codes "library ieee;\nuse ieee.std_logic_1164.all;\nuse ieee.numeric_std.all;\n"
    ∷ codes "entity node_" ∷ decimal p
    ∷ codes " is\n  port (\n    clk : in std_logic;\n    rst : in std_logic;\n" ∷ [])

-- a source is given values, and a sink gives them out
abbrev pub role_ports : Role → List ℕ
role_ports (role.Source array) =
    codes "    given : in signed(63 downto 0);\n    given_take : out std_logic;\n"
role_ports role.Assign = []
role_ports (role.Sink array) =
    codes "    result : out signed(63 downto 0);\n    result_give : out std_logic;\n"

abbrev pub entity_end : List ℕ
entity_end = codes "    done : out std_logic\n  );\nend entity;\n"

-- The architecture's declarations

abbrev pub architecture_head : ℕ → List ℕ
architecture_head p = concat (
    codes "architecture rtl of node_" ∷ decimal p ∷ codes " is\n"
    ∷ codes "  type codes is array (natural range <>) of integer;\n"
    ∷ codes "  type words is array (natural range <>) of signed(63 downto 0);\n"
    ∷ codes "  constant zero : signed(63 downto 0) := x\"0000000000000000\";\n" ∷ [])

-- the place in the script, the slots with a spare one, and the value that was fired last
abbrev pub signals : ℕ → ℕ → List ℕ
signals events slots = concat (
    codes "  signal pc : integer range 0 to " ∷ decimal events ∷ codes " := 0;\n"
    ∷ codes "  signal slot : words(0 to " ∷ decimal slots ∷ codes ");\n"
    ∷ codes "  signal fired : signed(63 downto 0);\n" ∷ [])

abbrev pub role_signal : Role → List ℕ
role_signal (role.Source array) = []
role_signal role.Assign = []
role_signal (role.Sink array) = codes "  signal gave : std_logic := '0';\n"

abbrev pub pick_text : List ℕ
pick_text =
    codes "  function pick(b : words; r : integer) return signed is\n  begin\n    if r < 0 then\n      return zero;\n    else\n      return b(r);\n    end if;\n  end function;\n"

abbrev pub mul_text : List ℕ
mul_text =
    codes "  function mul(a, b : signed(63 downto 0)) return signed is\n    variable p : signed(127 downto 0);\n  begin\n    p := a * b;\n    return p(63 downto 0);\n  end function;\n"

abbrev pub least_text : List ℕ
least_text =
    codes "  function least(a, b : signed(63 downto 0)) return signed is\n  begin\n    if a < b then\n      return a;\n    else\n      return b;\n    end if;\n  end function;\n"

abbrev pub most_text : List ℕ
most_text =
    codes "  function most(a, b : signed(63 downto 0)) return signed is\n  begin\n    if a < b then\n      return b;\n    else\n      return a;\n    end if;\n  end function;\n"

-- The architecture's statements

abbrev pub role_lines : Role → List ℕ
role_lines (role.Source array) = codes "  given_take <= '1' when op(pc) = 2 else '0';\n"
role_lines role.Assign = []
role_lines (role.Sink array) = codes "  result <= fired;\n  result_give <= gave;\n"

abbrev pub done_line : List ℕ
done_line = codes "  done <= '1' when op(pc) = 0 else '0';\n"

abbrev pub process_head : List ℕ
process_head = codes "  process (clk)\n  begin\n    if rising_edge(clk) then\n"

abbrev pub gave_low : Role → List ℕ
gave_low (role.Source array) = []
gave_low role.Assign = []
gave_low (role.Sink array) = codes "      gave <= '0';\n"

abbrev pub case_head : List ℕ
case_head = codes "      if rst = '1' then\n        pc <= 0;\n      else\n        case op(pc) is\n"

-- what is fired is the expression's value
abbrev pub fired_line : List ℕ → List ℕ
fired_line expr = concat (codes "            fired <= " ∷ expr ∷ codes ";\n" ∷ [])

abbrev pub gave_high : Role → List ℕ
gave_high (role.Source array) = []
gave_high role.Assign = []
gave_high (role.Sink array) = codes "            gave <= '1';\n"

abbrev pub process_end : List ℕ
process_end =
    codes "          when others =>\n            null;\n        end case;\n      end if;\n    end if;\n  end process;\nend architecture;\n"

-- The node of a process, with an empty line before it
abbrev pub node_text : NodeAuto → List ℕ
node_text a = concat (
    codes "\n" ∷ entity_head a.process ∷ role_ports a.role
    ∷ parts_text PortsIn a a.gets ∷ parts_text PortsOut a a.puts ∷ entity_end
    ∷ architecture_head a.process
    ∷ event_constant Op a ∷ event_constant Arg a ∷ event_constant Dst a
    ∷ read_constants a ∷ variable_constants a
    ∷ signals (length a.events) a.slots ∷ role_signal a.role
    ∷ pick_text ∷ mul_text ∷ least_text ∷ most_text
    ∷ codes "begin\n" ∷ role_lines a.role
    ∷ parts_text Take a a.gets ∷ parts_text Give a a.puts ∷ done_line
    ∷ process_head ∷ gave_low a.role ∷ case_head
    ∷ codes "          when 1 =>\n" ∷ branch_text Receive a a.gets
    ∷ codes "          when 2 =>\n" ∷ fired_line (expr_text Arrays a.expr) ∷ gave_high a.role
    ∷ codes "            pc <= pc + 1;\n          when 3 =>\n" ∷ branch_text Send a a.puts
    ∷ process_end ∷ [])

-- The text

-- channel c with its ends and its capacity
abbrev pub channel_line : ℕ × Channel → List ℕ
channel_line numbered = concat (
    codes "-- channel " ∷ decimal numbered.0 ∷ codes " node_" ∷ decimal numbered.1.writer
    ∷ codes " node_" ∷ decimal numbered.1.reader
    ∷ codes " capacity " ∷ decimal numbered.1.capacity ∷ codes "\n" ∷ [])

-- one for each of these channels, the first having number 0
abbrev pub channel_lines : List Channel → List ℕ
channel_lines channels = flat_map channel_line (enumerate_from 0 channels)

-- the version of the text, a line for each channel, and the nodes
abbrev pub vhdl_text : Network → List NodeAuto → List ℕ
vhdl_text network autos =
    codes "-- compaan vhdl 1\n" ++ (channel_lines network.channels ++ flat_map node_text autos)
