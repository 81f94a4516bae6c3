-- The whole design: a channel, the nodes with their sequencers, and the network that joins them, with ports by the names of the
-- arrays.
use Rattle.std.specs.Prelude.{ℕ, List, [], ◌∷◌, ◌++◌, codes, decimal}
use Rattle.std.specs.List.{concat, enumerate_from, flat_map}
use Rattle.sanlp.specs.declared.nest.Nest.{Nest}
use Rattle.net_core.specs.declared.network.Channel.{Channel}
use Rattle.net_core.specs.declared.network.Network.{Network}
use Rattle.vhdl_text.specs.Numbered.{with_number}
use Rattle.vhdl_text.specs.VhdlText.{channel_lines}
use Rattle.sequencer_text.specs.Sequencers.{library_lines}
use Rattle.unit_text.specs.declared.unit.Unit.{Unit}
use Rattle.unit_text.specs.Nodes.{unit_text}
use Rattle.rtl_text.specs.declared.network.ChannelPart.{ChannelPart}
use Rattle.rtl_text.specs.declared.network.ChannelPart.TheVariants.{Signals, Instance}
use Rattle.rtl_text.specs.declared.network.End.{End}
use Rattle.rtl_text.specs.declared.network.End.TheVariants.{Reader, Writer}
use Rattle.rtl_text.specs.declared.network.UnitPart.{UnitPart}
use Rattle.rtl_text.specs.declared.network.UnitPart.TheVariants as units
use Rattle.rtl_text.specs.Joins.{join_lines, role_joins_of}
use Rattle.rtl_text.specs.Ports.{outer_ports, port_lines}

-- The channel

abbrev pub channel_entity : List ℕ
channel_entity =
    library_lines
    ++ codes "entity channel is\n  generic (\n    capacity : positive\n  );\n  port (\n    clk : in std_logic;\n    rst : in std_logic;\n    ready : out std_logic;\n    give : in std_logic;\n    data : in signed(63 downto 0);\n    valid : out std_logic;\n    take : in std_logic;\n    front : out signed(63 downto 0)\n  );\nend entity;\n"

-- the tokens lie in a ring, from the oldest one on
abbrev pub channel_declarations : List ℕ
channel_declarations =
    codes "architecture rtl of channel is\n  type words is array (natural range <>) of signed(63 downto 0);\n  subtype place is natural range 0 to capacity - 1;\n  signal ring : words(0 to capacity - 1);\n  signal oldest : place := 0;\n  signal free : place := 0;\n  signal length : natural range 0 to capacity := 0;\n  signal is_ready : std_logic;\n  signal is_valid : std_logic;\n  function following(at : place) return place is\n  begin\n    if at = capacity - 1 then\n      return 0;\n    else\n      return at + 1;\n    end if;\n  end function;\n"

abbrev pub channel_statements : List ℕ
channel_statements =
    codes "begin\n  is_ready <= '1' when length < capacity else '0';\n  is_valid <= '1' when length > 0 else '0';\n  ready <= is_ready;\n  valid <= is_valid;\n  front <= ring(oldest);\n  process (clk)\n    variable gives : boolean;\n    variable takes : boolean;\n  begin\n    if rising_edge(clk) then\n      if rst = '1' then\n        oldest <= 0;\n        free <= 0;\n        length <= 0;\n      else\n        gives := give = '1' and is_ready = '1';\n        takes := take = '1' and is_valid = '1';\n        if gives then\n          ring(free) <= data;\n          free <= following(free);\n        end if;\n        if takes then\n          oldest <= following(oldest);\n        end if;\n        if gives and not takes then\n          length <= length + 1;\n        elsif takes and not gives then\n          length <= length - 1;\n        end if;\n      end if;\n    end if;\n  end process;\nend architecture;\n"

abbrev pub channel_text : List ℕ
channel_text = channel_entity ++ (channel_declarations ++ channel_statements)

-- The network

-- each port of a channel's reader or writer is joined to that channel
unfoldable pub joins_text : End → ℕ → List ℕ
joins_text Reader c = with_number c (
    codes "      c" ∷ codes "_valid => valid_" ∷ codes ",\n      c" ∷ codes "_front => front_"
    ∷ codes ",\n      c" ∷ codes "_take => take_" ∷ codes ",\n" ∷ [])
joins_text Writer c = with_number c (
    codes "      c" ∷ codes "_ready => ready_" ∷ codes ",\n      c" ∷ codes "_data => data_"
    ∷ codes ",\n      c" ∷ codes "_give => give_" ∷ codes ",\n" ∷ [])

abbrev pub node_head : ℕ → List ℕ
node_head p = with_number p (
    codes "  node_" ∷ codes " : entity work.node_"
    ∷ codes "\n    port map (\n      clk => clk,\n      rst => rst,\n      again => again,\n" ∷ [])

abbrev pub node_tail : ℕ → List ℕ
node_tail p = with_number p (codes "      done => done_" ∷ codes "\n    );\n" ∷ [])

-- an instance of the node of a process, whose ports are joined to those of the network and to its channels
abbrev pub node_part : Nest → Unit → List ℕ
node_part nest unit = concat (
    node_head unit.auto.process ∷ join_lines (role_joins_of nest unit.auto.role)
    ∷ flat_map (joins_text Reader) unit.auto.gets ∷ flat_map (joins_text Writer) unit.auto.puts
    ∷ node_tail unit.auto.process ∷ [])

-- What there is for the hardware of a process: its entities, the network's ports of its role, a signal that says that it is done,
-- its node, and the term with which the network is done.
abbrev pub unit_part_text : UnitPart → Nest → Unit → List ℕ
unit_part_text units.Entities nest unit = unit_text unit
unit_part_text units.Ports nest unit = port_lines (outer_ports nest unit.auto.role)
unit_part_text units.DoneSignal nest unit =
    with_number unit.auto.process (codes "  signal done_" ∷ codes " : std_logic;\n" ∷ [])
unit_part_text units.Node nest unit = node_part nest unit
unit_part_text units.DoneTerm nest unit =
    with_number unit.auto.process (codes " and done_" ∷ [] ∷ [])

abbrev pub for_units : UnitPart → Nest → List Unit → List ℕ
for_units part nest all = flat_map (unit_part_text part nest) all

-- channel c of this capacity
abbrev pub instance_text : ℕ → ℕ → List ℕ
instance_text c capacity = concat (
    codes "  channel_" ∷ decimal c
    ∷ codes " : entity work.channel\n    generic map (\n      capacity => " ∷ decimal capacity
    ∷ with_number c (
    codes "\n    )\n    port map (\n      clk => clk,\n      rst => rst,\n      ready => ready_"
    ∷ codes ",\n      give => give_" ∷ codes ",\n      data => data_"
    ∷ codes ",\n      valid => valid_" ∷ codes ",\n      take => take_"
    ∷ codes ",\n      front => front_" ∷ codes "\n    );\n" ∷ []) ∷ [])

-- what there is for a channel with its number: its signals, and its instance
abbrev pub channel_part_text : ChannelPart → ℕ × Channel → List ℕ
channel_part_text Signals numbered = with_number numbered.0 (
    codes "  signal ready_" ∷ codes ", give_" ∷ codes ", valid_" ∷ codes ", take_"
    ∷ codes " : std_logic;\n  signal data_" ∷ codes ", front_" ∷ codes " : signed(63 downto 0);\n" ∷ [])
channel_part_text Instance numbered = instance_text numbered.0 numbered.1.capacity

abbrev pub for_channels : ChannelPart → List Channel → List ℕ
for_channels part channels = flat_map (channel_part_text part) (enumerate_from 0 channels)

-- `again` is held from the reset on, or raised for one clock while `done` is high. Where it falls while the network runs, a process may
-- have begun another round that the rest doesn't begin, and `done` may stay low until `again` is raised and held.
abbrev pub network_entity : Nest → List Unit → List ℕ
network_entity nest all = concat (
    library_lines
    ∷ codes "entity network is\n  port (\n    clk : in std_logic;\n    rst : in std_logic;\n    again : in std_logic;\n"
    ∷ for_units units.Ports nest all ∷ codes "    done : out std_logic\n  );\nend entity;\n" ∷ [])

-- the network is done where each node is
abbrev pub network_body : Nest → Network → List Unit → List ℕ
network_body nest network all = concat (
    codes "architecture rtl of network is\n" ∷ for_channels Signals network.channels
    ∷ for_units units.DoneSignal nest all ∷ codes "begin\n" ∷ for_units units.Node nest all
    ∷ for_channels Instance network.channels
    ∷ codes "  done <= '1'" ∷ for_units units.DoneTerm nest all ∷ codes ";\nend architecture;\n" ∷ [])

-- the version of the text, a line for each channel, the channel, the units, and the network
abbrev pub rtl_text : Nest → Network → List Unit → List ℕ
rtl_text nest network all = concat (
    codes "-- compaan rtl 1\n" ∷ channel_lines network.channels ∷ channel_text
    ∷ for_units units.Entities nest all ∷ network_entity nest all
    ∷ network_body nest network all ∷ [])
