-- What a node has for each of its channels.
use Rattle.std.specs.Prelude.{ℕ, ◌==◌, Bool, if◌then◌else◌, List, [], ◌∷◌, codes, decimal}
use Rattle.std.specs.List.{concat, flat_map, list_any}
use Rattle.node_automata.specs.declared.node.NodeAuto.{NodeAuto}
use Rattle.vhdl_text.specs.Numbered.{with_number}
use Rattle.vhdl_text.specs.declared.channels.Part.{Part}
use Rattle.vhdl_text.specs.declared.channels.Part.TheVariants.{PortsIn, PortsOut, Take, Give, Receive, Send}

-- an incoming channel leads from the process to itself
abbrev pub is_own : NodeAuto → ℕ → Bool
is_own a c = list_any (λ other. other == c) a.puts

-- such a channel's incoming data has a name of its own, since the outgoing data has the usual one
abbrev pub data_in : Bool → List ℕ
data_in own = if own then codes "_in" else codes "_data"

abbrev pub ports_in : Bool → ℕ → List ℕ
ports_in own c = concat (
    codes "    c" ∷ decimal c ∷ codes "_valid : in std_logic;\n"
    ∷ codes "    c" ∷ decimal c ∷ data_in own ∷ codes " : in signed(63 downto 0);\n"
    ∷ codes "    c" ∷ decimal c ∷ codes "_take : out std_logic;\n" ∷ [])

-- a Get waits until its channel is valid
abbrev pub receive_lines : Bool → ℕ → List ℕ
receive_lines own c = concat (
    codes "            if arg(pc) = " ∷ decimal c ∷ codes " and c" ∷ decimal c
    ∷ codes "_valid = '1' then\n"
    ∷ codes "              slot(dst(pc)) <= c" ∷ decimal c ∷ data_in own ∷ codes ";\n"
    ∷ codes "              pc <= pc + 1;\n            end if;\n" ∷ [])

-- The node takes from an incoming channel while its next event is a Get of it. It gives the value that was fired last to an
-- outgoing channel while its next event is a Put to it, which waits until the channel is ready.
abbrev pub part_text : Part → Bool → ℕ → List ℕ
part_text PortsIn own c = ports_in own c
part_text PortsOut own c = with_number c (
    codes "    c" ∷ codes "_ready : in std_logic;\n    c"
    ∷ codes "_data : out signed(63 downto 0);\n    c" ∷ codes "_give : out std_logic;\n" ∷ [])
part_text Take own c = with_number c (
    codes "  c" ∷ codes "_take <= '1' when op(pc) = 1 and arg(pc) = " ∷ codes " else '0';\n" ∷ [])
part_text Give own c = with_number c (
    codes "  c" ∷ codes "_data <= fired;\n  c"
    ∷ codes "_give <= '1' when op(pc) = 3 and arg(pc) = " ∷ codes " else '0';\n" ∷ [])
part_text Receive own c = receive_lines own c
part_text Send own c = with_number c (
    codes "            if arg(pc) = " ∷ codes " and c"
    ∷ codes "_ready = '1' then\n              pc <= pc + 1;\n            end if;\n" ∷ [])

-- the same for each of these channels
abbrev pub parts_text : Part → NodeAuto → List ℕ → List ℕ
parts_text part a channels = flat_map (λ c. part_text part (is_own a c) c) channels

-- a branch of the case statement says so where there is no channel
abbrev pub branch_text : Part → NodeAuto → List ℕ → List ℕ
branch_text part a [] = codes "            null;\n"
branch_text part a (c ∷ channels) = parts_text part a (c ∷ channels)
