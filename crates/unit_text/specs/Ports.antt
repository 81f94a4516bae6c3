-- The ports of a process's entity: the name of each, and its mode with its type.
use Rattle.std.specs.Prelude.{ℕ, List, [], ◌∷◌, ◌++◌, codes, decimal}
use Rattle.std.specs.List.{concat, flat_map, join_by}
use Rattle.sanlp.specs.declared.nest.Role.{Role}
use Rattle.sanlp.specs.declared.nest.Role.TheVariants.{Source, Assign, Sink}
use Rattle.unit_text.specs.declared.unit.Unit.{Unit}
use Rattle.sequencer_text.specs.Sequencers.{library_lines}

abbrev pub bit_in : List ℕ
bit_in = codes "in std_logic"

abbrev pub bit_out : List ℕ
bit_out = codes "out std_logic"

abbrev pub word_in : List ℕ
word_in = codes "in signed(63 downto 0)"

abbrev pub word_out : List ℕ
word_out = codes "out signed(63 downto 0)"

-- a source is given values, and a sink gives them out
abbrev pub role_ports : Role → List (List ℕ × List ℕ)
role_ports (Source array) =
    (codes "given", word_in) ∷ (codes "given_valid", bit_in) ∷ (codes "given_ready", bit_out) ∷ []
role_ports Assign = []
role_ports (Sink array) =
    (codes "result", word_out) ∷ (codes "result_valid", bit_out)
    ∷ (codes "result_ready", bit_in) ∷ []

-- a port of channel c
abbrev pub channel_port : ℕ → List ℕ → List ℕ
channel_port c part = concat (codes "c" ∷ decimal c ∷ part ∷ [])

-- those of an incoming channel, and of an outgoing one
abbrev pub incoming_ports : ℕ → List (List ℕ × List ℕ)
incoming_ports c =
    (channel_port c (codes "_valid"), bit_in) ∷ (channel_port c (codes "_front"), word_in)
    ∷ (channel_port c (codes "_take"), bit_out) ∷ []

abbrev pub outgoing_ports : ℕ → List (List ℕ × List ℕ)
outgoing_ports c =
    (channel_port c (codes "_ready"), bit_in) ∷ (channel_port c (codes "_data"), word_out)
    ∷ (channel_port c (codes "_give"), bit_out) ∷ []

-- all of them, in order
abbrev pub ports : Unit → List (List ℕ × List ℕ)
ports unit =
    (codes "clk", bit_in) ∷ (codes "rst", bit_in) ∷ (codes "again", bit_in)
    ∷ (role_ports unit.auto.role ++ (flat_map incoming_ports unit.auto.gets
    ++ (flat_map outgoing_ports unit.auto.puts ++ (codes "done", bit_out) ∷ [])))

-- a port as the entity has it
abbrev pub port_line : List ℕ × List ℕ → List ℕ
port_line port = concat (codes "    " ∷ port.0 ∷ codes " : " ∷ port.1 ∷ [])

-- an entity of this name with these ports
abbrev pub entity_with : List ℕ → List (List ℕ × List ℕ) → List ℕ
entity_with name all = concat (
    library_lines ∷ codes "entity " ∷ name ∷ codes " is\n  port (\n"
    ∷ join_by port_line (codes ";\n") all ∷ codes "\n  );\nend entity;\n" ∷ [])

-- the entity of process p
abbrev pub node_name : ℕ → List ℕ
node_name p = codes "node_" ++ decimal p
