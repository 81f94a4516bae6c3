-- What each port of a process's node is joined to in the network.
use Rattle.std.specs.Prelude.{ℕ, List, [], ◌∷◌, ◌++◌, codes, decimal}
use Rattle.std.specs.List.{concat, flat_map, join_by}
use Rattle.sanlp.specs.declared.nest.Nest.{Nest}
use Rattle.sanlp.specs.declared.nest.Role.{Role}
use Rattle.sanlp.specs.declared.nest.Role.TheVariants as role
use Rattle.unit_text.specs.declared.unit.Unit.{Unit}
use Rattle.unit_text.specs.Ports.{channel_port}
use Rattle.rtl_text.specs.Names.{array_name, port_name, way_out}

-- a port with the name of what it is joined to, which is the same
abbrev pub same : List ℕ → List ℕ × List ℕ
same name = (name, name)

-- the ports of a role with those of an array
abbrev pub array_joins : Nest → (value valid ready array way : List ℕ) → List (List ℕ × List ℕ)
array_joins nest value valid ready array way =
    (value, port_name nest array (codes "data") way)
    ∷ (valid, port_name nest array (codes "valid") way)
    ∷ (ready, port_name nest array (codes "ready") way) ∷ []

abbrev pub role_joins_of : Nest → Role → List (List ℕ × List ℕ)
role_joins_of nest (role.Source array) =
    array_joins nest (codes "given") (codes "given_valid") (codes "given_ready")
    (array_name nest array) []
role_joins_of nest role.Assign = []
role_joins_of nest (role.Sink array) =
    array_joins nest (codes "result") (codes "result_valid") (codes "result_ready")
    (array_name nest array) (way_out nest array)

-- a port of channel c with the network's signal of it
abbrev pub channel_join : ℕ → List ℕ → List ℕ × List ℕ
channel_join c part =
    (channel_port c (codes "_" ++ part), concat (part ∷ codes "_" ∷ decimal c ∷ []))

abbrev pub incoming_joins : ℕ → List (List ℕ × List ℕ)
incoming_joins c =
    channel_join c (codes "valid") ∷ channel_join c (codes "front")
    ∷ channel_join c (codes "take") ∷ []

abbrev pub outgoing_joins : ℕ → List (List ℕ × List ℕ)
outgoing_joins c =
    channel_join c (codes "ready") ∷ channel_join c (codes "data")
    ∷ channel_join c (codes "give") ∷ []

-- all of them, in order
abbrev pub joins : Nest → Unit → List (List ℕ × List ℕ)
joins nest unit =
    same (codes "clk") ∷ same (codes "rst") ∷ same (codes "again")
    ∷ (role_joins_of nest unit.auto.role ++ (flat_map incoming_joins unit.auto.gets
    ++ (flat_map outgoing_joins unit.auto.puts
    ++ (codes "done", codes "done_" ++ decimal unit.auto.process) ∷ [])))

abbrev pub join_line : List ℕ × List ℕ → List ℕ
join_line join = concat (codes "      " ∷ join.0 ∷ codes " => " ∷ join.1 ∷ [])

-- joins that another follows
abbrev pub join_lines : List (List ℕ × List ℕ) → List ℕ
join_lines all = flat_map (λ join. join_line join ++ codes ",\n") all

-- a node of process p with these joins
abbrev pub node_with : ℕ → List (List ℕ × List ℕ) → List ℕ
node_with p all = concat (
    codes "  node_" ∷ decimal p ∷ codes " : entity work.node_" ∷ decimal p
    ∷ codes "\n    port map (\n" ∷ join_by join_line (codes ",\n") all
    ∷ codes "\n    );\n" ∷ [])
