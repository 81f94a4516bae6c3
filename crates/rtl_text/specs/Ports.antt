-- The ports of the network's entity: the name of each, and its mode with its type.
use Rattle.std.specs.Prelude.{ℕ, List, [], ◌∷◌, ◌++◌, codes}
use Rattle.std.specs.List.{flat_map}
use Rattle.sanlp.specs.declared.nest.Nest.{Nest}
use Rattle.sanlp.specs.declared.nest.Role.{Role}
use Rattle.sanlp.specs.declared.nest.Role.TheVariants as role
use Rattle.unit_text.specs.declared.unit.Unit.{Unit}
use Rattle.unit_text.specs.Ports.{bit_in, bit_out, port_line, word_in, word_out}
use Rattle.rtl_text.specs.Names.{array_name, port_name, way_out}

-- the ports of an array: its data, that it is there, and that it is taken
abbrev pub array_ports : Nest → (array way value valid ready : List ℕ) → List (List ℕ × List ℕ)
array_ports nest array way value valid ready =
    (port_name nest array (codes "data") way, value)
    ∷ (port_name nest array (codes "valid") way, valid)
    ∷ (port_name nest array (codes "ready") way, ready) ∷ []

-- the values of a source come in, and those of a sink go out
abbrev pub outer_ports : Nest → Role → List (List ℕ × List ℕ)
outer_ports nest (role.Source array) =
    array_ports nest (array_name nest array) [] word_in bit_in bit_out
outer_ports nest role.Assign = []
outer_ports nest (role.Sink array) =
    array_ports nest (array_name nest array) (way_out nest array) word_out bit_out bit_in

-- the ports of the network's entity, in order: the fixed ones round those of the roles of its processes
abbrev pub network_ports : Nest → List Unit → List (List ℕ × List ℕ)
network_ports nest units =
    (codes "clk", bit_in) ∷ (codes "rst", bit_in) ∷ (codes "again", bit_in)
    ∷ (flat_map (λ unit. outer_ports nest unit.auto.role) units ++ (codes "done", bit_out) ∷ [])

-- ports as the entity has them, where another follows
abbrev pub port_lines : List (List ℕ × List ℕ) → List ℕ
port_lines ports = flat_map (λ port. port_line port ++ codes ";\n") ports
