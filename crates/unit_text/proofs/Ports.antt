-- The text of an entity is that of its ports in order.
--
-- The code writes a line end behind each port but the last, and the definition one between each two: both are one text, since
-- the last port is always there (`join_last`). The ports of a channel come three at once, and their lines with the line ends
-- are what the code writes for the channel (`lines_of_three`); so it is for those of a role, which are three or none. The
-- pieces of these lines are variables here, so that no letter of them matters but where the two texts are compared.
use Rattle.std.proofs.Common.{◌≡◌, ℕ, List, [], ◌∷◌, ◌++◌, codes, decimal, refl, sym, ap, ap₂, ◌∙◌, append_assoc, append-nil}
use Rattle.std.specs.List.{concat, flat_map, join_by}
use Rattle.std.proofs.lemmas.Grind.{flat_map-append}
use Rattle.sanlp.specs.declared.nest.Role.{Role}
use Rattle.sanlp.specs.declared.nest.Role.TheVariants.{Source, Assign, Sink}
use Rattle.sequencer_text.specs.Sequencers.{library_lines}
use Rattle.unit_text.specs.declared.node.Part.TheVariants.{PortsIn, PortsOut}
use Rattle.unit_text.specs.declared.node.RolePart.TheVariants as roles
use Rattle.unit_text.specs.declared.unit.Unit.{Unit}
use Rattle.unit_text.specs.Nodes.{entity_text, part_text, parts_text, role_text}
use Rattle.unit_text.specs.Ports.{bit_in, bit_out, entity_with, incoming_ports, node_name, outgoing_ports, port_line}
use Rattle.unit_text.specs.Ports.{ports, role_ports, word_in, word_out}

-- Pieces with something between them

regroup : (a b c d : List ℕ) → (a ++ b) ++ (a ++ (c ++ d)) ≡ a ++ (((b ++ a) ++ c) ++ d)
regroup a b c d = simp append_assoc

regroup_first : (a b c d : List ℕ) → a ++ (b ++ (c ++ d)) ≡ ((a ++ b) ++ c) ++ d
regroup_first a b c d = simp append_assoc

later_pieces : {X : Type 0} (f : X → List ℕ) (between : List ℕ) (xs : List X) (last : X)
    → flat_map (λ x. between ++ f x) (xs ++ last ∷ []) ≡ between ++ (flat_map (λ x. f x ++ between) xs ++ f last)
later_pieces f between [] last = append-nil (between ++ f last)
later_pieces f between (x ∷ xs) last =
    ap (λ (text : List ℕ). (between ++ f x) ++ text) (later_pieces f between xs last)
    ∙ regroup between (f x) (flat_map (λ x. f x ++ between) xs) (f last)

-- the pieces before the last with what stands behind each, and the last
pub join_last : {X : Type 0} (f : X → List ℕ) (between : List ℕ) (xs : List X) (last : X)
    → join_by f between (xs ++ last ∷ []) ≡ flat_map (λ x. f x ++ between) xs ++ f last
join_last f between [] last = append-nil (f last)
join_last f between (x ∷ xs) last =
    ap (λ (text : List ℕ). f x ++ text) (later_pieces f between xs last)
    ∙ regroup_first (f x) between (flat_map (λ x. f x ++ between) xs) (f last)

-- what stands at the end of three lists
pub list_end : {X : Type 0} (xs ys zs end : List X) → xs ++ (ys ++ (zs ++ end)) ≡ (xs ++ (ys ++ zs)) ++ end
list_end xs ys zs end = simp append_assoc

entity_regroup : (h k p i l r g q d e : List ℕ)
    → ((h ++ k) ++ ((p ++ (i ++ l)) ++ [])) ++ (r ++ (g ++ (q ++ (d ++ e))))
    ≡ h ++ ((k ++ p) ++ (i ++ (((l ++ (r ++ (g ++ q))) ++ d) ++ e)))
entity_regroup h k p i l r g q d e = simp (append_assoc, append-nil)

-- lists of lists, one after the other
pub flat_map_of_flat_map : {X Y : Type 0} (g : Y → List ℕ) (f : X → List Y) (text : X → List ℕ)
    → ((x : X) → flat_map g (f x) ≡ text x) → (xs : List X)
    → flat_map g (flat_map f xs) ≡ flat_map text xs
flat_map_of_flat_map g f text each [] = refl
flat_map_of_flat_map g f text each (x ∷ xs) =
    flat_map-append g (f x) (flat_map f xs)
    ∙ ap₂ (λ (a b : List ℕ). a ++ b) (each x) (flat_map_of_flat_map g f text each xs)

-- Ports

-- the lines of a channel's three ports: what is before each, the beginning of its name, the channel, the end of its name, what is
-- before its type, the type, and what is behind it
lines_of_three : (in_front name c colon behind p q r s t u : List ℕ)
    → flat_map (λ (port : List ℕ × List ℕ). concat (in_front ∷ port.0 ∷ colon ∷ port.1 ∷ []) ++ behind)
    ((concat (name ∷ c ∷ p ∷ []), s) ∷ (concat (name ∷ c ∷ q ∷ []), t) ∷ (concat (name ∷ c ∷ r ∷ []), u) ∷ [])
    ≡ join_by (λ (piece : List ℕ). piece) c
    ((in_front ++ name) ∷ (p ++ (colon ++ (s ++ (behind ++ (in_front ++ name)))))
    ∷ (q ++ (colon ++ (t ++ (behind ++ (in_front ++ name))))) ∷ (r ++ (colon ++ (u ++ behind))) ∷ [])
lines_of_three in_front name c colon behind p q r s t u = simp (append_assoc, append-nil)

abbrev line : List ℕ × List ℕ → List ℕ
line port = port_line port ++ codes ";\n"

incoming_lines : (c : ℕ) → flat_map line (incoming_ports c) ≡ part_text PortsIn c
incoming_lines c =
    lines_of_three (codes "    ") (codes "c") (decimal c) (codes " : ") (codes ";\n") (codes "_valid") (codes "_front")
    (codes "_take") bit_in word_in bit_out

outgoing_lines : (c : ℕ) → flat_map line (outgoing_ports c) ≡ part_text PortsOut c
outgoing_lines c =
    lines_of_three (codes "    ") (codes "c") (decimal c) (codes " : ") (codes ";\n") (codes "_ready") (codes "_data")
    (codes "_give") bit_in word_out bit_out

role_lines : (role : Role) → flat_map line (role_ports role) ≡ role_text roles.Ports role
role_lines (Source array) = refl
role_lines Assign = refl
role_lines (Sink array) = refl

module _ (unit : Unit) where
  abbrev others : List (List ℕ × List ℕ)
  others = role_ports unit.auto.role
      ++ (flat_map incoming_ports unit.auto.gets ++ flat_map outgoing_ports unit.auto.puts)

  abbrev first_ports : List (List ℕ × List ℕ)
  first_ports = (codes "clk", bit_in) ∷ (codes "rst", bit_in) ∷ (codes "again", bit_in) ∷ others

  abbrev other_lines : List ℕ
  other_lines = role_text roles.Ports unit.auto.role
      ++ (parts_text PortsIn unit.auto.gets ++ parts_text PortsOut unit.auto.puts)

  lines_of_others : flat_map line others ≡ other_lines
  lines_of_others =
      flat_map-append line (role_ports unit.auto.role)
      (flat_map incoming_ports unit.auto.gets ++ flat_map outgoing_ports unit.auto.puts)
      ∙ ap₂ (λ (a b : List ℕ). a ++ b) (role_lines unit.auto.role)
      (flat_map-append line (flat_map incoming_ports unit.auto.gets) (flat_map outgoing_ports unit.auto.puts)
      ∙ ap₂ (λ (a b : List ℕ). a ++ b)
      (flat_map_of_flat_map line incoming_ports (part_text PortsIn) incoming_lines unit.auto.gets)
      (flat_map_of_flat_map line outgoing_ports (part_text PortsOut) outgoing_lines unit.auto.puts))

  ports_split : ports unit ≡ first_ports ++ (codes "done", bit_out) ∷ []
  ports_split =
      ap (λ (xs : List (List ℕ × List ℕ)). (codes "clk", bit_in) ∷ (codes "rst", bit_in) ∷ (codes "again", bit_in) ∷ xs)
      (list_end (role_ports unit.auto.role) (flat_map incoming_ports unit.auto.gets)
      (flat_map outgoing_ports unit.auto.puts) ((codes "done", bit_out) ∷ []))

  joined : join_by port_line (codes ";\n") (ports unit)
      ≡ (codes "    clk : in std_logic;\n    rst : in std_logic;\n    again : in std_logic;\n" ++ other_lines)
      ++ codes "    done : out std_logic"
  joined =
      ap (join_by port_line (codes ";\n")) ports_split
      ∙ join_last port_line (codes ";\n") first_ports (codes "done", bit_out)
      ∙ ap (λ (text : List ℕ).
      (codes "    clk : in std_logic;\n    rst : in std_logic;\n    again : in std_logic;\n" ++ text)
      ++ codes "    done : out std_logic") lines_of_others

  pub entity_has_ports : entity_text unit ≡ entity_with (node_name unit.auto.process) (ports unit)
  entity_has_ports =
      entity_regroup (library_lines ++ codes "entity ") (codes "node_") (decimal unit.auto.process)
      (codes " is\n  port (\n")
      (codes "    clk : in std_logic;\n    rst : in std_logic;\n    again : in std_logic;\n")
      (role_text roles.Ports unit.auto.role) (parts_text PortsIn unit.auto.gets) (parts_text PortsOut unit.auto.puts)
      (codes "    done : out std_logic") (codes "\n  );\nend entity;\n")
      ∙ ap (λ (text : List ℕ). (library_lines ++ codes "entity ")
      ++ (node_name unit.auto.process ++ (codes " is\n  port (\n" ++ (text ++ codes "\n  );\nend entity;\n"))))
      (sym joined)
