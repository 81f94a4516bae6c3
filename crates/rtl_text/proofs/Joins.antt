-- The text of a node in the network is that of what its ports are joined to, in the order of the ports of its entity.
--
-- As of the ports (`unit_text.proofs.Ports`): the code writes a line end behind each join but the last, and the definition one
-- between each two. The joins of a channel come three at once, and their lines are what the code writes for the channel. The
-- pieces of these lines are variables here, so that no letter of them matters. That the names of the joins are those of the
-- ports goes part by part; to what each is joined isn't said by that.
use Rattle.std.proofs.Common.{◌≡◌, ℕ, List, [], ◌∷◌, ◌++◌, codes, decimal, map, refl, sym, ap, ap₂, ◌∙◌, append_assoc, append-nil}
use Rattle.std.specs.List.{concat, flat_map, join_by}
use Rattle.std.proofs.lemmas.Grind.{flat_map-append}
use Rattle.std.proofs.lemmas.List.{map-append}
use Rattle.sanlp.specs.declared.nest.Nest.{Nest}
use Rattle.sanlp.specs.declared.nest.Role.{Role}
use Rattle.sanlp.specs.declared.nest.Role.TheVariants.{Source, Assign, Sink}
use Rattle.unit_text.specs.declared.unit.Unit.{Unit}
use Rattle.unit_text.specs.Ports.{bit_out, incoming_ports, outgoing_ports, ports, role_ports}
use Rattle.unit_text.proofs.Ports.{flat_map_of_flat_map, join_last, list_end}
use Rattle.rtl_text.specs.declared.network.End.TheVariants.{Reader, Writer}
use Rattle.rtl_text.specs.Joins.{incoming_joins, join_line, join_lines, joins, node_with, outgoing_joins, role_joins_of, same}
use Rattle.rtl_text.specs.Networks.{joins_text, node_part}

-- Lines

-- of a channel's three joins
three_joins : (in_front name c arrow under behind p q r x y z : List ℕ)
    → flat_map (λ (join : List ℕ × List ℕ). concat (in_front ∷ join.0 ∷ arrow ∷ join.1 ∷ []) ++ behind)
    ((concat (name ∷ c ∷ p ∷ []), concat (x ∷ under ∷ c ∷ []))
    ∷ (concat (name ∷ c ∷ q ∷ []), concat (y ∷ under ∷ c ∷ []))
    ∷ (concat (name ∷ c ∷ r ∷ []), concat (z ∷ under ∷ c ∷ [])) ∷ [])
    ≡ join_by (λ (piece : List ℕ). piece) c
    ((in_front ++ name) ∷ (p ++ (arrow ++ (x ++ under))) ∷ (behind ++ (in_front ++ name))
    ∷ (q ++ (arrow ++ (y ++ under))) ∷ (behind ++ (in_front ++ name)) ∷ (r ++ (arrow ++ (z ++ under))) ∷ behind ∷ [])
three_joins in_front name c arrow under behind p q r x y z = simp (append_assoc, append-nil)

abbrev line : List ℕ × List ℕ → List ℕ
line join = join_line join ++ codes ",\n"

incoming_lines : (c : ℕ) → flat_map line (incoming_joins c) ≡ joins_text Reader c
unfolding joins_text
incoming_lines c =
    three_joins (codes "      ") (codes "c") (decimal c) (codes " => ") (codes "_") (codes ",\n") (codes "_valid") (codes "_front")
    (codes "_take") (codes "valid") (codes "front") (codes "take")

outgoing_lines : (c : ℕ) → flat_map line (outgoing_joins c) ≡ joins_text Writer c
unfolding joins_text
outgoing_lines c =
    three_joins (codes "      ") (codes "c") (decimal c) (codes " => ") (codes "_") (codes ",\n") (codes "_ready") (codes "_data")
    (codes "_give") (codes "ready") (codes "data") (codes "give")

node_regroup : (a d b i l r g q t e : List ℕ)
    → (a ++ ((d ++ b) ++ ((d ++ (i ++ l)) ++ []))) ++ (r ++ (g ++ (q ++ ((t ++ ((d ++ e) ++ [])) ++ []))))
    ≡ a ++ (d ++ (b ++ (d ++ (i ++ (((l ++ (r ++ (g ++ q))) ++ (t ++ (d ++ []))) ++ e)))))
node_regroup a d b i l r g q t e = simp (append_assoc, append-nil)

module _ (nest : Nest) (unit : Unit) where
  abbrev others : List (List ℕ × List ℕ)
  others = role_joins_of nest unit.auto.role
      ++ (flat_map incoming_joins unit.auto.gets ++ flat_map outgoing_joins unit.auto.puts)

  abbrev first_joins : List (List ℕ × List ℕ)
  first_joins = same (codes "clk") ∷ same (codes "rst") ∷ same (codes "again") ∷ others

  abbrev done : List ℕ × List ℕ
  done = (codes "done", codes "done_" ++ decimal unit.auto.process)

  abbrev other_lines : List ℕ
  other_lines = join_lines (role_joins_of nest unit.auto.role)
      ++ (flat_map (joins_text Reader) unit.auto.gets ++ flat_map (joins_text Writer) unit.auto.puts)

  lines_of_others : flat_map line others ≡ other_lines
  lines_of_others =
      flat_map-append line (role_joins_of nest unit.auto.role)
      (flat_map incoming_joins unit.auto.gets ++ flat_map outgoing_joins unit.auto.puts)
      ∙ ap (λ (b : List ℕ). join_lines (role_joins_of nest unit.auto.role) ++ b)
      (flat_map-append line (flat_map incoming_joins unit.auto.gets) (flat_map outgoing_joins unit.auto.puts)
      ∙ ap₂ (λ (a b : List ℕ). a ++ b) (flat_map_of_flat_map line incoming_joins (joins_text Reader) incoming_lines unit.auto.gets)
      (flat_map_of_flat_map line outgoing_joins (joins_text Writer) outgoing_lines unit.auto.puts))

  joined : join_by join_line (codes ",\n") (joins nest unit)
      ≡ (codes "      clk => clk,\n      rst => rst,\n      again => again,\n" ++ other_lines)
      ++ (codes "      done => done_" ++ (decimal unit.auto.process ++ []))
  joined =
      ap (λ (xs : List (List ℕ × List ℕ)). join_by join_line (codes ",\n")
      (same (codes "clk") ∷ same (codes "rst") ∷ same (codes "again") ∷ xs))
      (list_end (role_joins_of nest unit.auto.role) (flat_map incoming_joins unit.auto.gets)
      (flat_map outgoing_joins unit.auto.puts) (done ∷ []))
      ∙ join_last join_line (codes ",\n") first_joins done
      ∙ ap (λ (text : List ℕ).
      (codes "      clk => clk,\n      rst => rst,\n      again => again,\n" ++ text)
      ++ (codes "      done => done_" ++ (decimal unit.auto.process ++ []))) lines_of_others

  pub node_has_joins : node_part nest unit ≡ node_with unit.auto.process (joins nest unit)
  node_has_joins =
      node_regroup (codes "  node_") (decimal unit.auto.process) (codes " : entity work.node_")
      (codes "\n    port map (\n") (codes "      clk => clk,\n      rst => rst,\n      again => again,\n")
      (join_lines (role_joins_of nest unit.auto.role)) (flat_map (joins_text Reader) unit.auto.gets) (flat_map (joins_text Writer) unit.auto.puts)
      (codes "      done => done_") (codes "\n    );\n")
      ∙ ap (λ (text : List ℕ). codes "  node_" ++ (decimal unit.auto.process ++ (codes " : entity work.node_"
      ++ (decimal unit.auto.process ++ (codes "\n    port map (\n" ++ (text ++ codes "\n    );\n")))))) (sym joined)

-- Names

abbrev name : List ℕ × List ℕ → List ℕ
name port = port.0

names_of_flat_map : (f g : ℕ → List (List ℕ × List ℕ)) → ((c : ℕ) → map name (f c) ≡ map name (g c)) → (cs : List ℕ)
    → map name (flat_map f cs) ≡ map name (flat_map g cs)
names_of_flat_map f g each [] = refl
names_of_flat_map f g each (c ∷ cs) =
    map-append name (f c) (flat_map f cs)
    ∙ ap₂ (λ (a b : List (List ℕ)). a ++ b) (each c) (names_of_flat_map f g each cs)
    ∙ sym (map-append name (g c) (flat_map g cs))

names_of_role : (nest : Nest) (role : Role) → map name (role_joins_of nest role) ≡ map name (role_ports role)
names_of_role nest (Source array) = refl
names_of_role nest Assign = refl
names_of_role nest (Sink array) = refl

-- the names of lists one after the other
names_of_parts : (xs xs2 ys ys2 zs zs2 : List (List ℕ × List ℕ)) (end end2 : List ℕ × List ℕ)
    → map name xs ≡ map name xs2 → map name ys ≡ map name ys2 → map name zs ≡ map name zs2 → name end ≡ name end2
    → map name (xs ++ (ys ++ (zs ++ end ∷ []))) ≡ map name (xs2 ++ (ys2 ++ (zs2 ++ end2 ∷ [])))
names_of_parts xs xs2 ys ys2 zs zs2 end end2 x y z e =
    let last : map name (zs ++ end ∷ []) ≡ map name (zs2 ++ end2 ∷ []) =
    map-append name zs (end ∷ []) ∙ ap₂ (λ (a : List (List ℕ)) (b : List ℕ). a ++ b ∷ []) z e
    ∙ sym (map-append name zs2 (end2 ∷ [])) in
    let later : map name (ys ++ (zs ++ end ∷ [])) ≡ map name (ys2 ++ (zs2 ++ end2 ∷ [])) =
    map-append name ys (zs ++ end ∷ []) ∙ ap₂ (λ (a b : List (List ℕ)). a ++ b) y last
    ∙ sym (map-append name ys2 (zs2 ++ end2 ∷ [])) in
    map-append name xs (ys ++ (zs ++ end ∷ [])) ∙ ap₂ (λ (a b : List (List ℕ)). a ++ b) x later
    ∙ sym (map-append name xs2 (ys2 ++ (zs2 ++ end2 ∷ [])))

pub joins_have_names : (nest : Nest) (unit : Unit) → map name (joins nest unit) ≡ map name (ports unit)
joins_have_names nest unit =
    ap (λ (ns : List (List ℕ)). codes "clk" ∷ codes "rst" ∷ codes "again" ∷ ns)
    (names_of_parts (role_joins_of nest unit.auto.role) (role_ports unit.auto.role)
    (flat_map incoming_joins unit.auto.gets) (flat_map incoming_ports unit.auto.gets)
    (flat_map outgoing_joins unit.auto.puts) (flat_map outgoing_ports unit.auto.puts)
    (codes "done", codes "done_" ++ decimal unit.auto.process) (codes "done", bit_out)
    (names_of_role nest unit.auto.role) (names_of_flat_map incoming_joins incoming_ports (λ c. refl) unit.auto.gets)
    (names_of_flat_map outgoing_joins outgoing_ports (λ c. refl) unit.auto.puts) refl)
