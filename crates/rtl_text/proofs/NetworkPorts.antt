-- The ports of the network: the entity has these and no others, and no two of them have one name.
--
-- The roles of the units are those of the nest's statements: the sources of the arrays that are given, assignments, and the sinks
-- of the arrays that are printed. So the names of the ports between the fixed ones come array by array, three for each source,
-- and behind them three for each sink; where an array has both, the sink's have another ending. A key is the stem of an array's
-- name with an ending, and its port's name tells it (`told`), so that names differ where keys do; and keys differ since the stems
-- of a nest's arrays do. Each name has an underscore, and no fixed one has. Of the signals of the network's architecture nothing is
-- said here.
use Rattle.std.proofs.Common.{◌≡◌, ◌≢◌, ◌+◌, ℕ, zero, suc, Bool, true, false, cond, Option, Some, List, [], ◌∷◌, ◌++◌}
use Rattle.std.proofs.Common.{codes, get_or, map, length, replicate, slice_get, refl, sym, ap, ap₂, ◌∙◌, append_assoc, arith}
use Rattle.std.specs.List.{AllZip, enumerate_from, flat_map, join_by}
use Rattle.std.specs.Option.{option_map_or}
use Rattle.std.proofs.lemmas.Bool.{false≢true}
use Rattle.std.proofs.lemmas.Grind.{flat_map-append}
use Rattle.std.proofs.lemmas.List.{length-append, map-append}
use Rattle.std.proofs.lemmas.List.Folds.{flat_map-map}
use Rattle.plain_data.proofs.Lists.{slice_get-append_cons}
use Rattle.sanlp.specs.Cells.{is_input, is_output}
use Rattle.sanlp.specs.declared.nest.ArrayDecl.{ArrayDecl}
use Rattle.sanlp.specs.declared.nest.Kind.{Kind}
use Rattle.sanlp.specs.declared.nest.Kind.TheVariants.{Input, Output, Both, Var}
use Rattle.sanlp.specs.declared.nest.Nest.{Nest}
use Rattle.sanlp.specs.declared.nest.Role.{Role}
use Rattle.sanlp.specs.declared.nest.Role.TheVariants.{Source, Assign, Sink}
use Rattle.sanlp.specs.declared.nest.Statement.{Statement}
use Rattle.sanlp.specs.WellFormed.{all_differ, input_numbers, numbers_from, output_numbers, roles_of}
use Rattle.net_core.specs.declared.network.Network.{Network}
use Rattle.node_automata.specs.Automata.{automaton_of}
use Rattle.node_automata.specs.declared.node.NodeAuto.{NodeAuto}
use Rattle.sequencer_text.specs.Sequencers.{library_lines}
use Rattle.unit_text.specs.declared.unit.Unit.{Unit}
use Rattle.unit_text.specs.Ports.{bit_in, bit_out, entity_with, port_line, word_in, word_out}
use Rattle.unit_text.specs.Units.{IsUnitOf}
use Rattle.unit_text.proofs.Ports.{flat_map_of_flat_map, join_last}
use Rattle.rtl_text.specs.declared.network.UnitPart.TheVariants as units
use Rattle.rtl_text.specs.Designs.{AreUnitsOf}
use Rattle.rtl_text.specs.Names.{as_read, is_bare}
use Rattle.rtl_text.specs.Networks.{for_units, network_entity}
use Rattle.rtl_text.specs.Ports.{array_ports, network_ports, outer_ports, port_lines}
use Rattle.rtl_text.proofs.Differences.{Apart, Differ, Each, differ_append, differ_from, differ_map, differ_to, each_append}
use Rattle.rtl_text.proofs.Differences.{keys_apart, keys_differ}
use Rattle.rtl_text.proofs.PortNames.{Ending, has_underscore, named, named_has, read_same, ready, ready_out, stem_of, stems_differ, text, told}
use Rattle.rtl_text.proofs.PortNames.{valid, valid_out, value, value_out}

-- The entity

abbrev line : List ℕ × List ℕ → List ℕ
line port = port_line port ++ codes ";\n"

module _ (nest : Nest) (all : List Unit) where
  abbrev port_of_unit : Unit → List (List ℕ × List ℕ)
  port_of_unit unit = outer_ports nest unit.auto.role

  abbrev first_ports : List (List ℕ × List ℕ)
  first_ports =
      (codes "clk", bit_in) ∷ (codes "rst", bit_in) ∷ (codes "again", bit_in) ∷ flat_map port_of_unit all

  abbrev fixed_lines : List ℕ
  fixed_lines = codes "    clk : in std_logic;\n    rst : in std_logic;\n    again : in std_logic;\n"

  joined : join_by port_line (codes ";\n") (network_ports nest all)
      ≡ (fixed_lines ++ for_units units.Ports nest all) ++ codes "    done : out std_logic"
  joined =
      join_last port_line (codes ";\n") first_ports (codes "done", bit_out)
      ∙ ap (λ (text : List ℕ). (fixed_lines ++ text) ++ codes "    done : out std_logic")
      (flat_map_of_flat_map line port_of_unit
      (λ (unit : Unit). port_lines (port_of_unit unit)) (λ unit. refl) all)

  pub entity_has_network_ports : network_entity nest all ≡ entity_with (codes "network") (network_ports nest all)
  entity_has_network_ports =
      sym (ap (λ (text : List ℕ). (library_lines ++ codes "entity network is\n  port (\n") ++ (text ++ codes "\n  );\nend entity;\n"))
      joined
      ∙ ap (λ (text : List ℕ). (library_lines ++ codes "entity network is\n  port (\n") ++ text)
      (append_assoc (fixed_lines ++ for_units units.Ports nest all) (codes "    done : out std_logic")
      (codes "\n  );\nend entity;\n")
      ∙ append_assoc fixed_lines (for_units units.Ports nest all) (codes "    done : out std_logic\n  );\nend entity;\n")))

-- Keys

abbrev pub Key : Type 0
Key = List ℕ × Ending

abbrev pub key : List ℕ → Ending → Key
key m s = (m, s)

abbrev pub key_name : Key → List ℕ
key_name key = named key.0 key.1

abbrev pub three : List ℕ → Ending → Ending → Ending → List Key
three m a b c = key m a ∷ key m b ∷ key m c ∷ []

abbrev pub source_keys_of : List ℕ → Kind → List Key
source_keys_of m Input = three m value valid ready
source_keys_of m Output = []
source_keys_of m Both = three m value valid ready
source_keys_of m Var = []

abbrev pub sink_keys_of : List ℕ → Kind → List Key
sink_keys_of m Input = []
sink_keys_of m Output = three m value valid ready
sink_keys_of m Both = three m value_out valid_out ready_out
sink_keys_of m Var = []

abbrev pub source_keys : Nest → ArrayDecl → List Key
source_keys nest array = source_keys_of (stem_of nest array.name) array.kind

abbrev pub sink_keys : Nest → ArrayDecl → List Key
sink_keys nest array = sink_keys_of (stem_of nest array.name) array.kind

abbrev pub keys : Nest → List Key
keys nest = flat_map (source_keys nest) nest.arrays ++ flat_map (sink_keys nest) nest.arrays

key_told : (k l : Key) → key_name k ≡ key_name l → k ≡ l
key_told k l e =
    let both = told k.0 l.0 k.1 l.1 e in
    ap₂ key both.0 both.1

-- of one array
source_named : (m : List ℕ) (kind : Kind) → Each (λ (k : Key). k.0 ≡ m) (source_keys_of m kind)
source_named m Input = (refl, (refl, (refl, tt)))
source_named m Output = tt
source_named m Both = (refl, (refl, (refl, tt)))
source_named m Var = tt

sink_named : (m : List ℕ) (kind : Kind) → Each (λ (k : Key). k.0 ≡ m) (sink_keys_of m kind)
sink_named m Input = tt
sink_named m Output = (refl, (refl, (refl, tt)))
sink_named m Both = (refl, (refl, (refl, tt)))
sink_named m Var = tt

other_ending : (m : List ℕ) (a b : Ending) → a ≢ b → key m a ≢ key m b
other_ending m a b ne = λ e. ne (ap (λ (k : Key). k.1) e)

three_differ : (m : List ℕ) (a b c : Ending) → a ≢ b → a ≢ c → b ≢ c → Differ (three m a b c)
three_differ m a b c ab ac bc =
    ((other_ending m a b ab, (other_ending m a c ac, tt)), ((other_ending m b c bc, tt), (tt, tt)))

plain_differ : (m : List ℕ) → Differ (three m value valid ready)
plain_differ m = three_differ m value valid ready (λ e. cc) (λ e. cc) (λ e. cc)

out_differ : (m : List ℕ) → Differ (three m value_out valid_out ready_out)
out_differ m = three_differ m value_out valid_out ready_out (λ e. cc) (λ e. cc) (λ e. cc)

source_differ : (m : List ℕ) (kind : Kind) → Differ (source_keys_of m kind)
source_differ m Input = plain_differ m
source_differ m Output = tt
source_differ m Both = plain_differ m
source_differ m Var = tt

sink_differ : (m : List ℕ) (kind : Kind) → Differ (sink_keys_of m kind)
sink_differ m Input = tt
sink_differ m Output = plain_differ m
sink_differ m Both = out_differ m
sink_differ m Var = tt

out_apart : (m : List ℕ) (a : Ending) → a ≢ value_out → a ≢ valid_out → a ≢ ready_out
    → Apart (key m a) (three m value_out valid_out ready_out)
out_apart m a p q r =
    (other_ending m a value_out p, (other_ending m a valid_out q, (other_ending m a ready_out r, tt)))

own_apart : (m : List ℕ) (kind : Kind) → Each (λ (k : Key). Apart k (sink_keys_of m kind)) (source_keys_of m kind)
own_apart m Input = (tt, (tt, (tt, tt)))
own_apart m Output = tt
own_apart m Both = (
  out_apart m value (λ e. cc) (λ e. cc) (λ e. cc),
  (out_apart m valid (λ e. cc) (λ e. cc) (λ e. cc), (out_apart m ready (λ e. cc) (λ e. cc) (λ e. cc), tt)),
)
own_apart m Var = tt

-- of all of them
module _ (nest : Nest) (names : Differ (map (λ array. array.name) nest.arrays)) where
  abbrev stem_at : ArrayDecl → List ℕ
  stem_at array = stem_of nest array.name

  all_keys_differ : Differ (keys nest)
  all_keys_differ =
      let stems = stems_differ nest names in
      differ_append (flat_map (source_keys nest) nest.arrays) (flat_map (sink_keys nest) nest.arrays)
      (keys_differ stem_at (λ (k : Key). k.0) (source_keys nest)
      (λ array. source_named (stem_at array) array.kind) (λ array. source_differ (stem_at array) array.kind) nest.arrays stems)
      (keys_differ stem_at (λ (k : Key). k.0) (sink_keys nest)
      (λ array. sink_named (stem_at array) array.kind) (λ array. sink_differ (stem_at array) array.kind) nest.arrays stems)
      (keys_apart stem_at (λ (k : Key). k.0) (source_keys nest) (sink_keys nest)
      (λ array. source_named (stem_at array) array.kind) (λ array. sink_named (stem_at array) array.kind)
      (λ array. own_apart (stem_at array) array.kind) nest.arrays stems)

-- a port has an underscore, and no fixed name has
other_key : (word : List ℕ) → has_underscore word ≡ false → (k : Key) → word ≢ key_name k
other_key word none k = λ e. false≢true (sym none ∙ ap has_underscore e ∙ named_has k.0 k.1)

word_apart : (word : List ℕ) → has_underscore word ≡ false → (ks : List Key) → Apart word (map key_name ks)
word_apart word none [] = tt
word_apart word none (k ∷ ks) = (other_key word none k, word_apart word none ks)

word_behind : (word : List ℕ) → has_underscore word ≡ false → (ks : List Key) → Each (λ name. Apart name (word ∷ [])) (map key_name ks)
word_behind word none [] = tt
word_behind word none (k ∷ ks) = (((λ e. other_key word none k (sym e)), tt), word_behind word none ks)

apart_end : (word other : List ℕ) → word ≢ other → (names : List (List ℕ)) → Apart word names → Apart word (names ++ other ∷ [])
apart_end word other ne names apart = each_append (λ name. word ≢ name) names (other ∷ []) apart (ne, tt)

abbrev pub with_fixed : List (List ℕ) → List (List ℕ)
with_fixed names = codes "clk" ∷ codes "rst" ∷ codes "again" ∷ (names ++ codes "done" ∷ [])

other_word : (x y : ℕ) (xs ys : List ℕ) → x ≢ y → x ∷ xs ≢ y ∷ ys
other_word x y xs ys ne = λ e. ne (ap (λ (word : List ℕ). get_or word 0 0) e)

clk_rst : codes "clk" ≢ codes "rst"
clk_rst = other_word 99 114 (codes "lk") (codes "st") (λ e. omega (arith, e))

clk_again : codes "clk" ≢ codes "again"
clk_again = other_word 99 97 (codes "lk") (codes "gain") (λ e. omega (arith, e))

clk_done : codes "clk" ≢ codes "done"
clk_done = other_word 99 100 (codes "lk") (codes "one") (λ e. omega (arith, e))

rst_again : codes "rst" ≢ codes "again"
rst_again = other_word 114 97 (codes "st") (codes "gain") (λ e. omega (arith, e))

rst_done : codes "rst" ≢ codes "done"
rst_done = other_word 114 100 (codes "st") (codes "one") (λ e. omega (arith, e))

again_done : codes "again" ≢ codes "done"
again_done = other_word 97 100 (codes "gain") (codes "one") (λ e. omega (arith, e))

fixed_differ : (ks : List Key) → Differ ks → Differ (with_fixed (map key_name ks))
fixed_differ ks d =
    let names = map key_name ks in (
      (clk_rst, (clk_again, apart_end (codes "clk") (codes "done") clk_done names (word_apart (codes "clk") refl ks))),
      (
        (rst_again, apart_end (codes "rst") (codes "done") rst_done names (word_apart (codes "rst") refl ks)),
        (
          apart_end (codes "again") (codes "done") again_done names (word_apart (codes "again") refl ks),
          differ_append names (codes "done" ∷ []) (differ_map key_name key_told ks d) (tt, tt)
              (word_behind (codes "done") refl ks),
        ),
      ),
    )

-- The names of the ports are those of the keys

abbrev read_name : List ℕ × List ℕ → List ℕ
read_name port = as_read port.0

module _ (nest : Nest) where
  -- the names of a role's ports, by what the number of its array stands for
  abbrev source_names : Option ArrayDecl → List (List ℕ)
  source_names found =
      map read_name (array_ports nest (option_map_or (λ declared. declared.name) found []) [] word_in bit_in bit_out)

  abbrev sink_names : Option ArrayDecl → List (List ℕ)
  sink_names found =
      map read_name (array_ports nest (option_map_or (λ declared. declared.name) found [])
      (option_map_or (λ declared. cond (is_input declared.kind) (codes "_out") []) found []) word_out bit_out bit_in)

  -- a port's name by its array's and its ending
  abbrev written : List ℕ → Ending → List ℕ
  written m s = cond (is_bare nest m) (m ++ text s) (92 ∷ (m ++ (text s ++ 92 ∷ [])))

  three_same : (m : List ℕ) (a b c : Ending)
      → as_read (written m a) ∷ as_read (written m b) ∷ as_read (written m c) ∷ []
      ≡ named (stem_of nest m) a ∷ named (stem_of nest m) b ∷ named (stem_of nest m) c ∷ []
  three_same m a b c =
      ap₂ (λ (x : List ℕ) (ys : List (List ℕ)). x ∷ ys) (read_same nest m a)
      (ap₂ (λ (x y : List ℕ). x ∷ y ∷ []) (read_same nest m b) (read_same nest m c))

  source_at : (m : List ℕ) (kind : Kind)
      → cond (is_input kind) (map read_name (array_ports nest m [] word_in bit_in bit_out)) []
      ≡ map key_name (source_keys_of (stem_of nest m) kind)
  source_at m Input = three_same m value valid ready
  source_at m Output = refl
  source_at m Both = three_same m value valid ready
  source_at m Var = refl

  sink_at : (m : List ℕ) (kind : Kind)
      → cond (is_output kind)
      (map read_name (array_ports nest m (cond (is_input kind) (codes "_out") []) word_out bit_out bit_in)) []
      ≡ map key_name (sink_keys_of (stem_of nest m) kind)
  sink_at m Input = refl
  sink_at m Output = three_same m value valid ready
  sink_at m Both = three_same m value_out valid_out ready_out
  sink_at m Var = refl

-- what the numbers of the arrays that pass stand for, array by array
module _ (passes : ArrayDecl → Bool) (f : Option ArrayDecl → List (List ℕ)) where
  abbrev at_numbers : List ArrayDecl → ℕ → List ArrayDecl → List (List ℕ)
  at_numbers arrays k rest = flat_map (λ a. f (slice_get arrays a)) (numbers_from passes k rest)

  abbrev at_arrays : List ArrayDecl → List (List ℕ)
  at_arrays rest = flat_map (λ array. cond (passes array) (f (Some array)) []) rest

  one_passes : (arrays : List ArrayDecl) (k : ℕ) (array : ArrayDecl) (rest : List ArrayDecl) → slice_get arrays k ≡ Some array
      → (b : Bool) → flat_map (λ a. f (slice_get arrays a)) (cond b (k ∷ numbers_from passes (k + 1) rest) (numbers_from passes (k + 1) rest))
      ≡ cond b (f (Some array)) [] ++ at_numbers arrays (k + 1) rest
  one_passes arrays k array rest found true =
      ap (λ (o : Option ArrayDecl). f o ++ at_numbers arrays (k + 1) rest) found
  one_passes arrays k array rest found false = refl

  numbers_stand_for : (front rest : List ArrayDecl) → at_numbers (front ++ rest) (length front) rest ≡ at_arrays rest
  numbers_stand_for front [] = refl
  numbers_stand_for front (array ∷ rest) =
      one_passes (front ++ array ∷ rest) (length front) array rest (slice_get-append_cons front array rest) (passes array)
      ∙ ap (λ (names : List (List ℕ)). cond (passes array) (f (Some array)) [] ++ names)
      (ap₂ (λ (arrays : List ArrayDecl) (k : ℕ). at_numbers arrays k rest)
      (sym (append_assoc front (array ∷ []) rest)) (sym (length-append front (array ∷ [])))
      ∙ numbers_stand_for (front ++ array ∷ []) rest)

flat_map_same : {X Y : Type 0} (f g : X → List Y) → ((x : X) → f x ≡ g x) → (xs : List X) → flat_map f xs ≡ flat_map g xs
flat_map_same f g same [] = refl
flat_map_same {Y = Y} f g same (x ∷ xs) = ap₂ (λ (a b : List Y). a ++ b) (same x) (flat_map_same f g same xs)

map_of_flat_map : {X Y Z : Type 0} (h : Y → Z) (f : X → List Y) (xs : List X)
    → map h (flat_map f xs) ≡ flat_map (λ x. map h (f x)) xs
map_of_flat_map h f [] = refl
map_of_flat_map {Z = Z} h f (x ∷ xs) =
    map-append h (f x) (flat_map f xs) ∙ ap (λ (zs : List Z). map h (f x) ++ zs) (map_of_flat_map h f xs)

none_of : {X Y : Type 0} (f : X → List Y) (x : X) → f x ≡ [] → (n : ℕ) → flat_map f (replicate n x) ≡ []
none_of f x none zero = refl
none_of {Y = Y} f x none (suc n) = ap₂ (λ (a b : List Y). a ++ b) none (none_of f x none n)

module _ (nest : Nest) where
  abbrev role_names : Role → List (List ℕ)
  role_names role = map read_name (outer_ports nest role)

  -- role by role, the names of the ports are those of the keys
  roles_have_keys : (assigns : ℕ) → flat_map role_names (roles_of nest.arrays assigns) ≡ map key_name (keys nest)
  roles_have_keys assigns =
      let sources : flat_map role_names (map Source (input_numbers nest.arrays)) ≡ map key_name (flat_map (source_keys nest) nest.arrays) =
      flat_map-map role_names Source (input_numbers nest.arrays)
      ∙ numbers_stand_for (λ array. is_input array.kind) (source_names nest) [] nest.arrays
      ∙ flat_map_same (λ (array : ArrayDecl). cond (is_input array.kind) (source_names nest (Some array)) [])
      (λ array. map key_name (source_keys nest array)) (λ array. source_at nest array.name array.kind) nest.arrays
      ∙ sym (map_of_flat_map key_name (source_keys nest) nest.arrays) in
      let sinks : flat_map role_names (map Sink (output_numbers nest.arrays)) ≡ map key_name (flat_map (sink_keys nest) nest.arrays) =
      flat_map-map role_names Sink (output_numbers nest.arrays)
      ∙ numbers_stand_for (λ array. is_output array.kind) (sink_names nest) [] nest.arrays
      ∙ flat_map_same (λ (array : ArrayDecl). cond (is_output array.kind) (sink_names nest (Some array)) [])
      (λ array. map key_name (sink_keys nest array)) (λ array. sink_at nest array.name array.kind) nest.arrays
      ∙ sym (map_of_flat_map key_name (sink_keys nest) nest.arrays) in
      flat_map-append role_names (map Source (input_numbers nest.arrays))
      (replicate assigns Assign ++ map Sink (output_numbers nest.arrays))
      ∙ ap₂ (λ (a b : List (List ℕ)). a ++ b) sources
      (flat_map-append role_names (replicate assigns Assign) (map Sink (output_numbers nest.arrays))
      ∙ ap₂ (λ (a b : List (List ℕ)). a ++ b) (none_of role_names Assign refl assigns) sinks)
      ∙ sym (map-append key_name (flat_map (source_keys nest) nest.arrays) (flat_map (sink_keys nest) nest.arrays))

  module _ (network : Network) where
    abbrev made : ℕ → List Statement → List NodeAuto
    made k statements =
        map (λ numbered. automaton_of nest network numbered.0 numbered.1) (enumerate_from k statements)

    -- the units have the roles of the statements
    roles_from : (k : ℕ) (statements : List Statement) (all : List Unit) → AllZip IsUnitOf (made k statements) all
        → map (λ unit. unit.auto.role) all ≡ map (λ s. s.role) statements
    roles_from k [] [] are = refl
    roles_from k [] (unit ∷ all) are = absurd are
    roles_from k (s ∷ statements) [] are = absurd are
    roles_from k (s ∷ statements) (unit ∷ all) are =
        ap₂ (λ (role : Role) (roles : List Role). role ∷ roles) (ap (λ (a : NodeAuto). a.role) are.0.auto_is)
        (roles_from (k + 1) statements all are.1)

    pub ports_have_keys : (all : List Unit) → AreUnitsOf nest network all
        → map read_name (network_ports nest all) ≡ with_fixed (map key_name (keys nest))
    ports_have_keys all are =
        let outer : map read_name (flat_map (λ (unit : Unit). outer_ports nest unit.auto.role) all) ≡ map key_name (keys nest) =
        map_of_flat_map read_name (λ (unit : Unit). outer_ports nest unit.auto.role) all
        ∙ sym (flat_map-map role_names (λ (unit : Unit). unit.auto.role) all)
        ∙ ap (flat_map role_names) (roles_from 0 nest.statements all are ∙ nest.well_formed.roles_in_order)
        ∙ roles_have_keys _ in
        ap (λ (names : List (List ℕ)). codes "clk" ∷ codes "rst" ∷ codes "again" ∷ names)
        (map-append read_name (flat_map (λ (unit : Unit). outer_ports nest unit.auto.role) all) ((codes "done", bit_out) ∷ [])
        ∙ ap (λ (names : List (List ℕ)). names ++ codes "done" ∷ []) outer)

    pub port_names_differ : (all : List Unit) → AreUnitsOf nest network all
        → all_differ (map (λ port. as_read port.0) (network_ports nest all)) ≡ true
    port_names_differ all are =
        ap all_differ (ports_have_keys all are)
        ∙ differ_to (with_fixed (map key_name (keys nest))) (fixed_differ (keys nest)
        (all_keys_differ nest (differ_from _ nest.well_formed.names_differ)))
