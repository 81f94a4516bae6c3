-- The proofs that no other point of the writer is between, and the Writer leaf as the answer of its context.
--
-- The proofs of the levels are added one after the other: those so far refute the systems of the first levels of order
-- behind the leaf's point, one for each loop. Of one statement there is no level behind its loops, so these are all.
-- The terms of the leaf's rows are cut into those of the domain, of the cell and of the order, as the rows are.
use Rattle.std.proofs.Common.{◌≡◌, ◌+◌, ◌*◌, ◌^◌, ◌≤◌, ◌<◌, ℕ, zero, suc, List, [], ◌∷◌, ◌++◌, length, map, drop}
use Rattle.std.proofs.Common.{take, cond, refl, sym, ap, ◌∙◌, subst, arith, inl, length-append}
use Rattle.std.proofs.Common.{length-drop, ne_eqb}
use Rattle.std.specs.Prelude.{Some, All, slice_get, nat_lt}
use Rattle.std.specs.Option.{option_map}
use Rattle.std.proofs.lemmas.Bool.{eq-eqb}
use Rattle.std.proofs.lemmas.List.Elements.{All-nil, All-weaker}
use Rattle.std.proofs.lemmas.Option.{slice_get-map}
use Rattle.affine_core.specs.declared.form.Form.{Form}
use Rattle.int_polyhedra.specs.declared.system.Proof.{Proof}
use Rattle.int_polyhedra.specs.declared.system.System.{System}
use Rattle.int_polyhedra.specs.declared.system.Term.{Term}
use Rattle.sanlp.specs.Order.{common_loops}
use Rattle.sanlp.proofs.Precedence.{common_loops-same}
use Rattle.lex_max.specs.Answer.{IsAnswer, IsContextOf}
use Rattle.tree_graphs.specs.Asked.{depth_of_write, read_of, write_of}
use Rattle.lex_max.specs.Choices.{chosen_place, AreCerts, AreChosen, AreReady}
use Rattle.tree_graphs.specs.Edges.{write_rows}
use Rattle.lex_max.specs.Leaves.{after_levels, AddsProofs, AreOrderCerts, AreShown, IsBetweenProof, IsLeafOf, IsPlaceOf}
use Rattle.tree_graphs.specs.Level.{IsGreatest}
use Rattle.tree_graphs.specs.Simple.{at_writer as simple_writer, IsLightSum}
use Rattle.tree_graphs.specs.Joint.{at_writer, later_systems, point_systems, read_and_write}
use Rattle.tree_graphs.specs.declared.closure.Bounds.{Bounds}
use Rattle.lex_max.specs.declared.decide.Choice.{Choice}
use Rattle.tree_graphs.specs.declared.edges.Edge.{Edge}
use Rattle.tree_graphs.specs.declared.writes.Writes.{Writes}
use Rattle.lex_max.proofs.After.{between_refuted}
use Rattle.lex_max.proofs.LeafProofs.{certs_shown, few_levels, leaf_of, level_of_place}
use Rattle.lex_max.proofs.LeafProofs.{order_certs, plain_leaf, plain_of, proofs_more, proofs_whole, shown_count}
use Rattle.lex_max.proofs.LeafProofs.{shown_first, shown_rest}
use Rattle.tree_graphs.proofs.ProblemBounds.{writes_fit, IsKnown}
use Rattle.tree_graphs.proofs.Just.{later_system}
use Rattle.tree_graphs.proofs.Nodes.{light_sums}
use Rattle.lex_max.proofs.ChosenPaths.{is_place, led_at, IsLed}
use Rattle.lex_max.proofs.LeafParts.{adds_more_proofs, adds_no_proofs, place_taken}
use Rattle.lex_max.proofs.LeafMeaning.{greatest_there}
use Rattle.tree_graphs.proofs.OrderEdges.{length_variables}
use Rattle.tree_graphs.proofs.ZeroSystems.{placed, variables_taken, IsPlaced}
use Rattle.tree_graphs.proofs.RowBounds.{level_at, most_taken, small_append, small_cells, small_domain, AreSmall, AreTaken}
use Rattle.tree_graphs.proofs.RowBounds.{IsSmallLevel}
use Rattle.plain_data.proofs.Tests.{ltb-same}
use Rattle.tree_sums.specs.Parts.{IsWithin}
use Rattle.tree_sums.proofs.Within.{IsWithin-weaker}
use Rattle.source_tree.specs.Checked.{AreRefuted}
use Rattle.source_tree.specs.Places.{before_rows, cell_rows, domain_rows, same_rows}
use Rattle.source_tree.specs.Rows.{RowExpr, RowSystem, row_forms}
use Rattle.source_tree.specs.Systems.{after_systems, cell_systems, outside_systems, reader_place, with_rows, with_write_at}
use Rattle.source_tree.specs.Systems.{writer_place, Context}
use Rattle.source_tree.specs.declared.tree.Tree.{Tree}
use Rattle.source_tree.specs.declared.tree.Tree.TheVariants.{Writer}
use Rattle.source_tree.proofs.Gives.{gives-Writer}
use Rattle.source_tree.proofs.RowLists.{length-domain_rows, length-cell_rows}

-- Another point of the writer between

-- the systems of the first levels of order behind the leaf's point
abbrev pub further_levels : Writes → Context → List Form → List (List RowExpr)
further_levels w c place = before_rows w.write.number w.write.statement.now place w.write.number w.write.statement.now
    (writer_place c (write_of w))

abbrev pub between_system : Writes → Context → List RowExpr → List RowExpr → RowSystem
between_system w c level rows = with_rows (with_write_at (read_of w) c (write_of w)) (level ++ rows)

abbrev pub AreBetween : Writes → List Edge → ℕ → List Form → ℕ → List Proof → List Proof → Type 0
AreBetween w edges here place n old new =
    (c : Context) (context : System) → IsLeafOf w c context place here
    → (s : IsPlaced (read_of w) (write_of w) w.level c context.rows edges)
    → AddsProofs (map (between_system w c s.level) (take n (further_levels w c place))) old new

pub between_none : (w : Writes) (edges : List Edge) (here : ℕ) (place : List Form) (old : List Proof)
    → AreBetween w edges here place 0 old old
between_none w edges here place old c context leaf s = adds_no_proofs old

chosen_at : (choices : List Choice) (v : ℕ) (choice : Choice) → slice_get choices v ≡ Some choice
    → slice_get (chosen_place choices) v ≡ Some choice.form
chosen_at choices v choice is = slice_get-map (λ (c : Choice). c.form) choices v
    ∙ ap (option_map (λ (c : Choice). c.form)) is

pub between_next : (w : Writes) (edges : List Edge) (here level : ℕ) (choices : List Choice) (proof : Proof)
    (old middle new : List Proof) → level < depth_of_write w
    → IsBetweenProof w edges here choices level proof → AreBetween w edges here (chosen_place choices) level old middle
    → new ≡ middle ++ proof ∷ []
    → AreBetween w edges here (chosen_place choices) (level + 1) old new
between_next w edges here level choices proof old middle new inside p h is c context leaf s =
    let place : List Form = chosen_place choices in
    let ls : List ℕ = w.write.statement.now.loops in
    let depth : ℕ = depth_of_write w in
    let more : ℕ = c.vars + depth in
    let points : List Form = writer_place c (write_of w) in
    let common_is : common_loops ls ls ≡ depth = common_loops-same ls in
    let long : length points ≡ depth = length_variables c.vars depth in
    let own : AreTaken more points = variables_taken more c.vars depth (omega arith) in
    let ys : AreTaken more place =
    place_taken more w.vars place (omega (arith, leaf.vars)) leaf.placed.over leaf.placed.within in
    let small : IsSmallLevel more (further_levels w c place) level
    = level_at more (common_loops ls ls) level (nat_lt w.write.number w.write.number) place points
    (omega (arith, common_is, leaf.placed.deep)) (omega (arith, common_is, long))
    (inl (omega (arith, common_is, inside))) ys own in
    let both = between_refuted w c context place here leaf edges s level small.rows p.choice.form p.path
    (here + length edges + 2 * level) proof inside small.is (chosen_at choices level p.choice p.chosen)
    p.is_path p.light refl p.is in
    proofs_more (between_system w c s.level) (further_levels w c place) level small.rows proof old middle new small.is
    (h c context leaf s) is both.0 both.1

pub between_all : (w : Writes) (edges : List Edge) (bounds : Bounds) (here n : ℕ) (place : List Form)
    (old new : List Proof) → AreReady w edges bounds → n ≡ depth_of_write w → AreBetween w edges here place n old new
    → (c : Context) (context : System) → IsLeafOf w c context place here
    → AddsProofs (later_systems (read_of w) (write_of w) w.level c place) old new
between_all w edges bounds here n place old new ready n_is h c context leaf =
    let ls : List ℕ = w.write.statement.now.loops in
    let s : IsPlaced (read_of w) (write_of w) w.level c context.rows edges
    = placed w.vars (read_of w)
    (write_of w) w.level c context.rows edges w.problem leaf.vars leaf.made.rows ready.graph.edges_are in
    let few : length (further_levels w c place) ≤ common_loops ls ls + cond (nat_lt w.write.number w.write.number) 1 0
    = few_levels (common_loops ls ls) (nat_lt w.write.number w.write.number) place (writer_place c (write_of w)) in
    let fewer : length (further_levels w c place) ≤ common_loops ls ls + 0 = subst
    (λ b. length (further_levels w c place) ≤ common_loops ls ls + cond b 1 0) (ltb-same w.write.number) few in
    subst (λ systems. AddsProofs systems old new) (sym
    (later_system (read_of w) (write_of w) w.level c s.level place s.level_is))
    (proofs_whole (between_system w c s.level) (further_levels w c place) n old new
    (omega (arith, fewer, common_loops-same ls, n_is)) (h c context leaf s))

-- The reader before the leaf's point

pub after_same : (w : Writes) (c : Context) (place : List Form) → w.write.number ≡ w.read.number
    → after_systems (read_of w) c (write_of w) place ≡ map (with_rows c) (after_levels w place)
    ++ with_rows c (same_rows (reader_place (read_of w)) place) ∷ []
after_same w c place same =
    ap (λ b. map (with_rows c) (after_levels w place) ++ cond b
    (with_rows c (same_rows (reader_place (read_of w)) place) ∷ []) []) (eq-eqb w.write.number w.read.number same)

pub after_other : (w : Writes) (c : Context) (place : List Form) → (w.write.number ≡ w.read.number → ⊥)
    → after_systems (read_of w) c (write_of w) place ≡ map (with_rows c) (after_levels w place) ++ []
after_other w c place other =
    ap (λ b. map (with_rows c) (after_levels w place) ++ cond b
    (with_rows c (same_rows (reader_place (read_of w)) place) ∷ []) [])
    (ne_eqb w.write.number w.read.number other)

-- The leaf

pub leaf_refuted : (w : Writes) (c : Context) (place : List Form) (p0 p1 p2 p3 p4 : List Proof) → p0 ≡ []
    → AddsProofs (outside_systems c (write_of w) place) p0 p1
    → AddsProofs (cell_systems (read_of w) c (write_of w) place) p1 p2
    → AddsProofs (after_systems (read_of w) c (write_of w) place) p2 p3
    → AddsProofs (later_systems (read_of w) (write_of w) w.level c place) p3 p4
    → AreRefuted (point_systems (read_of w) (write_of w) w.level c place) p4
    × All IsLightSum p4
leaf_refuted w c place p0 p1 p2 p3 p4 none a b d e =
    let o : List RowSystem = outside_systems c (write_of w) place in
    let l : List RowSystem = cell_systems (read_of w) c (write_of w) place in
    let f : List RowSystem = after_systems (read_of w) c (write_of w) place in
    let g : List RowSystem = later_systems (read_of w) (write_of w) w.level c place in
    let whole : AddsProofs ((o ++ (l ++ f)) ++ g) p0 p4 = adds_more_proofs (o ++ (l ++ f)) g p0 p3 p4
    (adds_more_proofs o (l ++ f) p0 p1 p3 a (adds_more_proofs l f p1 p2 p3 b d)) e in (
      whole.refuted [] (subst (AreRefuted []) (sym none) tt),
      whole.light (subst (All IsLightSum) (sym none) (All-nil _)),
    )

-- what the rows of the leaf's point are made of is small
rows_small : (w : Writes) (vars : ℕ) (place : List Form) → IsPlaceOf w place → vars ≡ w.vars
    → (s : IsSmallLevel vars (before_rows w.write.number w.write.statement.now place w.read.number w.read.statement.now
    (reader_place (read_of w))) w.level)
    → AreSmall vars (write_rows (read_of w) (write_of w) s.rows place)
rows_small w vars place p vars_is s =
    let f : IsKnown w.vars (read_of w) (write_of w) w.level = writes_fit w in
    let own : AreTaken vars place = place_taken vars w.vars place (omega (arith, vars_is)) p.over p.within in
    let d : List RowExpr = domain_rows w.rows.now place in
    let cells : List RowExpr = cell_rows w.write_forms.now w.read_forms.now place in
    small_append vars d (cells ++ s.rows)
    (small_domain vars (depth_of_write w) w.rows.now place f.few_loops f.rows own)
    (small_append vars cells s.rows
    (small_cells vars w.vars (depth_of_write w) w.write_forms.now w.read_forms.now
    place (omega (arith, vars_is)) f.few_loops f.cells own) s.small)

pub leaf_answer : (w : Writes) (edges : List Edge) (bounds : Bounds) (context : System) (choices : List Choice)
    (certs : List (List Term)) (tree : Tree) (place : List Form) (proofs : List Proof)
    → AreReady w edges bounds → IsContextOf w 0 context → AreChosen w edges bounds context choices
    → AreCerts context (chosen_place choices) edges certs
    → ((c : Context) → c.vars ≡ w.vars → row_forms c.vars c.rows ≡ Some context.rows
    → AreRefuted (point_systems (read_of w) (write_of w) w.level c (chosen_place choices)) proofs)
    → All IsLightSum proofs → place ≡ chosen_place choices → tree ≡ Writer w.write.number place proofs → (tests : ℕ)
    → IsAnswer w context tests tree
leaf_answer w edges bounds context choices certs tree place proofs ready of chosen shown refuted light place_is tree_is
    tests =
    let own : List Form = chosen_place choices in
    let is : tree ≡ Writer w.write.number own proofs = tree_is
    ∙ ap (λ place. Writer w.write.number place proofs) place_is in
    let p : IsPlaceOf w own = is_place w edges bounds ready context choices chosen in
    let level : IsSmallLevel context.vars _ w.level = level_of_place w context.vars own p of.vars in
    record {
      checked = λ c vars_is rows_is.
          at_writer c tree w.write.number own proofs is
          (record {
            pair = read_and_write (read_of w) (write_of w);
            among = (0, omega arith, refl);
            number_is = refl;
            deep = p.deep;
            over = subst (λ n. All (λ (form : Form). length form.coefs ≡ n) own) (sym vars_is) p.over;
            within = All-weaker (IsWithin (2 ^ 40)) (IsWithin (2 ^ 48))
                (λ f h. IsWithin-weaker (2 ^ 40) (2 ^ 48) f (omega arith) h) own p.within;
            refuted = refuted c vars_is rows_is;
            sums = light_sums proofs light;
          });
      simple = simple_writer tests tree w.write.number own proofs is p.within light;
      greatest = λ x long meets.
          subst (IsGreatest (read_of w) (write_of w) w.level x) (sym (gives-Writer x tree w.write.number own proofs is))
          (greatest_there w context edges ready.graph of own level.rows certs p.deep level.is
          (rows_small w context.vars own p of.vars level) shown
          (λ v lt.
          let choice = has_choice choices v (omega (arith, lt, chosen.all)) in
          let led : IsLed w edges bounds ready v choice.0.edge choice.0.form =
          led_at w edges bounds ready context choices chosen v choice.0 choice.1 in (
            choice.0.form,
            chosen_at choices v choice.0 choice.1,
            led.over,
            record {
              short = omega (arith, led.over);
              within =
                  IsWithin-weaker (2 ^ 40) most_taken choice.0.form (omega arith) led.within;
            },
            (_, led.path),
          )) x long meets);
    } where
      has_choice : (choices : List Choice) (v : ℕ) → v < length choices → (choice : Choice)
          × (slice_get choices v ≡ Some choice)
      has_choice [] v lt = absurd (omega arith)
      has_choice (c ∷ choices) zero lt = (c, refl)
      has_choice (c ∷ choices) (suc v) lt = has_choice choices v (omega (arith, lt))

-- the terms of the parts of a leaf
module _ (w : Writes) (edges : List Edge) (bounds : Bounds) (context : System) (choices : List Choice)
    (certs : List (List Term)) (n m : ℕ) (ready : AreReady w edges bounds) (of : IsContextOf w 0 context)
    (chosen : AreChosen w edges bounds context choices) (shown : AreCerts context (chosen_place choices) edges certs)
    (n_is : n ≡ length w.rows.now)
    (m_is : m ≡ 2 * length w.write_forms.now) where
  abbrev place : List Form
  place = chosen_place choices

  abbrev domain_part : List RowExpr
  domain_part = domain_rows w.rows.now place

  abbrev cell_part : List RowExpr
  cell_part = cell_rows w.write_forms.now w.read_forms.now place

  fits : IsKnown w.vars (read_of w) (write_of w) w.level
  fits = writes_fit w

  pub placed_here : IsPlaceOf w place
  placed_here = is_place w edges bounds ready context choices chosen

  level_here : IsSmallLevel context.vars (before_rows w.write.number w.write.statement.now place w.read.number
      w.read.statement.now (reader_place (read_of w))) w.level
  level_here = level_of_place w context.vars place placed_here of.vars

  rows_shown : AreShown context (domain_part ++ (cell_part ++ level_here.rows)) certs
  rows_shown =
      certs_shown context place (write_rows (read_of w) (write_of w) level_here.rows place) edges certs
      (ready.graph.edges_are place level_here.rows placed_here.deep level_here.is) shown

  domain_long : n ≡ length domain_part
  domain_long = n_is ∙ sym (length-domain_rows w.rows.now place)

  cell_long : m ≡ length cell_part
  cell_long = m_is ∙ sym (length-cell_rows w.write_forms.now w.read_forms.now place fits.even)

  pub outside_part : AreShown context domain_part (take n certs)
  outside_part = shown_first context domain_part (cell_part ++ level_here.rows) certs n domain_long rows_shown

  pub cells_part : AreShown context cell_part (take m (drop n certs))
  cells_part = shown_first context cell_part level_here.rows (drop n certs) m cell_long
      (shown_rest context domain_part (cell_part ++ level_here.rows) certs n domain_long rows_shown)

  pub order_part : (c : Context) (here : ℕ) → IsLeafOf w c context place here
      → AreOrderCerts w here c context place (drop (n + m) certs)
  order_part c here leaf =
      order_certs w edges c context place here (n + m) certs ready.graph leaf shown (omega (arith, n_is, m_is))

  all_count : length certs ≡ length (domain_part ++ (cell_part ++ level_here.rows))
  all_count = shown_count context (domain_part ++ (cell_part ++ level_here.rows)) certs rows_shown

  pub many : n + m ≤ length certs
  many = omega (
    arith,
    all_count,
    length-append domain_part (cell_part ++ level_here.rows),
    length-append cell_part level_here.rows,
    domain_long,
    cell_long,
  )

  pub many_behind : m ≤ length (drop n certs)
  many_behind = omega (arith, many, length-drop n certs)

  pub leaf_here : (c : Context) (here : ℕ) → here ≡ length context.rows → c.vars ≡ w.vars
      → row_forms c.vars c.rows ≡ Some context.rows → IsLeafOf w c context place here
  leaf_here c here numbered vars_is rows_is =
      leaf_of w c context place here of placed_here numbered vars_is rows_is

  pub plain_here : (here : ℕ) → here ≡ length context.rows → IsLeafOf w (plain_of w context) context place here
  plain_here here numbered = plain_leaf w context place here of placed_here numbered
