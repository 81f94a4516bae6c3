-- Proofs over quotients, made those of the statement's own systems, one by one and in lists.
--
-- Where the lists end there is nothing to be made, and where only the proofs end there were fewer than systems, which
-- are refuted by none. Else the first proof is made, and the others by induction.
use Rattle.std.proofs.Common.{◌≡◌, ◌+◌, ◌*◌, ◌^◌, ◌≤◌, ◌||◌, ℕ, List, [], ◌∷◌, ◌++◌, length, take, drop}
use Rattle.std.proofs.Common.{true, sym, ap, ◌∙◌, subst, arith}
use Rattle.std.specs.Prelude.{All}
use Rattle.std.specs.List.{list_all}
use Rattle.std.proofs.lemmas.List.{length-map, length-take-le, take-append-drop}
use Rattle.std.proofs.lemmas.Bool.{and_parts}
use Rattle.affine_core.specs.declared.form.Form.{Form}
use Rattle.tree_graphs.specs.Joint.{IsSum}
use Rattle.int_polyhedra.specs.declared.system.Proof.{Proof}
use Rattle.int_polyhedra.specs.declared.system.Proof.TheVariants.{Sum}
use Rattle.int_polyhedra.specs.declared.system.Term.{Term}
use Rattle.tree_graphs.specs.Simple.{IsLightSum}
use Rattle.tree_sums.specs.Parts.{IsWithin}
use Rattle.sanlp.specs.WellFormed.{form_fits}
use Rattle.source_tree.specs.Checked.{AreRefuted, IsRefuted}
use Rattle.source_tree.specs.Rows.{RowExpr, RowSystem, below_zero}
use Rattle.source_tree.specs.Places.{at_place}
use Rattle.source_tree.specs.Systems.{Context, Occurrence, with_rows}
use Rattle.source_tree.proofs.Refutations.{AreRefuted-append}
use Rattle.stride_trees.specs.Candidates.{order_number, AreCutSums, IsCutSumOf}
use Rattle.tree_cuts.specs.Class.{is_pair, is_single}
use Rattle.stride_trees.specs.Contexts.{differing, outside_of, own_system, outside_cell_systems, told_system, AddsConverted}
use Rattle.stride_trees.specs.Contexts.{AreMadeSmall, AreTestsIn, IsPlaceIn, IsTestedContext}
use Rattle.tree_cuts.specs.Cuts.{converted_sum}
use Rattle.stride_trees.specs.Problem.{problem_reads, problem_rows, problem_writes, told_read, told_write}
use Rattle.tree_cuts.specs.Sources.{divided_form, last_converted, next_place, places_behind, row_source}
use Rattle.tree_cuts.specs.Sources.{subscript_converted, write_sources}
use Rattle.stride_trees.specs.Strides.{depth_of_read, depth_of_write, read_of, root_of, write_of, IsSmallContext, IsStrided}
use Rattle.tree_cuts.specs.declared.cuts.Source.{Source}
use Rattle.stride_trees.specs.declared.strides.Strides.{Strides}
use Rattle.stride_trees.proofs.SystemConversion.{converted_write, write_cut_sum}
use Rattle.stride_trees.proofs.ProblemBounds.{are_fitting, AreFitting}
use Rattle.stride_trees.proofs.Lists.{all_parts, refuted_parts}
use Rattle.stride_trees.proofs.Lists.{cut_sums_both}
use Rattle.stride_trees.proofs.PlaceProofs.{cells_step, light_terms, nothing_added, outside_step}

-- the light Sums are Sums
-- A write

module _ (s : Strides) (strided : IsStrided s) (places : List ℕ) (here more : ℕ) (proof own : Proof) (ts : List Term)
    (sum : proof ≡ Sum ts)
    (is : own ≡ converted_sum
    (write_sources s.write.statement.now.rows s.write.access.now.subscripts (root_of s) places here more)
    (here + (length s.write.statement.now.rows + (2 * length s.write.access.now.subscripts + more))) ts)
    (c : Context) (order : List RowExpr) (at : IsTestedContext s places here c)
    (small : AreMadeSmall (c.vars + depth_of_write s) order) (count : length order ≡ more)
    (h : IsRefuted (told_system s places c order) proof) where
  abbrev made : ℕ → Proof
  made n = converted_sum
      (write_sources s.write.statement.now.rows s.write.access.now.subscripts (root_of s) places here n)
      (here + (length s.write.statement.now.rows + (2 * length s.write.access.now.subscripts + n))) ts

  own_is : made (length order) ≡ own
  own_is = ap made count ∙ sym is

  refuted : IsRefuted (told_system s places c order) (Sum ts)
  refuted = subst (IsRefuted (told_system s places c order)) sum h

  pub write_refuted : IsRefuted (own_system s c order) own
  write_refuted = subst (IsRefuted (own_system s c order)) own_is
      (converted_write s.nest.now (read_of s) (write_of s) s.level c here (root_of s) places strided.strided at.small at.reader
      at.tests order small ts refuted)

  pub write_cuts : here ≤ 8192 → more ≤ 64 → IsLightSum proof
      → IsCutSumOf (order_number (read_of s) (write_of s) c) (own_system s c order) own
  write_cuts few_here few_more light =
      subst (IsCutSumOf (order_number (read_of s) (write_of s) c) (own_system s c order)) own_is
      (write_cut_sum s.nest.now (read_of s) (write_of s) s.level c here (root_of s) places strided.strided at.small at.reader
      at.tests order small ts few_here (omega (arith, few_more, count)) refuted (light_terms ts proof sum light))

-- Domain rows

abbrev pub Outside : ℕ → List Form → List Proof → List Proof → List Proof → Type 0
Outside here rows told old new =
    (c : Context) (depth : ℕ) (place : List Form) → IsSmallContext c here → depth ≤ 6 → IsPlaceIn c depth place
    → list_all (form_fits depth) rows ≡ true → list_all (λ row. is_single row || is_pair row) rows ≡ true
    → AddsConverted (here + 1) (All (IsWithin (2 ^ 40)) place) (outside_of c (problem_rows rows) place)
    (outside_of c rows place) told old new

pub outside_end : (here : ℕ) (rows : List Form) (told old : List Proof) → rows ≡ [] → Outside here rows told old old
outside_end here rows told old none c depth place small few at fits class =
    subst (λ rows. AddsConverted (here + 1) (All (IsWithin (2 ^ 40)) place) (outside_of c (problem_rows rows) place)
    (outside_of c rows place) told old old) (sym none)
    (nothing_added (here + 1) (All (IsWithin (2 ^ 40)) place) [] [] told old (λ h. tt) (λ h. tt))

pub outside_odd : (here : ℕ) (rows : List Form) (row : Form) (rest : List Form) (told old : List Proof) → rows ≡ row ∷ rest
    → told ≡ [] → Outside here rows told old old
outside_odd here rows row rest told old first none c depth place small few at fits class =
    subst (λ rows. AddsConverted (here + 1) (All (IsWithin (2 ^ 40)) place) (outside_of c (problem_rows rows) place)
    (outside_of c rows place) told old old) (sym first)
    (subst (λ told. AddsConverted (here + 1) (All (IsWithin (2 ^ 40)) place)
    (outside_of c (problem_rows (row ∷ rest)) place) (outside_of c (row ∷ rest) place) told old old) (sym none)
    (nothing_added (here + 1) (All (IsWithin (2 ^ 40)) place) (outside_of c (problem_rows (row ∷ rest)) place)
    (outside_of c (row ∷ rest) place) [] old (λ h. absurd h) (λ h. absurd h)))

pub outside_next : (here : ℕ) (rows : List Form) (row : Form) (rest : List Form) (told : List Proof) (proof : Proof)
    (from : List Proof) (last : Source) (own : Proof) (old next new : List Proof) → rows ≡ row ∷ rest
    → told ≡ proof ∷ from → IsSum proof → last ≡ row_source row here
    → ((ts : List Term) → proof ≡ Sum ts → own ≡ last_converted last here ts) → next ≡ old ++ own ∷ []
    → Outside here rest from next new → Outside here rows told old new
outside_next here rows row rest told proof from last own old next new first second sum last_is own_is next_is h c depth place
    small few at fits class =
    let f = and_parts (form_fits depth row) (list_all (form_fits depth) rest)
    (subst (λ rows. list_all (form_fits depth) rows ≡ true) first fits) in
    let k = and_parts (is_single row || is_pair row) (list_all (λ row. is_single row || is_pair row) rest)
    (subst (λ rows. list_all (λ row. is_single row || is_pair row) rows ≡ true) first class) in
    subst (λ rows. AddsConverted (here + 1) (All (IsWithin (2 ^ 40)) place) (outside_of c (problem_rows rows) place)
    (outside_of c rows place) told old new) (sym first)
    (subst (λ told. AddsConverted (here + 1) (All (IsWithin (2 ^ 40)) place)
    (outside_of c (problem_rows (row ∷ rest)) place) (outside_of c (row ∷ rest) place) told old new) (sym second)
    (outside_step c here depth row rest place sum.0 proof own from old next new small few at f.0 k.0 sum.1
    (own_is sum.0 sum.1 ∙ ap (λ source. last_converted source here sum.0) last_is) next_is
    (h c depth place small few at f.1 k.1)))

-- Subscripts

abbrev pub Cells : ℕ → ℕ → List ℕ → List Form → List Proof → List Proof → List Proof → Type 0
Cells here root places writes told old new =
    (c : Context) (depth d : ℕ) (place reads : List Form) → IsSmallContext c here → depth ≤ 6 → d ≤ c.vars
    → IsPlaceIn c depth place → list_all (form_fits depth) writes ≡ true → list_all is_single writes ≡ true
    → list_all (form_fits d) reads ≡ true → length writes ≡ length reads → AreTestsIn c d root places writes reads
    → AddsConverted (here + 1) (All (IsWithin (2 ^ 40)) place)
    (differing c (problem_writes writes) (problem_reads c.vars d places writes reads) place)
    (differing c writes reads place) told old new

-- what is told of subscripts, as the lists are
abbrev CellsAdd : ℕ → List ℕ → Context → ℕ → List Form → List Form → List Form → List Proof → List Proof → List Proof
    → Type 0
CellsAdd here places c d place writes reads told old new =
    AddsConverted (here + 1) (All (IsWithin (2 ^ 40)) place)
    (differing c (problem_writes writes) (problem_reads c.vars d places writes reads) place)
    (differing c writes reads place) told old new

pub cells_end : (here root : ℕ) (places : List ℕ) (writes : List Form) (told old : List Proof) → writes ≡ []
    → Cells here root places writes told old old
cells_end here root places writes told old none c depth d place reads small few le at fits singles read_fits even tests =
    subst (λ writes. CellsAdd here places c d place writes reads told old old) (sym none)
    (nothing_added (here + 1) (All (IsWithin (2 ^ 40)) place) [] [] told old (λ h. tt) (λ h. tt))

-- a subscript has two systems
pub cells_odd : (here root : ℕ) (places : List ℕ) (writes : List Form) (write : Form) (rest : List Form)
    (told old : List Proof) → writes ≡ write ∷ rest → length told ≤ 1 → Cells here root places writes told old old
cells_odd here root places writes write rest told old first short c depth d place reads small few le at fits singles
    read_fits even tests =
    subst (λ writes. CellsAdd here places c d place writes reads told old old) (sym first)
    (go reads (ap length (sym first) ∙ even)) where
      too_few : (reads : List Form) → length (write ∷ rest) ≡ length reads → (told : List Proof) → length told ≤ 1
          → AreRefuted (differing c (problem_writes (write ∷ rest)) (problem_reads c.vars d places (write ∷ rest) reads) place)
          told → ⊥
      too_few [] even told short h = absurd (omega arith)
      too_few (read ∷ reads) even [] short h = h
      too_few (read ∷ reads) even (proof ∷ []) short h = h.1
      too_few (read ∷ reads) even (proof ∷ (other ∷ more)) short h = absurd (omega (arith, short))

      go : (reads : List Form) → length (write ∷ rest) ≡ length reads
          → CellsAdd here places c d place (write ∷ rest) reads told old old
      go reads even = nothing_added (here + 1) (All (IsWithin (2 ^ 40)) place)
          (differing c (problem_writes (write ∷ rest)) (problem_reads c.vars d places (write ∷ rest) reads) place)
          (differing c (write ∷ rest) reads place) told old (λ h. absurd (too_few reads even told short h))
          (λ h. absurd (too_few reads even told short h))

pub cells_next : (here root : ℕ) (places behind : List ℕ) (writes : List Form) (write : Form) (rest : List Form)
    (told : List Proof) (high low : Proof) (from back : List Proof) (test : ℕ) (old next new : List Proof)
    → writes ≡ write ∷ rest → told ≡ high ∷ from → from ≡ low ∷ back → IsSum high → IsSum low
    → test ≡ root + 2 * next_place places → behind ≡ places_behind write places
    → ((above below : List Term) → high ≡ Sum above → low ≡ Sum below
    → next ≡ old ++ subscript_converted write here test above below)
    → Cells here root behind rest back next new → Cells here root places writes told old new
cells_next here root places behind writes write rest told high low from back test old next new first second third high_sum
    low_sum test_is behind_is next_is h c depth d place reads small few le at fits singles read_fits even tests =
    subst (λ writes. CellsAdd here places c d place writes reads told old new) (sym first)
    (subst (λ told. CellsAdd here places c d place (write ∷ rest) reads told old new)
    (sym (second ∙ ap (λ ps. high ∷ ps) third))
    (go reads (subst (λ writes. list_all (form_fits depth) writes ≡ true) first fits)
    (subst (λ writes. list_all is_single writes ≡ true) first singles) read_fits (ap length (sym first) ∙ even)
    (subst (λ writes. AreTestsIn c d root places writes reads) first tests))) where
      go : (reads : List Form) → list_all (form_fits depth) (write ∷ rest) ≡ true
          → list_all is_single (write ∷ rest) ≡ true → list_all (form_fits d) reads ≡ true
          → length (write ∷ rest) ≡ length reads → AreTestsIn c d root places (write ∷ rest) reads
          → CellsAdd here places c d place (write ∷ rest) reads (high ∷ (low ∷ back)) old new
      go [] fits singles read_fits even tests = absurd (omega arith)
      go (read ∷ reads) fits singles read_fits even tests =
          let f = and_parts (form_fits depth write) (list_all (form_fits depth) rest) fits in
          let k = and_parts (is_single write) (list_all is_single rest) singles in
          let g = and_parts (form_fits d read) (list_all (form_fits d) reads) read_fits in
          cells_step c here depth d root places write read rest reads place high_sum.0 low_sum.0 high low back old next new
          small few le at f.0 k.0 g.0 even tests high_sum.1 low_sum.1
          (next_is high_sum.0 low_sum.0 high_sum.1 low_sum.1
          ∙ ap (λ n. old ++ subscript_converted write here n high_sum.0 low_sum.0) test_is)
          (subst (λ behind. CellsAdd here behind c d place rest reads back next new) behind_is
          (h c depth d place reads small few le at f.1 k.1 g.1 (omega (arith, even))
          (subst (λ behind. AreTestsIn c d root behind rest reads) (sym behind_is) tests.1)))

-- Both, at a place

module _ (s : Strides) (strided : IsStrided s) (places : List ℕ) (here : ℕ) (told first second : List Proof)
    (middle proofs : List Proof) (told_is : told ≡ first ++ second)
    (count : length first ≡ length s.write.statement.now.rows)
    (a : Outside here s.write.statement.now.rows first [] middle)
    (b : Cells here (root_of s) places s.write.access.now.subscripts second middle proofs) (c : Context) (place : List Form)
    (at : IsTestedContext s places here c) (in_place : IsPlaceIn c (depth_of_write s) place) where
  abbrev r : Occurrence
  r = read_of s

  abbrev w : Occurrence
  w = write_of s

  fits : AreFitting s.nest.now r w s.level
  fits = are_fitting s.nest.now r w s.level strided.strided

  abbrev outside' : List RowSystem
  outside' = outside_of c (problem_rows w.statement.rows) place

  abbrev cells' : List RowSystem
  cells' = differing c (problem_writes w.access.subscripts)
      (problem_reads c.vars (depth_of_read s) places w.access.subscripts r.access.subscripts) place

  abbrev Near : Type 0
  Near = All (IsWithin (2 ^ 40)) place

  of_rows : AddsConverted (here + 1) Near outside' (outside_of c w.statement.rows place) first [] middle
  of_rows = a c (depth_of_write s) place at.small fits.few_loops in_place fits.rows fits.row_kinds

  of_cells : AddsConverted (here + 1) Near cells' (differing c w.access.subscripts r.access.subscripts place) second middle
      proofs
  of_cells = b c (depth_of_write s) (depth_of_read s) place r.access.subscripts at.small fits.few_loops at.reader in_place
      fits.writes fits.kinds fits.reads fits.even at.tests

  proofs_are : proofs ≡ of_rows.added ++ of_cells.added
  proofs_are = of_cells.is ∙ ap (λ ps. ps ++ of_cells.added) of_rows.is

  parts : AreRefuted (outside_cell_systems (told_read c.vars places r w) (told_write w) c place) told
      → AreRefuted outside' first × AreRefuted cells' second
  parts h = refuted_parts outside' cells' first second
      (omega (
        arith,
        count,
        length-map (problem_rows w.statement.rows) (λ row. with_rows c (below_zero (at_place row place) ∷ [])),
        length-map w.statement.rows divided_form,
      ))
      (subst (AreRefuted (outside' ++ cells')) told_is h)

  pub place_refuted : AreRefuted (outside_cell_systems (told_read c.vars places r w) (told_write w) c place) told
      → AreRefuted (outside_cell_systems r w c place) proofs
  place_refuted h =
      let p = parts h in
      subst (AreRefuted (outside_cell_systems r w c place)) (sym proofs_are)
      (AreRefuted-append (outside_of c w.statement.rows place) (differing c w.access.subscripts r.access.subscripts place)
      of_rows.added of_cells.added (of_rows.refuted p.0) (of_cells.refuted p.1))

  pub place_cuts : Near → AreRefuted (outside_cell_systems (told_read c.vars places r w) (told_write w) c place) told
      → All IsLightSum told → AreCutSums (here + 1) (outside_cell_systems r w c place) proofs
  place_cuts near h light =
      let p = parts h in
      let l = all_parts IsLightSum first second (subst (All IsLightSum) told_is light) in
      subst (AreCutSums (here + 1) (outside_cell_systems r w c place)) (sym proofs_are)
      (cut_sums_both (here + 1) (outside_of c w.statement.rows place)
      (differing c w.access.subscripts r.access.subscripts place) of_rows.added of_cells.added
      (of_rows.cuts near p.0 l.0) (of_cells.cuts near p.1 l.1))

-- the same of what is passed and returned
module _ (s : Strides) (strided : IsStrided s) (places : List ℕ) (here : ℕ) (told : List Proof)
    (rows writes : List Form) (first second : List Proof) (root : ℕ) (none middle proofs : List Proof)
    (rows_is : rows ≡ s.write.statement.now.rows) (writes_is : writes ≡ s.write.access.now.subscripts)
    (first_is : first ≡ take (length rows) told) (second_is : second ≡ drop (length rows) told)
    (root_is : root ≡ root_of s) (none_is : none ≡ [])
    (count : length told ≡ length s.write.statement.now.rows + 2 * length s.write.access.now.subscripts)
    (a : Outside here rows first none middle) (b : Cells here root places writes second middle proofs) where
  told_is : told ≡ first ++ second
  told_is = sym (take-append-drop (length rows) told) ∙ ap (λ ps. ps ++ drop (length rows) told) (sym first_is)
      ∙ ap (λ ps. first ++ ps) (sym second_is)

  first_count : length first ≡ length s.write.statement.now.rows
  first_count = ap length first_is ∙ length-take-le (length rows) told (omega (arith, count, ap length rows_is))
      ∙ ap length rows_is

  a' : Outside here s.write.statement.now.rows first [] middle
  a' = subst (λ rows. Outside here rows first [] middle) rows_is (subst (λ old. Outside here rows first old middle) none_is a)

  b' : Cells here (root_of s) places s.write.access.now.subscripts second middle proofs
  b' = subst (λ writes. Cells here (root_of s) places writes second middle proofs) writes_is
      (subst (λ root. Cells here root places writes second middle proofs) root_is b)

  pub placed_refuted : (c : Context) (place : List Form) → IsTestedContext s places here c
      → IsPlaceIn c (depth_of_write s) place
      → AreRefuted (outside_cell_systems (told_read c.vars places (read_of s) (write_of s)) (told_write (write_of s)) c place)
      told
      → AreRefuted (outside_cell_systems (read_of s) (write_of s) c place) proofs
  placed_refuted c place at in_place =
      place_refuted s strided places here told first second middle proofs told_is first_count a' b' c place at in_place

  pub placed_cuts : (c : Context) (place : List Form) → IsTestedContext s places here c
      → IsPlaceIn c (depth_of_write s) place → All (IsWithin (2 ^ 40)) place
      → AreRefuted (outside_cell_systems (told_read c.vars places (read_of s) (write_of s)) (told_write (write_of s)) c place)
      told → All IsLightSum told
      → AreCutSums (here + 1) (outside_cell_systems (read_of s) (write_of s) c place) proofs
  placed_cuts c place at in_place =
      place_cuts s strided places here told first second middle proofs told_is first_count a' b' c place at in_place
