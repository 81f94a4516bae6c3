-- The proofs that a place is in the domain and writes the read's cell, added one after another.
--
-- Each is made from the proof of the same system over quotients, whose last row comes from the statement's own last
-- row. By induction over the domain rows and over the subscripts, two proofs for each of these.
use Rattle.std.proofs.Common.{◌≡◌, ◌+◌, ◌*◌, ◌^◌, ◌≤◌, ◌<◌, ◌||◌, ℕ, List, [], ◌∷◌, ◌++◌}
use Rattle.std.proofs.Common.{length, Bool, true, false, cond, sym, ap, ◌∙◌, subst, arith, append_assoc}
use Rattle.std.specs.Prelude.{All}
use Rattle.std.proofs.lemmas.List.{append-nil}
use Rattle.std.proofs.lemmas.List.Elements.{All-nil, All-cons, All-head, All-tail}
use Rattle.affine_core.specs.declared.form.Form.{Form}
use Rattle.int_polyhedra.specs.declared.system.Proof.{Proof}
use Rattle.int_polyhedra.specs.declared.system.Proof.TheVariants.{Sum}
use Rattle.int_polyhedra.specs.declared.system.Term.{Term}
use Rattle.tree_graphs.specs.Problems.{IsCell}
use Rattle.tree_graphs.specs.Simple.{IsLightSum}
use Rattle.tree_graphs.proofs.ProblemBounds.{form_is, FormFits}
use Rattle.tree_sums.specs.Parts.{weight, IsWithin}
use Rattle.tree_sums.proofs.Within.{IsWithin-weaker}
use Rattle.sanlp.specs.WellFormed.{form_fits}
use Rattle.source_tree.specs.Checked.{AreRefuted, IsRefuted, HaveVariables}
use Rattle.source_tree.specs.Places.{at_place}
use Rattle.source_tree.specs.Rows.{RowExpr, RowSystem, Take, below_zero, minus, one_less}
use Rattle.source_tree.specs.Systems.{Context}
use Rattle.source_tree.proofs.Refutations.{AreRefuted-append}
use Rattle.stride_trees.specs.Candidates.{AreCutSums, IsCutSumOf}
use Rattle.tree_cuts.specs.Class.{is_pair, is_single, is_stride}
use Rattle.stride_trees.specs.Contexts.{differing, last_system, outside_of, AddsConverted, AreTestsIn, IsPlaceIn}
use Rattle.stride_trees.specs.Problem.{problem_read, problem_reads, problem_rows, problem_write, problem_writes}
use Rattle.tree_cuts.specs.Sources.{cell_source, divided_form, is_turned, last_converted, next_place, places_behind}
use Rattle.tree_cuts.specs.Sources.{row_source, subscript_converted}
use Rattle.stride_trees.specs.Strides.{IsSmallContext}
use Rattle.stride_trees.proofs.SourceCuts.{cell_before, row_before, test_before}
use Rattle.stride_trees.proofs.QuotientProblem.{told_cell, tests_inside}
use Rattle.stride_trees.proofs.SystemConversion.{tests_made}
use Rattle.stride_trees.proofs.MadeRows.{AreTestRows}
use Rattle.stride_trees.proofs.LastCells.{subscript_comes}
use Rattle.stride_trees.proofs.LastRows.{converted_last, last_cut_sum, outside_comes, ComesFrom}
use Rattle.stride_trees.proofs.Lists.{cut_sums_both, forms_count}
use Rattle.stride_trees.proofs.RowReach.{below_reached, less_reached, minus_reached, placed_reached, reached_farther}
use Rattle.stride_trees.proofs.RowReach.{reached_made, taken_reached, AreBounded, IsBounded, IsMadeWithin, IsReached}
use Rattle.stride_trees.proofs.QuotientReach.{told_read_reached, told_row_reached, told_write_reached}

-- A place

pub bounded : (c : Context) (bound : ℕ) (place : List Form) → HaveVariables c.vars place → All (IsWithin bound) place
    → AreBounded c.vars bound place
bounded c bound [] over within = All-nil _
bounded c bound (f ∷ place) over within =
    let long : length f.coefs ≡ c.vars = All-head (λ (f : Form). length f.coefs ≡ c.vars) f place over in
    All-cons (IsBounded c.vars bound) f place
    (record { short = omega (arith, long); within = All-head (IsWithin bound) f place within })
    (bounded c bound place (All-tail (λ (f : Form). length f.coefs ≡ c.vars) f place over)
    (All-tail (IsWithin bound) f place within))

-- a form of the statement at a place reaches so far
abbrev most_placed : ℕ
most_placed = 2 ^ 84

own_placed : (c : Context) (depth : ℕ) (form : Form) (place : List Form) → depth ≤ 6 → form_fits depth form ≡ true
    → IsPlaceIn c depth place → IsReached c.vars (2 ^ 48) most_placed (at_place form place)
own_placed c depth form place few fits at =
    let f : FormFits depth form = form_is depth form fits in
    reached_farther c.vars (2 ^ 48) (2 ^ 48 + length form.coefs * (2 ^ 32 * 2 ^ 48 + 2 ^ 48)) most_placed
    (at_place form place) (omega (arith, f.over, few))
    (placed_reached c.vars (2 ^ 48) (2 ^ 32) form place (omega (arith, f.within.constant)) f.within.coefs
    (bounded c (2 ^ 48) place at.over at.within))

-- One proof

-- a proof made for a system, from that of the system that is told
pub record IsMadeProof (order : ℕ) (small : Type 0) (told own : RowSystem) (ts : List Term) (proof : Proof)
    : Type 0 where
  pub refuted : IsRefuted told (Sum ts) → IsRefuted own proof
  pub cuts : small → IsRefuted told (Sum ts) → weight ts ≤ 2 ^ 48 → IsCutSumOf order own proof

-- a domain row
pub outside_made : (c : Context) (here depth : ℕ) (form : Form) (place : List Form) (ts : List Term)
    → IsSmallContext c here → depth ≤ 6 → IsPlaceIn c depth place → form_fits depth form ≡ true
    → (is_single form || is_pair form) ≡ true
    → IsMadeProof (here + 1) (All (IsWithin (2 ^ 40)) place)
    (last_system c (below_zero (at_place (divided_form form) place))) (last_system c (below_zero (at_place form place))) ts
    (last_converted (row_source form here) here ts)
outside_made c here depth form place ts small few at fits class =
    let own : RowExpr = below_zero (at_place form place) in
    let told : RowExpr = below_zero (at_place (divided_form form) place) in
    let made : IsMadeWithin c.vars (2 ^ 90) own = reached_made c.vars (2 ^ 48) (2 ^ 90) own (omega arith)
    (reached_farther c.vars (2 ^ 48) (most_placed + most_placed + 2 ^ 48) (2 ^ 90) own (omega arith)
    (below_reached c.vars (2 ^ 48) most_placed (at_place form place) (omega arith) (own_placed c depth form place few fits at)))
    in
    let from : ComesFrom c.vars small.rows here (row_source form here) own told =
    outside_comes c.vars here small.rows form place small.count class in
    record {
      refuted = converted_last c here small own told (row_source form here) made from ts;
      cuts = λ near h light. last_cut_sum c here small own told (row_source form here) made from ts
          (row_before (here + 1) form here (omega arith))
          (reached_farther c.vars (2 ^ 40) (13 * 2 ^ 40 + 13 * 2 ^ 40 + 2 ^ 40) (2 ^ 48) told (omega arith)
          (below_reached c.vars (2 ^ 40) (13 * 2 ^ 40) (at_place (divided_form form) place) (omega arith)
          (told_row_reached c.vars (2 ^ 40) depth form place (omega arith) few fits class
          (bounded c (2 ^ 40) place at.over near)))) h light;
    }

-- a subscript
module _ (c : Context) (here depth d root : ℕ) (places : List ℕ) (write read : Form) (writes reads place : List Form)
    (small : IsSmallContext c here) (few : depth ≤ 6) (le : d ≤ c.vars) (at : IsPlaceIn c depth place)
    (fits : form_fits depth write ≡ true) (single : is_single write ≡ true) (read_fits : form_fits d read ≡ true)
    (even : length (write ∷ writes) ≡ length (read ∷ reads))
    (tests : AreTestsIn c d root places (write ∷ writes) (read ∷ reads)) where
  abbrev test : ℕ
  test = root + 2 * next_place places

  abbrev quotient : ℕ
  quotient = d + next_place places

  f : FormFits depth write
  f = form_is depth write fits

  g : FormFits d read
  g = form_is d read read_fits

  same : length write.coefs ≡ length place
  same = f.over ∙ sym at.deep

  rows : AreTestRows c.vars small.rows d root places (write ∷ writes) (read ∷ reads)
  rows = tests_made c small.rows d root places (write ∷ writes) (read ∷ reads) small.made tests

  abbrev above : RowExpr
  above = one_less (minus (at_place write place) (Take read))

  abbrev below : RowExpr
  below = one_less (minus (Take read) (at_place write place))

  abbrev above_told : RowExpr
  above_told = one_less (minus (at_place (problem_write write) place) (Take (problem_read c.vars quotient write read)))

  abbrev below_told : RowExpr
  below_told = one_less (minus (Take (problem_read c.vars quotient write read)) (at_place (problem_write write) place))

  own_read : IsReached c.vars (2 ^ 48) (2 ^ 48) (Take read)
  own_read = taken_reached c.vars (2 ^ 48) read
      (record { short = omega (arith, g.over, le); within = IsWithin-weaker (2 ^ 32) (2 ^ 48) read (omega arith) g.within })

  own_write : IsReached c.vars (2 ^ 48) most_placed (at_place write place)
  own_write = own_placed c depth write place few fits at

  above_made : IsMadeWithin c.vars (2 ^ 90) above
  above_made = reached_made c.vars (2 ^ 48) (2 ^ 90) above (omega arith)
      (reached_farther c.vars (2 ^ 48) (most_placed + (2 ^ 48 + 2 ^ 48) + 2 ^ 48) (2 ^ 90) above (omega arith)
      (less_reached c.vars (2 ^ 48) (most_placed + (2 ^ 48 + 2 ^ 48)) (minus (at_place write place) (Take read)) (omega arith)
      (minus_reached c.vars (2 ^ 48) most_placed (2 ^ 48) (at_place write place) (Take read) own_write own_read)))

  below_made : IsMadeWithin c.vars (2 ^ 90) below
  below_made = reached_made c.vars (2 ^ 48) (2 ^ 90) below (omega arith)
      (reached_farther c.vars (2 ^ 48) (2 ^ 48 + (most_placed + most_placed) + 2 ^ 48) (2 ^ 90) below (omega arith)
      (less_reached c.vars (2 ^ 48) (2 ^ 48 + (most_placed + most_placed)) (minus (Take read) (at_place write place))
      (omega arith) (minus_reached c.vars (2 ^ 48) (2 ^ 48) most_placed (Take read) (at_place write place) own_read own_write)))

  cell : IsCell c.vars depth (problem_write write) (problem_read c.vars quotient write read)
  cell = told_cell depth d c.vars write read places fits single read_fits le
      (tests_inside c d root places (write ∷ writes) (read ∷ reads) even tests).0

  module _ (near : All (IsWithin (2 ^ 40)) place) where
    told_write : IsReached c.vars (2 ^ 40) (13 * 2 ^ 40) (at_place (problem_write write) place)
    told_write = told_write_reached c.vars (2 ^ 40) depth c.vars (problem_write write)
        (problem_read c.vars quotient write read) place (omega arith) few cell (bounded c (2 ^ 40) place at.over near)

    told_read : IsReached c.vars (2 ^ 40) (2 ^ 40) (Take (problem_read c.vars quotient write read))
    told_read = told_read_reached c.vars (2 ^ 40) depth c.vars (problem_write write)
        (problem_read c.vars quotient write read) (omega arith) (omega arith) cell

    above_reached : IsReached c.vars (2 ^ 40) (2 ^ 48) above_told
    above_reached = reached_farther c.vars (2 ^ 40) (13 * 2 ^ 40 + (2 ^ 40 + 2 ^ 40) + 2 ^ 40) (2 ^ 48) above_told (omega arith)
        (less_reached c.vars (2 ^ 40) (13 * 2 ^ 40 + (2 ^ 40 + 2 ^ 40))
        (minus (at_place (problem_write write) place) (Take (problem_read c.vars quotient write read))) (omega arith)
        (minus_reached c.vars (2 ^ 40) (13 * 2 ^ 40) (2 ^ 40) (at_place (problem_write write) place)
        (Take (problem_read c.vars quotient write read)) told_write told_read))

    below_reached' : IsReached c.vars (2 ^ 40) (2 ^ 48) below_told
    below_reached' = reached_farther c.vars (2 ^ 40) (2 ^ 40 + (13 * 2 ^ 40 + 13 * 2 ^ 40) + 2 ^ 40) (2 ^ 48) below_told
        (omega arith)
        (less_reached c.vars (2 ^ 40) (2 ^ 40 + (13 * 2 ^ 40 + 13 * 2 ^ 40))
        (minus (Take (problem_read c.vars quotient write read)) (at_place (problem_write write) place)) (omega arith)
        (minus_reached c.vars (2 ^ 40) (2 ^ 40) (13 * 2 ^ 40) (Take (problem_read c.vars quotient write read))
        (at_place (problem_write write) place) told_read told_write))

  inside : is_stride write ≡ true → test + 1 < here + 1
  inside is = omega (
    arith,
    test_before c d root places write read writes reads tests is,
    forms_count c.vars c.rows small.rows small.made,
    small.count,
  )

  abbrev Near : Type 0
  Near = All (IsWithin (2 ^ 40)) place

  -- of a row that comes from one of the statement's two
  high_of : (own : RowExpr) (ts : List Term) → IsMadeWithin c.vars (2 ^ 90) own
      → ComesFrom c.vars small.rows here (cell_source write here test) own above_told
      → IsMadeProof (here + 1) Near (last_system c above_told) (last_system c own) ts
      (last_converted (cell_source write here test) here ts)
  high_of own ts made from = record {
    refuted = converted_last c here small own above_told (cell_source write here test) made from ts;
    cuts = λ near h light. last_cut_sum c here small own above_told (cell_source write here test) made from ts
        (cell_before (here + 1) write here test (omega arith) (λ is. omega (arith, inside is))) (above_reached near) h light;
  }

  low_of : (own : RowExpr) (ts : List Term) → IsMadeWithin c.vars (2 ^ 90) own
      → ComesFrom c.vars small.rows here (cell_source write here (test + 1)) own below_told
      → IsMadeProof (here + 1) Near (last_system c below_told) (last_system c own) ts
      (last_converted (cell_source write here (test + 1)) here ts)
  low_of own ts made from = record {
    refuted = converted_last c here small own below_told (cell_source write here (test + 1)) made from ts;
    cuts = λ near h light. last_cut_sum c here small own below_told (cell_source write here (test + 1)) made from ts
        (cell_before (here + 1) write here (test + 1) (omega arith) inside) (below_reached' near) h light;
  }

  -- both proofs, in the order of the statement's systems
  abbrev Comes : Bool → Type 0
  Comes b =
      ComesFrom c.vars small.rows here (cell_source write here test) (cond b below above) above_told
      × ComesFrom c.vars small.rows here (cell_source write here (test + 1)) (cond b above below) below_told

  abbrev both : Bool → List Term → List Term → List Proof
  both b high low =
      cond b
      (last_converted (cell_source write here (test + 1)) here low ∷ last_converted (cell_source write here test) here high
      ∷ [])
      (last_converted (cell_source write here test) here high ∷ last_converted (cell_source write here (test + 1)) here low
      ∷ [])

  by_turn : (b : Bool) → Comes b → (high low : List Term) → IsRefuted (last_system c above_told) (Sum high)
      → IsRefuted (last_system c below_told) (Sum low)
      → AreRefuted (last_system c above ∷ last_system c below ∷ []) (both b high low)
  by_turn true from high low h k =
      ((low_of above low above_made from.1).refuted k, ((high_of below high below_made from.0).refuted h, tt))
  by_turn false from high low h k =
      ((high_of above high above_made from.0).refuted h, ((low_of below low below_made from.1).refuted k, tt))

  cut_by_turn : (b : Bool) → Comes b → (high low : List Term) → Near → IsRefuted (last_system c above_told) (Sum high)
      → IsRefuted (last_system c below_told) (Sum low) → weight high ≤ 2 ^ 48 → weight low ≤ 2 ^ 48
      → AreCutSums (here + 1) (last_system c above ∷ last_system c below ∷ []) (both b high low)
  cut_by_turn true from high low near h k i j =
      ((low_of above low above_made from.1).cuts near k j, ((high_of below high below_made from.0).cuts near h i, tt))
  cut_by_turn false from high low near h k i j =
      ((high_of above high above_made from.0).cuts near h i, ((low_of below low below_made from.1).cuts near k j, tt))

  comes : Comes (is_turned write)
  comes = subscript_comes c.vars here small.rows write read place test quotient small.count same single rows.0

  pub two_refuted : (high low : List Term) → IsRefuted (last_system c above_told) (Sum high)
      → IsRefuted (last_system c below_told) (Sum low)
      → AreRefuted (last_system c above ∷ last_system c below ∷ []) (subscript_converted write here test high low)
  two_refuted = by_turn (is_turned write) comes

  pub two_cut_sums : (high low : List Term) → Near → IsRefuted (last_system c above_told) (Sum high)
      → IsRefuted (last_system c below_told) (Sum low) → weight high ≤ 2 ^ 48 → weight low ≤ 2 ^ 48
      → AreCutSums (here + 1) (last_system c above ∷ last_system c below ∷ []) (subscript_converted write here test high low)
  two_cut_sums = cut_by_turn (is_turned write) comes

-- Lists of proofs

pub nothing_added : (order : ℕ) (small : Type 0) (told own : List RowSystem) (from old : List Proof)
    → (AreRefuted told from → AreRefuted own []) → (AreRefuted told from → AreCutSums order own [])
    → AddsConverted order small told own from old old
nothing_added order small told own from old h k = record {
  added = [];
  is = sym (append-nil old);
  refuted = h;
  cuts = λ near r light. k r;
}

-- the multipliers of a light Sum
pub light_terms : (ts : List Term) (proof : Proof) → proof ≡ Sum ts → IsLightSum proof → weight ts ≤ 2 ^ 48
light_terms ts proof is h =
    let same : h.0 ≡ ts = sum_terms_same h.0 ts (sym h.1 ∙ is) in
    omega (arith, ap weight same, h.2) where
      sum_terms_same : (a b : List Term) → Sum a ≡ Sum b → a ≡ b
      sum_terms_same a b e = cc

-- a domain row, and then others
pub outside_step : (c : Context) (here depth : ℕ) (form : Form) (forms place : List Form) (ts : List Term) (proof own : Proof)
    (from old next new : List Proof) → IsSmallContext c here → depth ≤ 6 → IsPlaceIn c depth place
    → form_fits depth form ≡ true → (is_single form || is_pair form) ≡ true → proof ≡ Sum ts
    → own ≡ last_converted (row_source form here) here ts → next ≡ old ++ own ∷ []
    → AddsConverted (here + 1) (All (IsWithin (2 ^ 40)) place) (outside_of c (problem_rows forms) place)
    (outside_of c forms place) from next new
    → AddsConverted (here + 1) (All (IsWithin (2 ^ 40)) place) (outside_of c (problem_rows (form ∷ forms)) place)
    (outside_of c (form ∷ forms) place) (proof ∷ from) old new
outside_step c here depth form forms place ts proof own from old next new small few at fits class sum own_is next_is rest =
    let m : IsMadeProof (here + 1) (All (IsWithin (2 ^ 40)) place)
    (last_system c (below_zero (at_place (divided_form form) place))) (last_system c (below_zero (at_place form place))) ts own
    = subst (IsMadeProof (here + 1) (All (IsWithin (2 ^ 40)) place)
    (last_system c (below_zero (at_place (divided_form form) place))) (last_system c (below_zero (at_place form place))) ts)
    (sym own_is) (outside_made c here depth form place ts small few at fits class) in
    let told : RowSystem = last_system c (below_zero (at_place (divided_form form) place)) in
    record {
      added = own ∷ rest.added;
      is = rest.is ∙ ap (λ xs. xs ++ rest.added) next_is ∙ append_assoc old (own ∷ []) rest.added;
      refuted = λ h. (m.refuted (subst (IsRefuted told) sum h.0), rest.refuted h.1);
      cuts = λ near h light. (
        m.cuts near (subst (IsRefuted told) sum h.0) (light_terms ts proof sum (All-head IsLightSum proof from light)),
        rest.cuts near h.1 (All-tail IsLightSum proof from light),
      );
    }

-- a subscript, and then others
pub cells_step : (c : Context) (here depth d root : ℕ) (places : List ℕ) (write read : Form) (writes reads place : List Form)
    (high low : List Term) (first second : Proof) (from old next new : List Proof) → IsSmallContext c here → depth ≤ 6
    → d ≤ c.vars → IsPlaceIn c depth place → form_fits depth write ≡ true → is_single write ≡ true
    → form_fits d read ≡ true → length (write ∷ writes) ≡ length (read ∷ reads)
    → AreTestsIn c d root places (write ∷ writes) (read ∷ reads) → first ≡ Sum high → second ≡ Sum low
    → next ≡ old ++ subscript_converted write here (root + 2 * next_place places) high low
    → AddsConverted (here + 1) (All (IsWithin (2 ^ 40)) place)
    (differing c (problem_writes writes) (problem_reads c.vars d (places_behind write places) writes reads) place)
    (differing c writes reads place) from next new
    → AddsConverted (here + 1) (All (IsWithin (2 ^ 40)) place)
    (differing c (problem_writes (write ∷ writes)) (problem_reads c.vars d places (write ∷ writes) (read ∷ reads)) place)
    (differing c (write ∷ writes) (read ∷ reads) place) (first ∷ (second ∷ from)) old new
cells_step c here depth d root places write read writes reads place high low first second from old next new small few le at
    fits single read_fits even tests high_is low_is next_is rest =
    let own : List Proof = subscript_converted write here (root + 2 * next_place places) high low in
    let w : Form = problem_write write in
    let r : Form = problem_read c.vars (d + next_place places) write read in
    let above_told : RowSystem = last_system c (one_less (minus (at_place w place) (Take r))) in
    let below_told : RowSystem = last_system c (one_less (minus (Take r) (at_place w place))) in
    let two : List RowSystem = last_system c (one_less (minus (at_place write place) (Take read)))
    ∷ last_system c (one_less (minus (Take read) (at_place write place))) ∷ [] in
    record {
      added = own ++ rest.added;
      is = rest.is ∙ ap (λ xs. xs ++ rest.added) next_is ∙ append_assoc old own rest.added;
      refuted = λ h. AreRefuted-append two (differing c writes reads place) own rest.added
          (two_refuted c here depth d root places write read writes reads place small few le at fits single read_fits even
          tests high low (subst (IsRefuted above_told) high_is h.0) (subst (IsRefuted below_told) low_is h.1.0))
          (rest.refuted h.1.1);
      cuts = λ near h light.
          (let lights : All IsLightSum (second ∷ from) = All-tail IsLightSum first (second ∷ from) light in
          cut_sums_both (here + 1) two (differing c writes reads place) own rest.added
          (two_cut_sums c here depth d root places write read writes reads place small few le at fits single read_fits even
          tests high low near (subst (IsRefuted above_told) high_is h.0) (subst (IsRefuted below_told) low_is h.1.0)
          (light_terms high first high_is (All-head IsLightSum first (second ∷ from) light))
          (light_terms low second low_is (All-head IsLightSum second from lights)))
          (rest.cuts near h.1.1 (All-tail IsLightSum second from lights)));
    }
