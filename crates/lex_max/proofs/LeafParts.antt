-- The proofs of a Writer leaf, part by part.
--
-- The proofs so far refute the systems so far, one for one, and a proof added keeps this. A system of a leaf has rows
-- behind the context, one of which is the opposite of a row that the context shows: outside the domain it is one of
-- its rows, in another cell one of the two rows of a subscript. The terms of the shown row and that last row, taken
-- once, add up to a negative number.
use Rattle.std.proofs.Common.{◌≡◌, ◌+◌, ◌^◌, ◌≤◌, ℕ, ℤ, negsuc}
use Rattle.std.proofs.Common.{List, [], ◌∷◌, ◌++◌, length, map, true, refl, sym}
use Rattle.std.proofs.Common.{subst, arith, append_assoc}
use Rattle.std.specs.Prelude.{Some, All, slice_get}
use Rattle.std.proofs.lemmas.Int.{ints}
use Rattle.std.proofs.lemmas.List.{append-nil}
use Rattle.std.proofs.lemmas.List.Elements.{All-nil, All-cons, All-append, All-head, All-tail}
use Rattle.affine_core.specs.declared.form.Form.{Form}
use Rattle.int_polyhedra.specs.declared.system.Proof.{Proof}
use Rattle.int_polyhedra.specs.declared.system.Proof.TheVariants.{Sum}
use Rattle.int_polyhedra.specs.declared.system.System.{System}
use Rattle.int_polyhedra.specs.declared.system.Term.{Term}
use Rattle.sanlp.specs.WellFormed.{form_fits}
use Rattle.tree_graphs.specs.Asked.{depth_of_write}
use Rattle.tree_graphs.specs.Problems.{IsCell}
use Rattle.tree_graphs.specs.Facts.{IsFact}
use Rattle.lex_max.specs.Leaves.{AddsProofs, IsLeafOf}
use Rattle.tree_graphs.specs.Paths.{term_of}
use Rattle.tree_graphs.specs.Simple.{IsLightSum}
use Rattle.tree_graphs.specs.declared.writes.Writes.{Writes}
use Rattle.lex_max.proofs.PointSystems.{added_refuted, Opposes}
use Rattle.tree_graphs.proofs.ProblemBounds.{form_is}
use Rattle.tree_graphs.proofs.RowBounds.{farther_row, minus_row, most_made, most_placed, most_taken, one_less_row, placed_row}
use Rattle.tree_graphs.proofs.RowBounds.{read_taken, taken_row, AreSmall, AreTaken, IsSmallRow}
use Rattle.tree_sums.specs.Made.{parts_of}
use Rattle.tree_sums.specs.Parts.{Part, IsWithin}
use Rattle.tree_sums.proofs.Weights.{weight_sum}
use Rattle.tree_sums.proofs.Within.{IsWithin-weaker}
use Rattle.source_tree.specs.Checked.{AreRefuted, IsRefuted}
use Rattle.source_tree.specs.Places.{at_place, differ_rows}
use Rattle.source_tree.specs.Rows.{RowExpr, RowSystem, Take, Times, below_zero, minus, one_less}
use Rattle.source_tree.specs.Systems.{Context, with_rows}
use Rattle.source_tree.proofs.Refutations.{AreRefuted-append}

-- Proofs, added one after the other

pub adds_no_proofs : (old : List Proof) → AddsProofs [] old old
adds_no_proofs old = record {
  refuted =
      λ before h. subst (λ systems. AreRefuted systems old) (sym (append-nil before)) h;
  light = λ h. h;
}

pub adds_proof : (system : RowSystem) (rest : List RowSystem) (proof : Proof) (old middle new : List Proof) → middle
    ≡ old ++ proof ∷ [] → IsRefuted system proof → IsLightSum proof
    → AddsProofs rest middle new → AddsProofs (system ∷ rest) old new
adds_proof system rest proof old middle new is refuted light h = record {
  refuted = λ before b. subst (λ systems. AreRefuted systems new) (append_assoc before (system ∷ []) rest)
      (h.refuted (before ++ system ∷ []) (subst (AreRefuted (before ++ system ∷ [])) (sym is)
      (AreRefuted-append before (system ∷ []) old (proof ∷ []) b (refuted, tt))));
  light = λ b. h.light (subst (All IsLightSum) (sym is)
      (All-append IsLightSum old (proof ∷ []) b (All-cons IsLightSum proof [] light (All-nil _))));
}

pub adds_one_proof : (system : RowSystem) (proof : Proof) (old new : List Proof) → new ≡ old ++ proof ∷ []
    → IsRefuted system proof → IsLightSum proof → AddsProofs (system ∷ []) old new
adds_one_proof system proof old new is refuted light =
    adds_proof system [] proof old new new is refuted light (adds_no_proofs new)

pub adds_more_proofs : (first rest : List RowSystem) (old middle new : List Proof) → AddsProofs first old middle
    → AddsProofs rest middle new → AddsProofs (first ++ rest) old new
adds_more_proofs first rest old middle new h k = record {
  refuted = λ before b. subst (λ systems. AreRefuted systems new) (append_assoc before first rest)
      (k.refuted (before ++ first) (h.refuted before b));
  light = λ b. k.light (h.light b);
}

light_sum : (context : System) (a : Part → ℤ) (ts : List Term) (row : ℕ) → IsFact context (2 ^ 24) a ts
    → IsLightSum (Sum (ts ++ term_of row ∷ []))
light_sum context a ts row h = (ts ++ term_of row ∷ [], refl, omega (arith, weight_sum ts (term_of row ∷ []), h.light))

fact_wide : (context : System) (a : Part → ℤ) (ts : List Term) → IsFact context (2 ^ 23) a ts
    → IsFact context (2 ^ 24) a ts
fact_wide context a ts h = record { shows = h.shows; light = omega (arith, h.light) }

-- the forms of a place are small
pub place_taken : (vars d : ℕ) (place : List Form) → d ≤ vars → All (λ f. length f.coefs ≡ d) place
    → All (IsWithin (2 ^ 40)) place → AreTaken vars place
place_taken vars d [] le over within = tt
place_taken vars d (f ∷ place) le over within = (
  record {
    short = (let long : length f.coefs ≡ d = All-head (λ (f : Form). length f.coefs ≡ d) f place over
        in omega (arith, long, le));
    within = IsWithin-weaker (2 ^ 40) most_taken f (omega arith) (All-head (IsWithin (2 ^ 40)) f place within);
  },
  place_taken vars d place le (All-tail (λ (f : Form). length f.coefs ≡ d) f place over)
      (All-tail (IsWithin (2 ^ 40)) f place within),
)

below_opposes : (e : RowExpr) → Opposes (parts_of e) (parts_of (below_zero e))
below_opposes e = record { negative = omega (arith, ints); no_variable = λ i. omega (arith, ints) }

pub less_opposes : (a b : RowExpr) → Opposes (parts_of (minus b a)) (parts_of (one_less (minus a b)))
less_opposes a b = record { negative = omega (arith, ints); no_variable = λ i. omega (arith, ints) }

small_below : (vars : ℕ) (e : RowExpr) → IsSmallRow vars e most_placed → IsSmallRow vars (below_zero e) most_made
small_below vars e h =
    farther_row vars (most_placed + most_placed + most_taken) most_made (below_zero e) (omega arith)
    (one_less_row vars (most_placed + most_placed) (Times (negsuc 0) e)
    (record { takes = h.takes; reaches = omega (arith, h.reaches) }))

small_differ : (vars : ℕ) (e f : RowExpr) → IsSmallRow vars e most_placed → IsSmallRow vars f most_placed
    → IsSmallRow vars (one_less (minus e f)) most_made
small_differ vars e f h k =
    farther_row vars (most_placed + (most_placed + most_placed) + most_taken) most_made (one_less (minus e f))
    (omega arith)
    (one_less_row vars (most_placed + (most_placed + most_placed)) (minus e f)
    (minus_row vars most_placed most_placed e f h k))

module _ (w : Writes) (c : Context) (context : System) (place : List Form) (here : ℕ)
    (leaf : IsLeafOf w c context place here) where
  pub place_taken_here : AreTaken c.vars place
  place_taken_here = place_taken c.vars w.vars place (omega (arith, leaf.vars)) leaf.placed.over leaf.placed.within

  -- a row that is below another one that is shown
  pub shown_refuted : (extra : List RowExpr) (j : ℕ) (last : RowExpr) (ts : List Term) (a : Part → ℤ) (row : ℕ)
      (proof : Proof) → AreSmall c.vars extra → slice_get extra j ≡ Some last
      → IsFact context (2 ^ 23) a ts → Opposes a (parts_of last) → row ≡ here + j → proof ≡ Sum (ts ++ term_of row ∷ [])
      → IsRefuted (with_rows c extra) proof × IsLightSum proof
  shown_refuted extra j last ts a row proof small is fact opposed row_is proof_is =
      let place_is : length context.rows + j ≡ row = omega (arith, row_is, leaf.numbered) in
      let wide : IsFact context (2 ^ 24) a ts = fact_wide context a ts fact in (
        subst (IsRefuted (with_rows c extra)) (sym proof_is)
            (subst (λ row. IsRefuted (with_rows c extra) (Sum (ts ++ term_of row ∷ []))) place_is
            (added_refuted c context extra j last ts a leaf.made small is wide opposed)),
        subst IsLightSum (sym proof_is) (light_sum context a ts row wide),
      )

  -- outside the domain
  pub outside_next : (row : Form) (rows : List Form) (ts : List Term) (certs : List (List Term)) (proof : Proof)
      (old middle new : List Proof) → form_fits (depth_of_write w) row ≡ true
      → depth_of_write w ≤ 6 → IsFact context (2 ^ 23) (parts_of (at_place row place)) ts → proof
      ≡ Sum (ts ++ term_of here ∷ []) → middle ≡ old ++ proof ∷ []
      → AddsProofs (map (λ row. with_rows c (below_zero (at_place row place) ∷ [])) rows) middle new
      → AddsProofs (map (λ row. with_rows c (below_zero (at_place row place) ∷ [])) (row ∷ rows)) old new
  outside_next row rows ts certs proof old middle new fits few fact proof_is is rest =
      let e : RowExpr = at_place row place in
      let small : IsSmallRow c.vars (below_zero e) most_made = small_below c.vars e
      (placed_row c.vars (depth_of_write w) row place few (form_is (depth_of_write w) row fits) place_taken_here) in
      let one = shown_refuted (below_zero e ∷ []) 0 (below_zero e) ts (parts_of e) here proof (small, tt) refl fact
      (below_opposes e) (omega arith) proof_is in
      adds_proof (with_rows c (below_zero e ∷ [])) (map
      (λ row. with_rows c (below_zero (at_place row place) ∷ [])) rows) proof old middle new is one.0 one.1 rest

  -- another cell
  pub cell_next : (write read : Form) (writes reads : List Form) (above below : List Term) (first second : Proof)
      (old middle middle' new : List Proof) → IsCell w.vars (depth_of_write w) write read → depth_of_write w ≤ 6
      → IsFact context (2 ^ 23) (parts_of (minus (at_place write place) (Take read))) above
      → IsFact context (2 ^ 23) (parts_of (minus (Take read) (at_place write place))) below
      → first ≡ Sum (below ++ term_of here ∷ []) → second ≡ Sum (above ++ term_of here ∷ []) → middle ≡ old ++ first
      ∷ [] → middle' ≡ middle ++ second ∷ []
      → AddsProofs (map (λ row. with_rows c (row ∷ [])) (differ_rows writes reads place)) middle' new
      → AddsProofs (map (λ row. with_rows c (row ∷ [])) (differ_rows (write ∷ writes) (read ∷ reads) place)) old new
  cell_next write read writes reads above below first second old middle middle' new cell few above_is below_is
      first_is second_is is is' rest =
      let a : RowExpr = at_place write place in
      let b : RowExpr = Take read in
      let small_a : IsSmallRow c.vars a most_placed =
      placed_row c.vars (depth_of_write w) write place few (form_is (depth_of_write w) write cell.fits)
      place_taken_here in
      let small_b : IsSmallRow c.vars b most_placed
      = farther_row c.vars most_taken most_placed b (omega arith)
      (taken_row c.vars read
      (read_taken c.vars w.vars (depth_of_write w) write read (omega (arith, leaf.vars)) cell)) in
      let one = shown_refuted (one_less (minus a b) ∷ []) 0 (one_less (minus a b)) below
      (parts_of (minus b a)) here first (small_differ c.vars a b small_a small_b, tt) refl below_is
      (less_opposes a b) (omega arith) first_is in
      let two = shown_refuted (one_less (minus b a) ∷ []) 0 (one_less (minus b a)) above
      (parts_of (minus a b)) here second (small_differ c.vars b a small_b small_a, tt) refl above_is
      (less_opposes b a) (omega arith) second_is in
      let more : List RowSystem = map (λ row. with_rows c (row ∷ [])) (differ_rows writes reads place) in
      adds_proof (with_rows c (one_less (minus a b) ∷ []))
      (with_rows c (one_less (minus b a) ∷ []) ∷ more) first old middle new is one.0 one.1
      (adds_proof (with_rows c (one_less (minus b a) ∷ [])) more second middle middle' new is' two.0 two.1 rest)
