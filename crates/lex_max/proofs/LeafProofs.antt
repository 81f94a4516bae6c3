-- The proofs of a Writer leaf, put together.
--
-- The terms of the edges show the rows of the edges, in order: the domain's, the cell's, and those of the order before
-- the read. Each part of the proofs uses its own; where the reader might be before the leaf's point, the order row of
-- the candidate's level refutes each level from there on, and that of a level above refutes that level.
use Rattle.std.proofs.Common.{◌≡◌, ◌+◌, ◌*◌, ◌^◌, ◌≤◌, ◌<◌, ℕ, zero, suc, List, [], ◌∷◌, ◌++◌, length, map, take}
use Rattle.std.proofs.Common.{drop, Bool, true, false, cond, refl, sym, ap, ◌∙◌, subst, arith, append_assoc}
use Rattle.std.proofs.Common.{length-append, inl, inr, ◌⊎◌, lt-ltb, take_all}
use Rattle.std.specs.Prelude.{Some, None, slice_get, nat_lt}
use Rattle.std.specs.List.{list_all}
use Rattle.std.proofs.lemmas.Bool.{cases_lt, and_parts}
use Rattle.std.proofs.lemmas.Option.{same_Some, slice_get_within}
use Rattle.std.proofs.lemmas.List.{length-map}
use Rattle.affine_core.specs.declared.form.Form.{Form}
use Rattle.int_polyhedra.specs.declared.system.Proof.{Proof}
use Rattle.int_polyhedra.specs.declared.system.Proof.TheVariants.{Sum}
use Rattle.int_polyhedra.specs.declared.system.System.{System}
use Rattle.int_polyhedra.specs.declared.system.Term.{Term}
use Rattle.int_polyhedra.specs.Systems.{AreOver}
use Rattle.sanlp.specs.Order.{common_loops}
use Rattle.sanlp.specs.WellFormed.{form_fits}
use Rattle.sanlp.proofs.Precedence.{common_loops-comm}
use Rattle.lex_max.specs.Answer.{IsContextOf}
use Rattle.tree_graphs.specs.Asked.{depth_of_read, depth_of_write, read_of, write_of}
use Rattle.tree_graphs.specs.Problems.{AreCells}
use Rattle.lex_max.specs.Choices.{AreCerts}
use Rattle.tree_graphs.specs.Edges.{edge_parts, write_rows, AreEdges}
use Rattle.lex_max.specs.Leaves.{after_levels, AddsProofs, AreOrderCerts, AreShown, HasAfter, IsAfterProof, IsLeafOf}
use Rattle.lex_max.specs.Leaves.{IsPlaceOf}
use Rattle.tree_graphs.specs.Level.{common_of}
use Rattle.tree_graphs.specs.Paths.{term_of}
use Rattle.tree_graphs.specs.Rounds.{IsGraphOf}
use Rattle.tree_graphs.specs.Simple.{IsLightSum}
use Rattle.tree_graphs.specs.declared.edges.Edge.{Edge}
use Rattle.tree_graphs.specs.declared.writes.Writes.{Writes}
use Rattle.lex_max.proofs.After.{after_above, after_at, after_below, readers_taken}
use Rattle.lex_max.proofs.After.{same_refuted, swapped_is}
use Rattle.tree_graphs.proofs.FactSums.{fact_same}
use Rattle.tree_graphs.proofs.ProblemBounds.{writes_fit, IsKnown}
use Rattle.lex_max.proofs.LeafParts.{adds_more_proofs, adds_no_proofs, adds_one_proof, cell_next, outside_next}
use Rattle.lex_max.proofs.LeafParts.{place_taken, place_taken_here}
use Rattle.lex_max.proofs.Levels.{of_level, AreOfLevel}
use Rattle.tree_graphs.proofs.MadeRows.{taken_all}
use Rattle.tree_graphs.proofs.OrderEdges.{length_variables}
use Rattle.tree_graphs.proofs.ZeroSystems.{level_exists, variables_taken}
use Rattle.tree_graphs.proofs.RowBounds.{level_at, IsSmallLevel}
use Rattle.plain_data.proofs.Lists.{slice_get-some}
use Rattle.tree_sums.specs.Made.{parts_of}
use Rattle.source_tree.specs.Checked.{IsRefuted}
use Rattle.source_tree.specs.Places.{at_place, before_rows, cell_rows, differ_rows, domain_rows, order_rows, same_rows}
use Rattle.source_tree.specs.Rows.{RowExpr, RowSystem, Take, below_zero, equal_rows, row_forms}
use Rattle.source_tree.specs.Systems.{Context, reader_place, with_rows}
use Rattle.source_tree.proofs.RowLists.{length-domain_rows, length-cell_rows}

-- Terms of rows

pub certs_shown : (context : System) (place : List Form) (rows : List RowExpr) (edges : List Edge)
    (certs : List (List Term)) → AreEdges place rows edges → AreCerts context place edges certs
    → AreShown context rows certs
certs_shown context place [] [] [] are h = tt
certs_shown context place [] [] (ts ∷ certs) are h = absurd h
certs_shown context place [] (g ∷ edges) certs are h = absurd are
certs_shown context place (row ∷ rows) [] certs are h = absurd are
certs_shown context place (row ∷ rows) (g ∷ edges) [] are h = absurd h
certs_shown context place (row ∷ rows) (g ∷ edges) (ts ∷ certs) are h = (
  fact_same context (2 ^ 23) (edge_parts place g) (parts_of row) ts (λ part. sym (are.0 part)) h.0,
  certs_shown context place rows edges certs are.1 h.1,
)

pub shown_count : (context : System) (rows : List RowExpr) (certs : List (List Term)) → AreShown context rows certs
    → length certs ≡ length rows
shown_count context [] [] h = refl
shown_count context [] (ts ∷ certs) h = absurd h
shown_count context (row ∷ rows) [] h = absurd h
shown_count context (row ∷ rows) (ts ∷ certs) h = ap suc (shown_count context rows certs h.1)

pub shown_first : (context : System) (xs ys : List RowExpr) (certs : List (List Term)) (n : ℕ) → n ≡ length xs
    → AreShown context (xs ++ ys) certs → AreShown context xs (take n certs)
shown_first context [] ys [] zero e h = tt
shown_first context [] ys (ts ∷ certs) zero e h = tt
shown_first context [] ys certs (suc n) e h = absurd (omega arith)
shown_first context (x ∷ xs) ys [] n e h = absurd h
shown_first context (x ∷ xs) ys (ts ∷ certs) zero e h = absurd (omega arith)
shown_first context (x ∷ xs) ys (ts ∷ certs) (suc n) e h =
    (h.0, shown_first context xs ys certs n (omega (arith, e)) h.1)

pub shown_rest : (context : System) (xs ys : List RowExpr) (certs : List (List Term)) (n : ℕ) → n ≡ length xs
    → AreShown context (xs ++ ys) certs → AreShown context ys (drop n certs)
shown_rest context [] ys [] zero e h = h
shown_rest context [] ys (ts ∷ certs) zero e h = h
shown_rest context [] ys certs (suc n) e h = absurd (omega arith)
shown_rest context (x ∷ xs) ys [] n e h = absurd h
shown_rest context (x ∷ xs) ys (ts ∷ certs) zero e h = absurd (omega arith)
shown_rest context (x ∷ xs) ys (ts ∷ certs) (suc n) e h = shown_rest context xs ys certs n (omega (arith, e)) h.1

-- The leaf

pub level_of_place : (w : Writes) (vars : ℕ) (place : List Form) → IsPlaceOf w place → vars
    ≡ w.vars
    → IsSmallLevel vars (before_rows w.write.number w.write.statement.now place w.read.number w.read.statement.now
    (reader_place (read_of w))) w.level
level_of_place w vars place placed vars_is =
    let f : IsKnown w.vars (read_of w) (write_of w) w.level = writes_fit w in
    level_at vars (common_of (write_of w) (read_of w)) w.level (nat_lt w.write.number w.read.number) place
    (reader_place (read_of w)) (omega (arith, placed.deep, f.common_loops))
    (omega (arith, length_variables 0 (depth_of_read w), f.common_vars))
    (level_exists (read_of w) (write_of w) w.level w.problem.level)
    (place_taken vars w.vars place (omega (arith, vars_is)) placed.over placed.within)
    (variables_taken vars 0 (depth_of_read w) (omega (arith, vars_is, f.reader)))

pub leaf_of : (w : Writes) (c : Context) (context : System) (place : List Form) (here : ℕ)
    → IsContextOf w 0 context → IsPlaceOf w place → here ≡ length context.rows
    → c.vars ≡ w.vars → row_forms c.vars c.rows ≡ Some context.rows → IsLeafOf w c context place here
leaf_of w c context place here of placed numbered vars_is rows_is =
    let same : context.vars ≡ c.vars = of.vars ∙ sym vars_is in
    record {
      made = record {
        vars = same;
        rows = rows_is;
        over = subst (λ v. AreOver v context.rows) same of.over;
        within =
            of.within;
      };
      vars = vars_is;
      few = omega (arith, of.few);
      numbered = numbered;
      placed = placed;
    }

-- a context that makes these rows
abbrev pub plain_of : Writes → System → Context
plain_of w context = record { vars = w.vars; rows = map Take context.rows }

pub plain_leaf : (w : Writes) (context : System) (place : List Form) (here : ℕ) → IsContextOf w 0 context
    → IsPlaceOf w place → here ≡ length context.rows
    → IsLeafOf w (plain_of w context) context place here
plain_leaf w context place here of placed numbered =
    leaf_of w (plain_of w context) context place here of placed numbered refl
    (taken_all w.vars context.rows (subst (λ v. AreOver v context.rows) of.vars of.over))

-- the terms of the order rows
pub order_certs : (w : Writes) (edges : List Edge) (c : Context) (context : System) (place : List Form) (here n : ℕ)
    (certs : List (List Term)) → IsGraphOf w edges → IsLeafOf w c context place here
    → AreCerts context place edges certs → n ≡ length w.rows.now
    + 2 * length w.write_forms.now → AreOrderCerts w here c context place (drop n certs)
order_certs w edges c context place here n certs graph leaf h n_is =
    let f : IsKnown w.vars (read_of w) (write_of w) w.level = writes_fit w in
    let s : IsSmallLevel c.vars _ w.level = level_of_place w c.vars place leaf.placed leaf.vars in
    let d : List RowExpr = domain_rows w.rows.now place in
    let cells : List RowExpr = cell_rows w.write_forms.now w.read_forms.now place in
    let shown : AreShown context (write_rows (read_of w) (write_of w) s.rows place) certs
    = certs_shown context place (write_rows (read_of w) (write_of w) s.rows place) edges certs
    (graph.edges_are place s.rows leaf.placed.deep s.is) h in
    let whole : AreShown context ((d ++ cells) ++ s.rows) certs =
    subst (λ rows. AreShown context rows certs) (sym (append_assoc d cells s.rows)) shown in
    record {
      leaf = leaf;
      level = s.rows;
      level_is = s.is;
      shown = shown_rest context (d ++ cells) s.rows certs n
          (omega (
            arith,
            n_is,
            length-append d cells,
            length-domain_rows w.rows.now place,
            length-cell_rows w.write_forms.now w.read_forms.now place f.even,
          )) whole;
    }

-- The reader before the leaf's point

pub level_common : (w : Writes) (l : ℕ) → HasAfter w l → w.level ≤ l
    → w.level < common_of (write_of w) (read_of w)
level_common w l has le = elim w.problem.level [
  | inl lt ↦ lt
  | inr at ↦ elim has [
    | inl lt ↦ absurd
        (let e : w.level ≡ common_of (write_of w) (read_of w) = at.0 in omega (arith, e, lt, le, w.loops))
    | inr same ↦ absurd (let lt : w.write.number < w.read.number = at.1 in let gt : w.read.number < w.write.number =
        same.1 in omega (arith, lt, gt))
  ]
]

pub level_same : (w : Writes) → w.write.number ≡ w.read.number → w.level < w.common
level_same w same = elim w.problem.level [
  | inl lt ↦ omega (arith, lt, w.loops)
  | inr at ↦ absurd (let lt : w.write.number < w.read.number = at.1 in omega (arith, lt, same))
]

module _ (w : Writes) (c : Context) (context : System) (place : List Form) (here : ℕ) (order : List (List Term))
    (k : AreOrderCerts w here c context place order) where
  fits : IsKnown w.vars (read_of w) (write_of w) w.level
  fits = writes_fit w

  abbrev swapped : ℕ
  swapped = common_loops w.read.statement.now.loops w.write.statement.now.loops

  same_common : swapped ≡ w.common
  same_common = swapped_is w c context place here k.leaf k.level order k.level_is k.shown ∙ sym w.loops

  has_level : (l : ℕ) → HasAfter w l → (l < swapped) ⊎ ((l ≡ swapped) × (nat_lt w.read.number w.write.number ≡ true))
  has_level l has = elim has [
    | inl lt ↦ inl (omega (arith, lt, same_common))
    | inr at ↦ inr (at.0 ∙ sym same_common, lt-ltb w.read.number w.write.number at.1)
  ]

  level_here : (l : ℕ) → HasAfter w l → IsSmallLevel c.vars (after_levels w place) l
  level_here l has =
      level_at c.vars swapped l (nat_lt w.read.number w.write.number) (reader_place (read_of w)) place
      (omega (arith, length_variables 0 (depth_of_read w), same_common, w.loops, fits.common_vars))
      (omega (arith, k.leaf.placed.deep, same_common, w.loops, fits.common_loops))
      (has_level l has) (readers_taken w c context place here k.leaf k.level order k.level_is k.shown)
      (place_taken_here w c context place here k.leaf)

  pub is_above : (l row : ℕ) (ts : List Term) (proof : Proof) → HasAfter w l → l < w.level → slice_get order (2 * l + 1)
      ≡ Some ts → row ≡ here + 2 * l → proof ≡ Sum (ts ++ term_of row ∷ [])
      → IsAfterProof w c place l proof
  is_above l row ts proof has above cert row_is proof_is =
      let s : IsSmallLevel c.vars (after_levels w place) l = level_here l has in
      let p = after_above w c context place here k.leaf k.level order k.level_is k.shown l s.rows row ts proof s.is
      above cert row_is proof_is in
      record { rows = s.rows; is = s.is; refuted = p.0; light = p.1 }

  pub is_at : (l row : ℕ) (ts : List Term) (proof : Proof) → HasAfter w l → l ≡ w.level → slice_get order (2 * w.level)
      ≡ Some ts → row ≡ here + 2 * w.level → proof ≡ Sum (ts ++ term_of row ∷ [])
      → IsAfterProof w c place l proof
  is_at l row ts proof has same cert row_is proof_is =
      let s : IsSmallLevel c.vars (after_levels w place) l = level_here l has in
      let is : slice_get (after_levels w place) w.level ≡ Some s.rows = ap (slice_get (after_levels w place)) (sym same)
      ∙ s.is in
      let p = after_at w c context place here k.leaf k.level order k.level_is k.shown s.rows row ts proof is
      (level_common w l has (omega (arith, same))) cert row_is proof_is in
      record { rows = s.rows; is = s.is; refuted = p.0; light = p.1 }

  pub is_below : (l row : ℕ) (ts : List Term) (proof : Proof) → HasAfter w l → w.level < l
      → slice_get order (2 * w.level) ≡ Some ts → row ≡ here + (2 * w.level + 1) → proof ≡ Sum (ts ++ term_of row ∷ [])
      → IsAfterProof w c place l proof
  is_below l row ts proof has below cert row_is proof_is =
      let s : IsSmallLevel c.vars (after_levels w place) l = level_here l has in
      let p = after_below w c context place here k.leaf k.level order k.level_is k.shown l s.rows row ts proof s.is
      (has_level l has) below (level_common w l has (omega (arith, below))) cert row_is proof_is in
      record { rows = s.rows; is = s.is; refuted = p.0; light = p.1 }

  pub is_same : (row : ℕ) (ts : List Term) (proof : Proof) → w.level < w.common → slice_get order (2 * w.level)
      ≡ Some ts → row ≡ here + (2 * w.level + 1) → proof ≡ Sum (ts ++ term_of row ∷ [])
      → IsRefuted (with_rows c (same_rows (reader_place (read_of w)) place)) proof × IsLightSum proof
  is_same row ts proof common cert row_is proof_is =
      same_refuted w c context place here k.leaf k.level order k.level_is k.shown row ts proof
      (omega (arith, common, w.loops)) cert row_is proof_is

  -- how many terms there are
  own : AreOfLevel (common_of (write_of w) (read_of w)) w.level place (reader_place (read_of w)) k.level
  own = of_level (common_of (write_of w) (read_of w)) w.level (nat_lt w.write.number w.read.number) place
      (reader_place (read_of w)) k.level k.level_is

  pub many_above : (l : ℕ) → l < w.level → 2 * l + 1 < length order
  many_above l lt =
      let v = slice_get-some place l (omega (arith, lt, fits.level, fits.common_loops, k.leaf.placed.deep)) in
      let x = slice_get-some (reader_place (read_of w)) l
      (omega (arith, lt, fits.level, fits.common_vars, length_variables 0 (depth_of_read w))) in
      let there = slice_get_within k.level (2 * l + 1) _ (own.above l v.0 x.0 lt v.1 x.1) in
      omega (arith, there, shown_count context k.level order k.shown)

  pub many_at : w.level < common_of (write_of w) (read_of w) → 2 * w.level < length order
  many_at lt =
      let v = slice_get-some place w.level (omega (arith, lt, fits.common_loops, k.leaf.placed.deep)) in
      let x = slice_get-some (reader_place (read_of w)) w.level
      (omega (arith, lt, fits.common_vars, length_variables 0 (depth_of_read w))) in
      let there = slice_get_within k.level (2 * w.level) _ (own.at v.0 x.0 lt v.1 x.1) in
      omega (arith, there, shown_count context k.level order k.shown)

-- Proofs of levels

pub taken_more : {X : Type 0} (f : X → RowSystem) (xs : List X) (k : ℕ) (x : X) → slice_get xs k ≡ Some x
    → map f (take (k + 1) xs) ≡ map f (take k xs) ++ f x ∷ []
taken_more f [] k x e = absurd (let h : None ≡ Some x = e in cc)
taken_more f (y ∷ xs) zero x e = ap (λ y. f y ∷ []) (same_Some y x e)
taken_more f (y ∷ xs) (suc k) x e =
    let next : suc k + 1 ≡ suc (k + 1) = omega arith in
    ap (λ n. map f (take n (y ∷ xs))) next ∙ ap (λ systems. f y ∷ systems) (taken_more f xs k x e)

pub proofs_more : {X : Type 0} (f : X → RowSystem) (xs : List X) (k : ℕ) (x : X) (proof : Proof)
    (old middle new : List Proof) → slice_get xs k ≡ Some x → AddsProofs (map f (take k xs)) old middle
    → new ≡ middle ++ proof ∷ [] → IsRefuted (f x) proof → IsLightSum proof
    → AddsProofs (map f (take (k + 1) xs)) old new
proofs_more f xs k x proof old middle new at h is refuted light =
    subst (λ systems. AddsProofs systems old new) (sym (taken_more f xs k x at))
    (adds_more_proofs (map f (take k xs)) (f x ∷ []) old middle new h
    (adds_one_proof (f x) proof middle new is refuted light))

pub proofs_none : {X : Type 0} (f : X → RowSystem) (xs : List X) (old : List Proof)
    → AddsProofs (map f (take 0 xs)) old old
proofs_none f xs old = adds_no_proofs old

pub proofs_whole : {X : Type 0} (f : X → RowSystem) (xs : List X) (n : ℕ) (old new : List Proof) → length xs ≤ n
    → AddsProofs (map f (take n xs)) old new → AddsProofs (map f xs) old new
proofs_whole f xs n old new le h = subst (λ xs. AddsProofs (map f xs) old new) (take_all n xs le) h

-- how many levels there are at most
pub few_levels : (c : ℕ) (less : Bool) (a b : List Form) → length (order_rows c less a b) ≤ c + cond less 1 0
few_levels zero true a b = omega arith
few_levels zero false a b = omega arith
few_levels (suc c) less [] b = omega arith
few_levels (suc c) less (v ∷ a) [] = omega arith
few_levels (suc c) less (v ∷ a) (x ∷ b) =
    let rest : length (order_rows c less a b) ≤ c + cond less 1 0 = few_levels c less a b in
    omega (arith, rest, length-map (order_rows c less a b) (λ rows. equal_rows (Take v) (Take x) ++ rows))

-- The steps along the terms

abbrev pub outside_of : Context → List Form → List Form → List RowSystem
outside_of c place rows = map (λ row. with_rows c (below_zero (at_place row place) ∷ [])) rows

abbrev pub cells_of : Context → List Form → List Form → List Form → List RowSystem
cells_of c place writes reads = map (λ row. with_rows c (row ∷ [])) (differ_rows writes reads place)

pub outside_end : (c : Context) (context : System) (place rows : List Form) (certs : List (List Term))
    (old : List Proof) → certs ≡ [] → AreShown context (domain_rows rows place) certs
    → AddsProofs (outside_of c place rows) old old
outside_end c context place [] certs old none shown = adds_no_proofs old
outside_end c context place (row ∷ rows) certs old none shown =
    absurd (subst (AreShown context (domain_rows (row ∷ rows) place)) none shown)

pub outside_step : (w : Writes) (c : Context) (context : System) (place : List Form) (here : ℕ) (rows : List Form)
    (ts : List Term) (rest certs : List (List Term)) (proof : Proof) (old middle new : List Proof)
    → IsLeafOf w c context place here → list_all (form_fits (depth_of_write w)) rows ≡ true → certs ≡ ts ∷ rest
    → AreShown context (domain_rows rows place) certs → proof ≡ Sum (ts ++ term_of here ∷ [])
    → middle ≡ old ++ proof ∷ []
    → ((rows : List Form) → list_all (form_fits (depth_of_write w)) rows ≡ true
    → AreShown context (domain_rows rows place) rest → AddsProofs (outside_of c place rows) middle new)
    → AddsProofs (outside_of c place rows) old new
outside_step w c context place here [] ts rest certs proof old middle new leaf fit is shown proof_is middle_is next =
    absurd (subst (AreShown context []) is shown)
outside_step w c context place here
    (row ∷ rows) ts rest certs proof old middle new leaf fit is shown proof_is middle_is next =
    let b = and_parts (form_fits (depth_of_write w) row) (list_all (form_fits (depth_of_write w)) rows) fit in
    let s : AreShown context (domain_rows (row ∷ rows) place) (ts ∷ rest) =
    subst (AreShown context (domain_rows (row ∷ rows) place)) is shown in
    outside_next w c context place here leaf row rows ts rest proof old middle new b.0
    (writes_fit w).few_loops s.0 proof_is middle_is (next rows b.1 s.1)

pub cells_end : (c : Context) (context : System) (place writes reads : List Form) (certs : List (List Term))
    (old : List Proof) → certs ≡ [] → AreShown context (cell_rows writes reads place) certs
    → AddsProofs (cells_of c place writes reads) old old
cells_end c context place [] reads certs old none shown = adds_no_proofs old
cells_end c context place (write ∷ writes) [] certs old none shown = adds_no_proofs old
cells_end c context place (write ∷ writes) (read ∷ reads) certs old none shown =
    absurd (subst (AreShown context (cell_rows (write ∷ writes) (read ∷ reads) place)) none shown)

pub cells_odd : (context : System) (place writes reads : List Form) (ts : List Term) (rest certs : List (List Term))
    → certs ≡ ts ∷ rest → rest ≡ [] → AreShown context (cell_rows writes reads place) certs → ⊥
cells_odd context place [] reads ts rest certs is none shown = subst (AreShown context []) is shown
cells_odd context place (write ∷ writes) [] ts rest certs is none shown = subst (AreShown context []) is shown
cells_odd context place (write ∷ writes) (read ∷ reads) ts rest certs is none shown =
    let s : AreShown context (cell_rows (write ∷ writes) (read ∷ reads) place) (ts ∷ []) =
    subst (AreShown context (cell_rows (write ∷ writes) (read ∷ reads) place))
    (is ∙ ap (λ rest. ts ∷ rest) none) shown in
    s.1

pub cells_step : (w : Writes) (c : Context) (context : System) (place : List Form) (here : ℕ) (writes reads : List Form)
    (above below : List Term) (rest more certs : List (List Term)) (first second : Proof)
    (old middle middle' new : List Proof) → IsLeafOf w c context place here
    → AreCells w.vars (depth_of_write w) writes reads
    → certs ≡ above ∷ more → more ≡ below ∷ rest → AreShown context (cell_rows writes reads place) certs → first
    ≡ Sum (below ++ term_of here ∷ []) → second ≡ Sum (above ++ term_of here ∷ [])
    → middle ≡ old ++ first ∷ [] → middle' ≡ middle ++ second ∷ []
    → ((writes reads : List Form) → AreCells w.vars (depth_of_write w) writes reads
    → AreShown context (cell_rows writes reads place) rest → AddsProofs (cells_of c place writes reads) middle' new)
    → AddsProofs (cells_of c place writes reads) old new
cells_step w c context place here [] reads above below rest more certs first second old middle middle' new leaf cells
    is more_is shown first_is second_is m_is n_is next = absurd (subst (AreShown context []) is shown)
cells_step w c context place here (write ∷ writes) [] above below rest more certs first second old middle middle' new
    leaf cells is more_is shown first_is second_is m_is n_is next = absurd (subst (AreShown context []) is shown)
cells_step w c context place here (write ∷ writes) (read ∷ reads) above below rest more certs first second old middle
    middle' new leaf cells is more_is shown first_is second_is m_is n_is next =
    let s : AreShown context (cell_rows (write ∷ writes) (read ∷ reads) place) (above ∷ below ∷ rest)
    = subst (AreShown context (cell_rows (write ∷ writes) (read ∷ reads) place))
    (is ∙ ap (λ more. above ∷ more) more_is) shown in
    cell_next w c context place here leaf write read writes reads above below first second old middle middle' new
    cells.0 (writes_fit w).few_loops s.0 s.1.0 first_is second_is m_is n_is
    (next writes reads cells.1 s.1.1)

-- How many levels there may be

pub at_last : (w : Writes) (l : ℕ) → l < w.common + 1 → w.read.number < w.write.number → HasAfter w l
at_last w l lt less =
    elim (cases_lt l w.common) [ inl below ↦ inl below | inr past ↦ inr (omega (arith, lt, past), less) ]

pub below_last : (w : Writes) (l : ℕ) → l < w.common → HasAfter w l
below_last w l lt = inl lt

same_loops : (w : Writes) → w.common ≡ common_of (write_of w) (read_of w)
    → common_loops w.read.statement.now.loops w.write.statement.now.loops ≡ w.common
same_loops w common = common_loops-comm w.read.statement.now.loops w.write.statement.now.loops ∙ sym common

pub after_more : (w : Writes) (place : List Form) → w.common ≡ common_of (write_of w) (read_of w)
    → length (after_levels w place) ≤ w.common + 1
after_more w place common =
    let few = few_levels (common_loops w.read.statement.now.loops w.write.statement.now.loops)
    (nat_lt w.read.number w.write.number) (reader_place (read_of w)) place in
    let one = at_most_one (nat_lt w.read.number w.write.number) in
    omega (arith, few, same_loops w common, one) where
      at_most_one : (b : Bool) → cond b 1 0 ≤ 1
      at_most_one true = omega arith
      at_most_one false = omega arith

pub after_few : (w : Writes) (place : List Form) → w.common ≡ common_of (write_of w) (read_of w)
    → w.write.number ≤ w.read.number → length (after_levels w place) ≤ w.common
after_few w place common past =
    let few = few_levels (common_loops w.read.statement.now.loops w.write.statement.now.loops)
    (nat_lt w.read.number w.write.number) (reader_place (read_of w)) place in
    let none : length (after_levels w place) ≤ common_loops w.read.statement.now.loops w.write.statement.now.loops + 0
    = subst (λ b. length (after_levels w place) ≤ common_loops w.read.statement.now.loops w.write.statement.now.loops
    + cond b 1 0) (not_less w.read.number w.write.number past) few in
    omega (arith, none, same_loops w common) where
      not_less : (m n : ℕ) → n ≤ m → nat_lt m n ≡ false
      not_less m n h = grind arith
