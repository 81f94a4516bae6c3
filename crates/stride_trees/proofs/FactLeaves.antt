-- Proofs without the facts.
--
-- A leaf's system is rows behind those of its context, over its variables or more: a write's own rows and order rows, or
-- those of a place. So a proof of it with the facts becomes one without them, as it is made: the facts are as many as the
-- Cuts, and stand behind the rows of the answers.
use Rattle.std.proofs.Common.{◌≡◌, ◌==◌, ◌+◌, ◌*◌, ◌^◌, ◌≤◌, ℕ, suc, List, [], ◌∷◌, ◌++◌, length, map, Bool, true, false, cond}
use Rattle.std.proofs.Common.{refl, sym, ap, ◌∙◌, subst, arith, append_assoc, length-append, le-add_right, le_refl}
use Rattle.std.proofs.lemmas.List.{append-nil, length-map, map-append, nil_from_length}
use Rattle.std.proofs.lemmas.Simd.{map-map}
use Rattle.affine_core.specs.declared.form.Form.{Form}
use Rattle.int_polyhedra.specs.Systems.{AreOver}
use Rattle.int_polyhedra.specs.declared.system.Proof.{Proof}
use Rattle.stride_trees.specs.Leaves.{after_orders, context_of, domain_cell_rows, fact_context, own_context, own_order_number, own_order_system}
use Rattle.stride_trees.specs.Leaves.{HasFacts, IsAnswered, IsAtLeaf, IsBelow, IsJoinedBelow, IsLeafBelow, IsWithoutFacts}
use Rattle.stride_trees.specs.declared.leaves.Answered.{Answered}
use Rattle.stride_trees.specs.declared.writers.Writer.{Writer}
use Rattle.stride_trees.proofs.Below.{all_rows, answer_rows, rows_are, two_rows}
use Rattle.source_tree.specs.Checked.{AreRefuted, IsRefuted}
use Rattle.source_tree.specs.Places.{at_place, before_rows, cell_rows, differ_rows, domain_rows, same_rows}
use Rattle.source_tree.specs.References.{occurrence_of}
use Rattle.source_tree.specs.Rows.{RowExpr, RowSystem, Take, below_zero, row_forms}
use Rattle.source_tree.specs.Systems.{Context, Occurrence, after_systems, dead_systems, more_rows, reader_place, root_context}
use Rattle.source_tree.specs.Systems.{with_rows, writer_place}
use Rattle.source_tree.specs.declared.tree.Tree.{Tree}
use Rattle.source_tree.proofs.RowLists.{length-cell_rows, length-domain_rows}
use Rattle.tree_cuts.specs.Cuts.{AddRows}
use Rattle.tree_cuts.specs.declared.cuts.Cut.{Cut}
use Rattle.stride_trees.specs.Candidates.{order_number, AreCutSums, IsCutSumOf}
use Rattle.stride_trees.specs.Contexts.{last_system, outside_cell_systems, own_system}
use Rattle.stride_trees.specs.Strides.{read_of, write_of, IsSmallContext}
use Rattle.stride_trees.proofs.Lists.{forms_count}
use Rattle.stride_trees.specs.declared.divisions.Division.{Division}
use Rattle.tree_facts.specs.Cuts.{proof_by_cuts}
use Rattle.tree_facts.specs.Facts.{fact_rows}
use Rattle.tree_facts.proofs.FactSystems.{one_away}

-- How many rows there are

add_count : (vars : ℕ) (rows : List Form) (cuts : List Cut) (facts : List Form) → AddRows vars rows cuts facts
    → length cuts ≡ length facts
add_count vars rows [] [] h = refl
add_count vars rows [] (row ∷ facts) h = absurd h
add_count vars rows (cut ∷ cuts) [] h = absurd h
add_count vars rows (cut ∷ cuts) (row ∷ facts) h = ap suc (add_count vars rows cuts facts h.1)

facts_counted : (w : Answered) → HasFacts w → length w.cuts.now ≡ length w.facts.now
facts_counted w h = add_count (context_of w).vars h.rows w.cuts.now w.facts.now h.add

-- the facts are among the rows of a leaf's context
pub rows_without : (w : Answered) (here : ℕ) (rest : List RowExpr) → HasFacts w
    → length (fact_context w rest).rows ≡ here → length (own_context w rest).rows + length w.cuts.now ≡ here
rows_without w here rest h count =
    let c : Context = context_of w in
    omega (
      arith,
      count,
      length-append c.rows (fact_rows w.facts.now rest),
      length-append (map Take w.facts.now) rest,
      length-map w.facts.now Take,
      length-append c.rows rest,
      facts_counted w h,
    )

pub rows_before : (w : Answered) (here : ℕ) (tree : Tree) → IsJoinedBelow w here tree → length w.cuts.now ≤ here
rows_before w here tree j =
    let cx : Context = fact_context w j.rest in
    let small : IsSmallContext cx here = j.below.small in
    omega (
      arith,
      rows_without w here j.rest j.facts
          (sym (forms_count cx.vars cx.rows small.rows small.made) ∙ small.count),
    )

pub leaf_below : (w : Answered) (whole without : ℕ) (tree : Tree) → IsAnswered w → IsJoinedBelow w whole tree
    → without + length w.cuts.now ≡ whole → whole ≤ 2 ^ 30 → IsLeafBelow w without
leaf_below w whole without tree answered joined e few = record {
  answered = answered;
  facts = joined.facts;
  few = omega (arith, e, few);
  low = λ one. omega (arith, e, (joined.simple one).1);
}

all_long : (q : ℕ) (tests : List Division) (answers : List Bool) → length answers ≤ length tests
    → length (all_rows q tests answers) ≡ 2 * length answers
all_long q [] [] le = refl
all_long q [] (answer ∷ answers) le = absurd (omega (arith, le))
all_long q (d ∷ ds) [] le = refl
all_long q (d ∷ ds) (answer ∷ answers) le =
    omega (
      arith,
      length-append (answer_rows q d answer) (all_rows (q + 1) ds answers),
      two_rows q d answer,
      all_long (q + 1) ds answers (omega (arith, le)),
    )

-- how many rows the context has above the facts
above_count : (w : Answered) → IsAnswered w
    → length w.read.statement.now.rows + 2 * length w.answers.now ≡ length (context_of w).rows
above_count w h =
    let root : Context = root_context (occurrence_of w.read) in
    omega (
      arith,
      ap length (rows_are root w.tests.now w.answers.now),
      length-append root.rows (all_rows root.vars w.tests.now w.answers.now),
      length-map w.read.statement.now.rows Take,
      all_long root.vars w.tests.now w.answers.now h.answers,
    )

-- without Cuts there are no facts
pub no_facts : (w : Answered) (rest : List RowExpr) → HasFacts w → w.cuts.now ≡ [] → fact_context w rest ≡ own_context w rest
no_facts w rest h none =
    let counted : length w.facts.now ≡ 0 = sym (facts_counted w h) ∙ ap length none in
    ap (λ facts. more_rows (context_of w) (fact_rows facts rest)) (nil_from_length w.facts.now counted)

-- no Cuts add no facts
pub no_added : (w : Answered) (here : ℕ) → w.cuts.now ≡ [] → w.facts.now ≡ [] → IsBelow w here (fact_context w []) → HasFacts w
no_added w here cuts facts below =
    let c : Context = context_of w in
    let same : (fact_context w []).rows ≡ c.rows = ap (λ fs. c.rows ++ fact_rows fs []) facts ∙ append-nil c.rows in
    record {
      rows = below.small.rows;
      made = ap (row_forms c.vars) (sym same) ∙ below.small.made;
      over = below.small.over;
      add = subst (λ cs. AddRows c.vars below.small.rows cs w.facts.now) (sym cuts)
          (subst (AddRows c.vars below.small.rows []) (sym facts) tt);
      facts_over = subst (AreOver c.vars) (sym facts) refl;
    }

-- how many rows the context of a leaf has without the facts
pub own_count : (w : Answered) (here : ℕ) (rest : List RowExpr) → HasFacts w → IsAtLeaf w here rest
    → length (own_context w rest).rows ≡ here
own_count w here rest h at =
    let c : Context = fact_context w rest in
    omega (
      arith,
      rows_without w (here + length w.cuts.now) rest h
          (sym (forms_count c.vars c.rows at.small.rows at.small.made) ∙ at.small.count),
    )

-- One system

pub away : (w : Answered) (here k above count : ℕ) (proof own : Proof) → IsLeafBelow w here
    → above ≡ length w.read.statement.now.rows + 2 * length w.answers.now → count ≡ here + k
    → own ≡ proof_by_cuts above count w.cuts.now proof → IsWithoutFacts w here k proof own
away w here k above count proof own h above_is count_is is = record {
  refuted = λ rest more vars at le long r.
      (let c : Context = context_of w in
      let rows : List RowExpr = (own_context w rest).rows ++ more in
      let whole : length rows ≡ count = omega (
        arith,
        length-append (own_context w rest).rows more,
        own_count w here rest h.facts at,
        long,
        count_is,
      ) in
      subst (λ p. IsRefuted (record { vars = vars; rows = rows }) p)
      (ap (λ n. proof_by_cuts (length c.rows) n w.cuts.now proof) whole
      ∙ ap (λ k. proof_by_cuts k count w.cuts.now proof) (sym (above_is ∙ above_count w h.answered)) ∙ sym is)
      (one_away c w.cuts.now w.facts.now rest more vars proof h.facts le r));
  same = λ none. is ∙ ap (λ cuts. proof_by_cuts above count cuts proof) none;
}

-- a Dead leaf has no row behind its context's
pub dead_away : (w : Answered) (here : ℕ) (rest : List RowExpr) (proof own : Proof) → IsWithoutFacts w here 0 proof own
    → IsAtLeaf w here rest → AreRefuted (dead_systems (fact_context w rest)) (proof ∷ [])
    → AreRefuted (dead_systems (own_context w rest)) (own ∷ [])
dead_away w here rest proof own h at refuted =
    let vars : ℕ = (context_of w).vars in
    let system : List RowExpr → RowSystem = λ rows. record { vars = vars; rows = rows } in (
      subst (λ rows. IsRefuted (system rows) own) (append-nil (own_context w rest).rows)
          (h.refuted rest [] vars at (le_refl vars) refl
          (subst (λ rows. IsRefuted (system rows) proof) (sym (append-nil (fact_context w rest).rows)) refuted.0)),
      tt,
    )

-- rows behind the context's
pub order_away : (w : Answered) (here k : ℕ) (rest order : List RowExpr) (proof own : Proof)
    → IsWithoutFacts w here k proof own → IsAtLeaf w here rest → length order ≡ k
    → IsRefuted (with_rows (fact_context w rest) order) proof → IsRefuted (with_rows (own_context w rest) order) own
order_away w here k rest order proof own h at long refuted =
    h.refuted rest order (context_of w).vars at (le_refl (context_of w).vars) long refuted

-- those of a write, and order rows
pub write_away : (w : Answered) (here k : ℕ) (rest order : List RowExpr) (x : Writer) (proof own : Proof)
    → length (write_of x.strides).access.subscripts ≡ length (read_of x.strides).access.subscripts
    → IsWithoutFacts w here (domain_cell_rows (write_of x.strides) + k) proof own → IsAtLeaf w here rest
    → length order ≡ k
    → IsRefuted (own_system x.strides (fact_context w rest) order) proof
    → IsRefuted (own_order_system w rest x order) own
write_away w here k rest order x proof own even h at long refuted =
    let u : Occurrence = write_of x.strides in
    let r : Occurrence = read_of x.strides in
    let vars : ℕ = (context_of w).vars + length u.statement.loops in
    let place : List Form = writer_place (context_of w) u in
    let domain : List RowExpr = domain_rows u.statement.rows place in
    let cells : List RowExpr = cell_rows u.access.subscripts r.access.subscripts place in
    let count : length ((domain ++ cells) ++ order) ≡ domain_cell_rows u + k = omega (
      arith,
      length-append (domain ++ cells) order,
      length-append domain cells,
      length-domain_rows u.statement.rows place,
      length-cell_rows u.access.subscripts r.access.subscripts place even,
      long,
    ) in
    let system : List RowExpr → RowSystem = λ rows. record { vars = vars; rows = rows } in
    subst (λ rows. IsRefuted (system rows) own) (sym (append_assoc (own_context w rest).rows (domain ++ cells) order))
    (h.refuted rest ((domain ++ cells) ++ order) vars at (le-add_right (context_of w).vars (length u.statement.loops)) count
    (subst (λ rows. IsRefuted (system rows) proof) (append_assoc (fact_context w rest).rows (domain ++ cells) order)
    refuted))

-- without facts it is the same
pub write_cut : (w : Answered) (rest order : List RowExpr) (x : Writer) (proof own : Proof) → HasFacts w → w.cuts.now ≡ []
    → own ≡ proof
    → IsCutSumOf (order_number (read_of x.strides) (write_of x.strides) (fact_context w rest))
    (own_system x.strides (fact_context w rest) order) proof
    → IsCutSumOf (own_order_number w rest x) (own_order_system w rest x order) own
write_cut w rest order x proof own facts none same cut =
    subst (IsCutSumOf (own_order_number w rest x) (own_order_system w rest x order)) (sym same)
    (subst (λ c. IsCutSumOf (order_number (read_of x.strides) (write_of x.strides) c) (own_system x.strides c order) proof)
    (no_facts w rest facts none) cut)

-- A place

-- the rows that say that a place is outside the domain or writes another cell
abbrev place_rows : Occurrence → Occurrence → List Form → List RowExpr
place_rows r u place =
    map (λ row. below_zero (at_place row place)) u.statement.rows
    ++ differ_rows u.access.subscripts r.access.subscripts place

pub place_is : (r u : Occurrence) (c : Context) (place : List Form)
    → outside_cell_systems r u c place ≡ map (last_system c) (place_rows r u place)
place_is r u c place =
    ap (λ systems. systems ++ map (last_system c) (differ_rows u.access.subscripts r.access.subscripts place))
    (sym (map-map (last_system c) (λ (row : Form). below_zero (at_place row place)) u.statement.rows))
    ∙ sym (map-append (last_system c) (map (λ row. below_zero (at_place row place)) u.statement.rows)
    (differ_rows u.access.subscripts r.access.subscripts place))

each_away : (w : Answered) (here : ℕ) (rest : List RowExpr) (f : Proof → Proof)
    → ((proof : Proof) → IsWithoutFacts w here 1 proof (f proof)) → IsAtLeaf w here rest → (rows : List RowExpr)
    (proofs : List Proof) → AreRefuted (map (last_system (fact_context w rest)) rows) proofs
    → AreRefuted (map (last_system (own_context w rest)) rows) (map f proofs)
each_away w here rest f h at [] [] r = tt
each_away w here rest f h at [] (p ∷ proofs) r = absurd r
each_away w here rest f h at (row ∷ rows) [] r = absurd r
each_away w here rest f h at (row ∷ rows) (p ∷ proofs) r =
    (order_away w here 1 rest (row ∷ []) p (f p) (h p) at refl r.0, each_away w here rest f h at rows proofs r.1)

pub place_away : (w : Answered) (here above count : ℕ) (rest : List RowExpr) (r u : Occurrence) (place : List Form)
    (proofs own : List Proof) → IsLeafBelow w here
    → above ≡ length w.read.statement.now.rows + 2 * length w.answers.now → count ≡ here + 1
    → own ≡ map (proof_by_cuts above count w.cuts.now) proofs → IsAtLeaf w here rest
    → AreRefuted (outside_cell_systems r u (fact_context w rest) place) proofs
    → AreRefuted (outside_cell_systems r u (own_context w rest) place) own
place_away w here above count rest r u place proofs own h above_is count_is is at refuted =
    let f : Proof → Proof = proof_by_cuts above count w.cuts.now in
    subst (λ systems. AreRefuted systems own) (sym (place_is r u (own_context w rest) place))
    (subst (AreRefuted (map (last_system (own_context w rest)) (place_rows r u place))) (sym is)
    (each_away w here rest f (λ p. away w here 1 above count p (f p) h above_is count_is refl) at (place_rows r u place) proofs
    (subst (λ systems. AreRefuted systems proofs) (place_is r u (fact_context w rest) place) refuted)))

-- without facts they are the same
place_same : (w : Answered) (above count : ℕ) (proofs own : List Proof) → w.cuts.now ≡ []
    → own ≡ map (proof_by_cuts above count w.cuts.now) proofs → own ≡ proofs
place_same w above count proofs own none is =
    is ∙ ap (λ cuts. map (proof_by_cuts above count cuts) proofs) none ∙ go proofs where
      go : (ps : List Proof) → map (proof_by_cuts above count []) ps ≡ ps
      go [] = refl
      go (p ∷ ps) = ap (λ qs. p ∷ qs) (go ps)

pub place_cut : (w : Answered) (here above count rows : ℕ) (rest : List RowExpr) (r u : Occurrence) (place : List Form)
    (proofs own : List Proof) → IsLeafBelow w here → w.cuts.now ≡ [] → rows ≡ here + length w.cuts.now
    → own ≡ map (proof_by_cuts above count w.cuts.now) proofs → IsAtLeaf w here rest
    → AreCutSums (rows + 1) (outside_cell_systems r u (fact_context w rest) place) proofs
    → AreCutSums (length (own_context w rest).rows + 1) (outside_cell_systems r u (own_context w rest) place) own
place_cut w here above count rows rest r u place proofs own h none rows_are is at cuts =
    let many : rows ≡ length (own_context w rest).rows = omega (arith, rows_are, ap length none, own_count w here rest h.facts at)
    in
    subst (AreCutSums (length (own_context w rest).rows + 1) (outside_cell_systems r u (own_context w rest) place))
    (sym (place_same w above count proofs own none is))
    (subst (λ c. AreCutSums (length (own_context w rest).rows + 1) (outside_cell_systems r u c place) proofs)
    (no_facts w rest h.facts none)
    (subst (λ n. AreCutSums (n + 1) (outside_cell_systems r u (fact_context w rest) place) proofs) many cuts))

-- that the reader is not before it
pub after_is : (r u : Occurrence) (c : Context) (place : List Form)
    → after_systems r c u place ≡ map (with_rows c) (after_orders r u place)
after_is r u c place =
    let same : List RowExpr = same_rows (reader_place r) place in
    let orders : List (List RowExpr) =
    before_rows r.number r.statement (reader_place r) u.number u.statement place in
    ap (λ systems. map (with_rows c) orders ++ systems) (go (u.number == r.number))
    ∙ sym (map-append (with_rows c) orders (cond (u.number == r.number) (same ∷ []) [])) where
      go : (b : Bool) → cond b (with_rows c (same_rows (reader_place r) place) ∷ []) []
          ≡ map (with_rows c) (cond b (same_rows (reader_place r) place ∷ []) [])
      go true = refl
      go false = refl
