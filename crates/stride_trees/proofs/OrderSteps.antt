-- One order more, and one level more.
--
-- For each number of rows there is one order, so where no number is left there is none, and what is added for the first
-- comes before what is added for the others. An order of a writer whose tests all say yes takes the first of the proofs
-- that are told; that of one of whose tests one says no takes none. The orders of a level are those behind it.
use Rattle.std.proofs.Common.{◌≡◌, ◌+◌, ◌^◌, ◌∙◌, ℕ, Bool, true, false, cond, List, [], ◌∷◌, ◌++◌, length, map, sym, subst, arith}
use Rattle.std.proofs.Common.{length-append}
use Rattle.std.specs.List.{flat_map}
use Rattle.std.proofs.lemmas.Grind.{flat_map-append}
use Rattle.std.proofs.lemmas.List.{map-append}
use Rattle.std.proofs.lemmas.List.Elements.{All-append}
use Rattle.int_polyhedra.specs.declared.system.Proof.{Proof}
use Rattle.tree_graphs.proofs.RowBounds.{forms_append}
use Rattle.tree_sums.specs.Parts.{IsWithin}
use Rattle.source_tree.specs.Checked.{AreRefuted, IsRefuted}
use Rattle.source_tree.specs.Rows.{RowExpr, RowSystem}
use Rattle.source_tree.specs.Systems.{with_rows}
use Rattle.stride_trees.specs.Candidates.{IsCutSumOf}
use Rattle.stride_trees.specs.Contexts.{told_system}
use Rattle.stride_trees.specs.Leaves.{all_orders, fact_context, is_told, own_context, own_order_number, own_order_system}
use Rattle.stride_trees.specs.Leaves.{told_order_systems, write_vars, AddsOrderProofs, AddsProofs, AreOrderRows, HaveOrderRows}
use Rattle.stride_trees.specs.Leaves.{HaveRowCounts, IsForOne}
use Rattle.stride_trees.specs.declared.leaves.Answered.{Answered}
use Rattle.stride_trees.specs.declared.writers.Writer.{Writer}
use Rattle.stride_trees.proofs.ProofSteps.{adds_both, adds_nothing, adds_one, own_one}

-- order rows behind order rows
pub rows_both : (vars m n : ℕ) (xs ys : List RowExpr) → AreOrderRows vars m xs → AreOrderRows vars n ys
    → AreOrderRows vars (m + n) (xs ++ ys)
rows_both vars m n xs ys h k = (
  omega (arith, length-append xs ys, h.0, k.0),
  record {
    forms = h.1.forms ++ k.1.forms;
    are_made = forms_append vars xs ys h.1.forms k.1.forms h.1.are_made k.1.are_made;
    within = All-append (IsWithin (2 ^ 90)) h.1.forms k.1.forms h.1.within k.1.within;
  },
)

-- where no proof is left
pub none_left : (w : Answered) (order : ℕ) (f g : List RowExpr → RowSystem) (orders : List (List RowExpr))
    (told old : List Proof) → told ≡ [] → AddsProofs w order (map f orders) (map g orders) told told old old
none_left w order f g [] told old e = adds_nothing w order told old
none_left w order f g (rows ∷ orders) told old e = λ more k.
    absurd (let no : AreRefuted (f rows ∷ (map f orders ++ more)) [] = subst (AreRefuted (f rows ∷ (map f orders ++ more))) e k
    in no)

-- Orders of a writer

module _ (w : Answered) (rest : List RowExpr) (x : Writer) where
  abbrev told_one : List RowExpr → RowSystem
  told_one rows = told_system x.strides x.places (fact_context w rest) rows

  abbrev order : ℕ
  order = own_order_number w rest x

  -- what is added for one order, as the tests say
  abbrev AddsBy : Bool → List RowExpr → List Proof → List Proof → List Proof → List Proof → Type 0
  AddsBy b rows told left old new =
      AddsProofs w order (cond b (told_one rows ∷ []) [] ++ []) (own_order_system w rest x rows ∷ []) told left old new

  pub adds_told : (rows : List RowExpr) (proof own : Proof) (told left old new : List Proof)
      → is_told w.answers.now x ≡ true → told ≡ proof ∷ left → new ≡ old ++ own ∷ []
      → (IsRefuted (told_one rows) proof → IsRefuted (own_order_system w rest x rows) own)
      → (IsForOne w → IsRefuted (told_one rows) proof → IsCutSumOf order (own_order_system w rest x rows) own)
      → AddsOrderProofs w rest x (rows ∷ []) told left old new
  adds_told rows proof own told left old new says first last one cuts =
      subst (λ (b : Bool). AddsBy b rows told left old new) (sym says)
      (adds_one w order (told_one rows) (own_order_system w rest x rows) proof own told left old new first last one cuts)

  pub adds_absent : (rows : List RowExpr) (told old : List Proof) → is_told w.answers.now x ≡ true → told ≡ []
      → AddsOrderProofs w rest x (rows ∷ []) told told old old
  adds_absent rows told old says none =
      subst (λ (b : Bool). AddsBy b rows told told old old) (sym says)
      (none_left w order told_one (own_order_system w rest x) (rows ∷ []) told old none)

  -- of a writer that is alone all tests say yes
  pub adds_refused : (rows : List RowExpr) (own : Proof) (told old new : List Proof) → is_told w.answers.now x ≡ false
      → (IsForOne w → is_told w.answers.now x ≡ true) → new ≡ old ++ own ∷ []
      → IsRefuted (own_order_system w rest x rows) own
      → AddsOrderProofs w rest x (rows ∷ []) told told old new
  adds_refused rows own told old new denies says last one =
      subst (λ (b : Bool). AddsBy b rows told told old new) (sym denies)
      (λ more k. (
        own_one w order (own_order_system w rest x rows) own old new last one
            (λ single. absurd (let no : true ≡ false = sym (says single) ∙ denies in cc)),
        k,
      ))

  adds_append : (first second : List (List RowExpr)) (told middle left old between new : List Proof)
      → AddsOrderProofs w rest x first told middle old between → AddsOrderProofs w rest x second middle left between new
      → AddsOrderProofs w rest x (first ++ second) told left old new
  adds_append first second told middle left old between new h k =
      let from : List (List RowExpr) → List RowSystem = flat_map (told_order_systems w rest x) in
      let to : List (List RowExpr) → List RowSystem = map (own_order_system w rest x) in
      subst (λ systems. AddsProofs w order systems (to (first ++ second)) told left old new)
      (sym (flat_map-append (told_order_systems w rest x) first second))
      (subst (λ systems. AddsProofs w order (from first ++ from second) systems told left old new)
      (sym (map-append (own_order_system w rest x) first second))
      (adds_both w order (from first) (from second) (to first) (to second) told middle left old between new h k))

  pub orders_none : (level : List RowExpr) (counts : List ℕ) (orders : List (List RowExpr)) (told old : List Proof)
      → counts ≡ [] → HaveOrderRows (write_vars w x) counts orders
      → AddsOrderProofs w rest x (map (λ rows. level ++ rows) orders) told told old old
  orders_none level counts orders told old e h =
      go orders (subst (λ ns. HaveOrderRows (write_vars w x) ns orders) e h) where
        go : (orders : List (List RowExpr)) → HaveOrderRows (write_vars w x) [] orders
            → AddsOrderProofs w rest x (map (λ rows. level ++ rows) orders) told told old old
        go [] h = adds_nothing w order told old
        go (rows ∷ orders) h = absurd h

  pub orders_step : (level : List RowExpr) (counts : List ℕ) (n : ℕ) (ns : List ℕ) (orders : List (List RowExpr))
      (told middle left old between new : List Proof) → counts ≡ n ∷ ns
      → HaveOrderRows (write_vars w x) counts orders
      → ((rows : List RowExpr) → AreOrderRows (write_vars w x) n rows
      → AddsOrderProofs w rest x ((level ++ rows) ∷ []) told middle old between)
      → ((others : List (List RowExpr)) → HaveOrderRows (write_vars w x) ns others
      → AddsOrderProofs w rest x (map (λ rows. level ++ rows) others) middle left between new)
      → AddsOrderProofs w rest x (map (λ rows. level ++ rows) orders) told left old new
  orders_step level counts n ns orders told middle left old between new e h one others =
      go orders (subst (λ ns. HaveOrderRows (write_vars w x) ns orders) e h) where
        go : (orders : List (List RowExpr)) → HaveOrderRows (write_vars w x) (n ∷ ns) orders
            → AddsOrderProofs w rest x (map (λ rows. level ++ rows) orders) told left old new
        go [] h = absurd h
        go (rows ∷ orders) h =
            adds_append ((level ++ rows) ∷ []) (map (λ rows. level ++ rows) orders) told middle left old between new
            (one rows h.0) (others orders h.1)

  pub levels_none : (behind : List (List RowExpr)) (counts : List ℕ) (at : List (List RowExpr)) (told old : List Proof)
      → counts ≡ [] → HaveOrderRows (write_vars w x) counts at
      → AddsOrderProofs w rest x (all_orders behind at) told told old old
  levels_none behind counts at told old e h = go at (subst (λ ns. HaveOrderRows (write_vars w x) ns at) e h) where
    go : (at : List (List RowExpr)) → HaveOrderRows (write_vars w x) [] at
        → AddsOrderProofs w rest x (all_orders behind at) told told old old
    go [] h = adds_nothing w order told old
    go (level ∷ at) h = absurd h

  pub levels_step : (behind : List (List RowExpr)) (counts : List ℕ) (n : ℕ) (ns : List ℕ) (at : List (List RowExpr))
      (told middle left old between new : List Proof) → counts ≡ n ∷ ns → HaveOrderRows (write_vars w x) counts at
      → ((level : List RowExpr) → AreOrderRows (write_vars w x) n level
      → AddsOrderProofs w rest x (map (λ rows. level ++ rows) behind) told middle old between)
      → ((others : List (List RowExpr)) → HaveOrderRows (write_vars w x) ns others
      → AddsOrderProofs w rest x (all_orders behind others) middle left between new)
      → AddsOrderProofs w rest x (all_orders behind at) told left old new
  levels_step behind counts n ns at told middle left old between new e h one others =
      go at (subst (λ ns. HaveOrderRows (write_vars w x) ns at) e h) where
        go : (at : List (List RowExpr)) → HaveOrderRows (write_vars w x) (n ∷ ns) at
            → AddsOrderProofs w rest x (all_orders behind at) told left old new
        go [] h = absurd h
        go (level ∷ at) h =
            adds_append (map (λ rows. level ++ rows) behind) (all_orders behind at) told middle left old between new
            (one level h.0) (others at h.1)

-- Orders of the reader behind a place

module _ (w : Answered) (rest : List RowExpr) where
  -- how many rows stand before them
  abbrev many : ℕ
  many = length (own_context w rest).rows

  abbrev pub AddsAfter : List (List RowExpr) → List Proof → List Proof → List Proof → List Proof → Type 0
  AddsAfter orders told left old new =
      AddsProofs w many (map (with_rows (fact_context w rest)) orders)
      (map (with_rows (own_context w rest)) orders) told left old new

  pub after_none : (counts : List ℕ) (orders : List (List RowExpr)) (told old : List Proof) → counts ≡ []
      → HaveRowCounts counts orders → AddsAfter orders told told old old
  after_none counts orders told old e h = go orders (subst (λ ns. HaveRowCounts ns orders) e h) where
    go : (orders : List (List RowExpr)) → HaveRowCounts [] orders → AddsAfter orders told told old old
    go [] h = adds_nothing w many told old
    go (order ∷ orders) h = absurd h

  pub after_step : (counts : List ℕ) (n : ℕ) (ns : List ℕ) (orders : List (List RowExpr)) (proof own : Proof)
      (told middle left old between new : List Proof) → counts ≡ n ∷ ns → HaveRowCounts counts orders
      → told ≡ proof ∷ middle
      → between ≡ old ++ own ∷ []
      → ((order : List RowExpr) → length order ≡ n → IsRefuted (with_rows (fact_context w rest) order) proof
      → IsRefuted (with_rows (own_context w rest) order) own
      × (IsForOne w → IsCutSumOf many (with_rows (own_context w rest) order) own))
      → ((others : List (List RowExpr)) → HaveRowCounts ns others → AddsAfter others middle left between new)
      → AddsAfter orders told left old new
  after_step counts n ns orders proof own told middle left old between new e h first last one others =
      go orders (subst (λ ns. HaveRowCounts ns orders) e h) where
        go : (orders : List (List RowExpr)) → HaveRowCounts (n ∷ ns) orders → AddsAfter orders told left old new
        go [] h = absurd h
        go (order ∷ orders) h =
            adds_both w many (with_rows (fact_context w rest) order ∷ []) (map (with_rows (fact_context w rest)) orders)
            (with_rows (own_context w rest) order ∷ []) (map (with_rows (own_context w rest)) orders) told middle left old
            between new
            (adds_one w many (with_rows (fact_context w rest) order)
            (with_rows (own_context w rest) order) proof own told middle old between first last
            (λ refuted. (one order h.0 refuted).0) (λ single refuted. (one order h.0 refuted).1 single)) (others orders h.1)
