-- The kept cells after a write.
use Rattle.std.proofs.Common.{◌≡◌, ℕ, List, Bool, true, false, cond, refl, sym, ap, ◌∙◌, [], ◌∷◌, ◌++◌}
use Rattle.std.specs.Prelude.{◌&&◌, ◌==◌, Option, Some, None}
use Rattle.std.specs.Option.{option_or}
use Rattle.std.specs.declared.cmp.Ordering.{Ordering}
use Rattle.std.specs.declared.cmp.Ordering.TheVariants.{Less, Equal, Greater}
use Rattle.std.specs.Ordering.{nat_cmp, int_cmp, ordering_then, is_eq}
use Rattle.std.specs.Cmp.Lexicographic.{pointwise, slice_cmp, lists_ties}
use Rattle.std.specs.Cmp.Rules.{signed_items}
use Rattle.std.specs.Ordering.{int_eq}
use Rattle.std.specs.BTreeMap.{get, is_at}
use Rattle.std.proofs.lemmas.Bool.{and_parts, eqb-true}
use Rattle.sanlp.specs.Cells.{Cell}
use Rattle.std.specs.Map.{update}
use Rattle.plain_data.proofs.Tests.{is_eq-nat_cmp}
use Rattle.sanlp.specs.Memory.{is_cell}
use Rattle.cell_rows.specs.CellMap.{cell_cmp, places_in, values_in}
use Rattle.cell_rows.specs.Rows.{kept_value, with_kept}
use Rattle.cell_rows.specs.declared.cells.Cells.{Cells}
use Rattle.cell_rows.specs.declared.cells.Rows.{Rows}
use Rattle.cell_rows.proofs.RowCells.{kept_append, kept_placed}

then_is_eq : (a b : Ordering) → is_eq (ordering_then a b) ≡ is_eq a && is_eq b
then_is_eq Less b = refl
then_is_eq Equal b = refl
then_is_eq Greater b = refl

pub is_cell-cell_cmp : (c d : Cell) → is_eq (cell_cmp c d) ≡ is_cell c d
is_cell-cell_cmp c d =
    then_is_eq (nat_cmp c.0 d.0) (slice_cmp int_cmp c.1 d.1)
    ∙ ap (λ b. b && is_eq (slice_cmp int_cmp c.1 d.1)) (is_eq-nat_cmp c.0 d.0)
    ∙ ap (λ b. (c.0 == d.0) && b) (sym (lists_ties int_cmp (λ x y. refl) c.1 d.1))

same_cell : (c d : Cell) → is_cell c d ≡ true → c ≡ d
same_cell c d e =
    let tests = and_parts (c.0 == d.0) (pointwise int_eq c.1 d.1) e in
    let array : c.0 ≡ d.0 = eqb-true c.0 d.0 tests.0 in
    let at : c.1 ≡ d.1 = (signed_items c.1 d.1).0 tests.1 in
    ap (λ (a : ℕ). (a, c.1)) array ∙ ap (λ at. (d.0, at)) at

or_written : {T : Type 0} (b : Bool) (v : T) (o p : Option T)
    → option_or (cond b (Some v) o) p ≡ cond b (Some v) (option_or o p)
or_written true v o p = refl
or_written false v o p = refl

-- a cell that rows don't keep, in the map
written_in_map : {T : Type 0} (b : Bool) (v : T) (o p : Option T) → (b ≡ true → o ≡ None)
    → option_or o (cond b (Some v) p) ≡ cond b (Some v) (option_or o p)
written_in_map true v o p none = let e = none refl in rw e refl
written_in_map false v o p none = refl

pub values_after_map : {T : Type 0} (old new : Cells T) (cell : Cell) (v : T) → new.rows.items ≡ old.rows.items
    → kept_value old.rows.items cell ≡ None
    → ((q : Cell) → get cell_cmp new.map q ≡ cond (is_at (cell_cmp cell) q) (Some v) (get cell_cmp old.map q))
    → values_in new ≡ update is_cell (values_in old) cell (Some v)
unfolding values_in
values_after_map {T} old new cell v rows none h = λ i q. (
    ap (λ (rs : List (Rows T)). option_or (kept_value rs q) (get cell_cmp new.map q)) rows
    ∙ ap (λ o. option_or (kept_value old.rows.items q) o)
    (h q ∙ ap (λ b. cond b (Some v) (get cell_cmp old.map q)) (is_cell-cell_cmp cell q))
    ∙ written_in_map (is_cell cell q) v (kept_value old.rows.items q) (get cell_cmp old.map q)
    (λ e. ap (kept_value old.rows.items) (sym (same_cell cell q e)) ∙ none)) i

pub values_after_rows : {T : Type 0} (old new : Cells T) (cell : Cell) (place : ℕ) (v : T)
    → places_in old cell ≡ Some place
    → new.rows.items ≡ with_kept old.rows.items cell.0 place v → new.map ≡ old.map
    → values_in new ≡ update is_cell (values_in old) cell (Some v)
unfolding values_in places_in
values_after_rows {T} old new cell place v there rows map = λ i q. (
    ap (λ (rs : List (Rows T)). option_or (kept_value rs q) (get cell_cmp new.map q)) rows
    ∙ ap (λ m. option_or (kept_value (with_kept old.rows.items cell.0 place v) q) (get cell_cmp m q)) map
    ∙ ap (λ o. option_or o (get cell_cmp old.map q)) (kept_placed old.rows.items cell.0 cell.1 place v q.0 q.1 there)
    ∙ or_written (is_cell cell q) v (kept_value old.rows.items q) (get cell_cmp old.map q)) i

pub values_with_rows : {T : Type 0} (old new : Cells T) (row : Rows T) → new.rows.items ≡ old.rows.items ++ row ∷ []
    → row.values ≡ [] → new.map ≡ old.map
    → values_in new ≡ values_in old
unfolding values_in
values_with_rows {T} old new row rows none map = λ i q. (
    ap (λ (rs : List (Rows T)). option_or (kept_value rs q) (get cell_cmp new.map q)) rows
    ∙ ap (λ m. option_or (kept_value (old.rows.items ++ row ∷ []) q) (get cell_cmp m q)) map
    ∙ ap (λ o. option_or o (get cell_cmp old.map q)) (kept_append old.rows.items row q.0 q.1 none)) i
