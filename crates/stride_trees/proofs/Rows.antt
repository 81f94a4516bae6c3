-- The rows of a write at a point, by their numbers and their sizes.
--
-- A subscript's two rows stand at twice its number behind the domain rows, and the rows of a level behind those of all
-- subscripts. All are made of small forms by a few sums and multiples, so all can be made.
use Rattle.std.proofs.Common.{◌≡◌, ◌+◌, ◌*◌, ◌^◌, ◌≤◌, ℕ, zero, suc, List, [], ◌∷◌, ◌++◌, length}
use Rattle.std.proofs.Common.{Bool, true, false, cond, refl, sym, ap, ◌∙◌, arith, lt-ltb}
use Rattle.std.specs.Prelude.{Option, Some, None, slice_get, nat_lt}
use Rattle.std.specs.List.{list_all}
use Rattle.std.specs.Option.{option_map}
use Rattle.std.proofs.lemmas.Option.{same_Some, slice_get-map}
use Rattle.std.proofs.lemmas.Bool.{and_parts}
use Rattle.affine_core.specs.declared.form.Form.{Form}
use Rattle.tree_graphs.proofs.ProblemBounds.{form_is, FormFits}
use Rattle.tree_graphs.proofs.RowBounds.{farther_row, minus_row, most_made, most_placed, most_taken, placed_row}
use Rattle.tree_graphs.proofs.RowBounds.{taken_row, AreSmall, AreTaken, IsSmallRow, IsTaken}
use Rattle.plain_data.proofs.Tests.{ltb-zero}
use Rattle.plain_data.proofs.Lists.{slice_get-append_right}
use Rattle.tree_sums.proofs.Within.{IsWithin-weaker}
use Rattle.sanlp.specs.WellFormed.{form_fits}
use Rattle.source_tree.specs.Places.{at_place, cell_rows, order_rows}
use Rattle.source_tree.specs.Rows.{RowExpr, Take, equal_rows, minus, one_less}

-- Numbers of rows

-- the two rows of a subscript
pub record AreCellRows (rows : List RowExpr) (i : ℕ) (write read : Form) (place : List Form) : Type 0 where
  pub first : slice_get rows (2 * i) ≡ Some (minus (at_place write place) (Take read))
  pub second : slice_get rows (2 * i + 1) ≡ Some (minus (Take read) (at_place write place))

pub cells_at : (writes reads place : List Form) (i : ℕ) (write read : Form) (more : List RowExpr)
    → slice_get writes i ≡ Some write → slice_get reads i ≡ Some read
    → AreCellRows (cell_rows writes reads place ++ more) i write read place
cells_at [] reads place i write read more e f = absurd (let no : None ≡ Some write = e in cc)
cells_at (w ∷ writes) [] place i write read more e f = absurd (let no : None ≡ Some read = f in cc)
cells_at (w ∷ writes) (r ∷ reads) place zero write read more e f =
    let ws : w ≡ write = same_Some w write e in
    let rs : r ≡ read = same_Some r read f in
    record {
      first = ap (λ w. Some (minus (at_place w place) (Take r))) ws
          ∙ ap (λ r. Some (minus (at_place write place) (Take r))) rs;
      second = ap (λ w. Some (minus (Take r) (at_place w place))) ws
          ∙ ap (λ r. Some (minus (Take r) (at_place write place))) rs;
    }
cells_at (w ∷ writes) (r ∷ reads) place (suc i) write read more e f =
    let rest : AreCellRows (cell_rows writes reads place ++ more) i write read place =
    cells_at writes reads place i write read more e f in
    let x : RowExpr = minus (at_place w place) (Take r) in
    let y : RowExpr = minus (Take r) (at_place w place) in
    let rows : List RowExpr = cell_rows writes reads place ++ more in
    let even : 2 * suc i ≡ 2 + 2 * i = omega arith in
    let odd : 2 * suc i + 1 ≡ 2 + (2 * i + 1) = omega arith in
    record {
      first = ap (slice_get (x ∷ y ∷ rows)) even ∙ slice_get-append_right (x ∷ y ∷ []) rows (2 * i) ∙ rest.first;
      second = ap (slice_get (x ∷ y ∷ rows)) odd ∙ slice_get-append_right (x ∷ y ∷ []) rows (2 * i + 1) ∙ rest.second;
    }

next_less : (p c : ℕ) → nat_lt (suc p) (suc c) ≡ nat_lt p c
next_less p c = grind arith

-- two rows for each loop above the level, and one more at a loop
pub order_row_count : (c p : ℕ) (less : Bool) (a b : List Form) (rows : List RowExpr)
    → slice_get (order_rows c less a b) p ≡ Some rows → length rows ≡ 2 * p + cond (nat_lt p c) 1 0
order_row_count zero zero true a b rows e =
    let is : [] ≡ rows = same_Some [] rows e in
    let strict : cond {A = ℕ} (nat_lt 0 0) 1 0 ≡ 0 = ap (λ b. cond {A = ℕ} b 1 0) (ltb-zero 0) in
    omega (arith, ap length (sym is), strict)
order_row_count zero zero false a b rows e = absurd (let no : None ≡ Some rows = e in cc)
order_row_count zero (suc p) true a b rows e = absurd (let no : None ≡ Some rows = e in cc)
order_row_count zero (suc p) false a b rows e = absurd (let no : None ≡ Some rows = e in cc)
order_row_count (suc c) p less [] b rows e = absurd (let no : None ≡ Some rows = e in cc)
order_row_count (suc c) p less (v ∷ a) [] rows e = absurd (let no : None ≡ Some rows = e in cc)
order_row_count (suc c) zero less (v ∷ a) (x ∷ b) rows e =
    let is : one_less (minus (Take x) (Take v)) ∷ [] ≡ rows = same_Some (one_less (minus (Take x) (Take v)) ∷ []) rows e
    in
    let strict : cond {A = ℕ} (nat_lt 0 (suc c)) 1 0 ≡ 1 = ap (λ b. cond {A = ℕ} b 1 0) (lt-ltb 0 (suc c) (omega arith)) in
    let one : length (one_less (minus (Take x) (Take v)) ∷ []) ≡ 1 = refl in
    omega (arith, ap length (sym is), one, strict)
order_row_count (suc c) (suc p) less (v ∷ a) (x ∷ b) rows e =
    inner (slice_get (order_rows c less a b) p)
    (sym (slice_get-map (λ rows. equal_rows (Take v) (Take x) ++ rows) (order_rows c less a b) p) ∙ e)
    (λ rest is. order_row_count c p less a b rest is) where
      inner : (o : Option (List RowExpr)) → option_map (λ rows. equal_rows (Take v) (Take x) ++ rows) o ≡ Some rows
          → ((rest : List RowExpr) → o ≡ Some rest → length rest ≡ 2 * p + cond (nat_lt p c) 1 0)
          → length rows ≡ 2 * suc p + cond (nat_lt (suc p) (suc c)) 1 0
      inner None e h = absurd (let no : None ≡ Some rows = e in cc)
      inner (Some rest) e h =
          let whole : List RowExpr = equal_rows (Take v) (Take x) ++ rest in
          let is : whole ≡ rows = same_Some whole rows e in
          let count : length whole ≡ 2 + length rest = omega arith in
          omega (arith, ap length (sym is), count, h rest refl, ap (λ b. cond {A = ℕ} b 1 0) (next_less p c))

-- Small rows

read_taken : (vars d : ℕ) (read : Form) → d ≤ vars → FormFits d read → IsTaken vars read
read_taken vars d read le fits = record {
  short = omega (arith, fits.over, le);
  within =
      IsWithin-weaker (2 ^ 32) most_taken read (omega arith) fits.within;
}

pub small_cells : (vars d depth : ℕ) (writes reads place : List Form) → d ≤ vars → depth ≤ 6
    → list_all (form_fits depth) writes ≡ true → list_all (form_fits d) reads ≡ true → AreTaken vars place
    → AreSmall vars (cell_rows writes reads place)
small_cells vars d depth [] reads place le few w r taken = tt
small_cells vars d depth (write ∷ writes) [] place le few w r taken = tt
small_cells vars d depth (write ∷ writes) (read ∷ reads) place le few w r taken =
    let b = and_parts (form_fits depth write) (list_all (form_fits depth) writes) w in
    let c = and_parts (form_fits d read) (list_all (form_fits d) reads) r in
    let at : IsSmallRow vars (at_place write place) most_placed =
    placed_row vars depth write place few (form_is depth write b.0) taken in
    let of : IsSmallRow vars (Take read) most_taken =
    taken_row vars read (read_taken vars d read le (form_is d read c.0)) in (
      farther_row vars (most_placed + (most_taken + most_taken)) most_made (minus (at_place write place) (Take read))
          (omega arith) (minus_row vars most_placed most_taken (at_place write place) (Take read) at of),
      (
        farther_row vars (most_taken + (most_placed + most_placed)) most_made (minus (Take read) (at_place write place))
            (omega arith) (minus_row vars most_taken most_placed (Take read) (at_place write place) of at),
        small_cells vars d depth writes reads place le few b.1 c.1 taken,
      ),
    )
