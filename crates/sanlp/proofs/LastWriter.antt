-- Along any list of points a cell holds the value of its last writer, and nothing where it has none.
--
-- By induction on the entries so far, for all cells at once: an entry that writes the cell becomes its last writer and
-- its value is stored, any other leaves both. The values are defined without a memory, so the step needs that the
-- reads of the entry see the same there as in the memory, which is the statement for the earlier entries. A value
-- stays as entries are added (`value_stays`), so it doesn't matter how far it was computed.
use Rattle.std.proofs.Common.{◌≡◌, ◌<◌, ℕ, zero, suc, pos, ℤ, List, [], length, get_or, take, Bool, true, false}
use Rattle.std.proofs.Common.{cond, refl, sym, ap, ◌∙◌, subst, inl, inr, arith, add-one}
use Rattle.std.specs.Prelude.{Option, Some, None, slice_get, unwrap_or}
use Rattle.std.specs.Option.{option_map, option_map_or}
use Rattle.std.specs.List.{fold}
use Rattle.std.proofs.lemmas.List.{length_push, get_or_push, get_or_append_left}
use Rattle.std.proofs.lemmas.List.Sums.{fold_more}
use Rattle.std.proofs.lemmas.Bool.{cases_lt}
use Rattle.std.proofs.lemmas.Option.{slice_get-get_or}
use Rattle.sanlp.specs.declared.nest.Inputs.{Inputs}
use Rattle.sanlp.specs.declared.nest.Nest.{Nest}
use Rattle.sanlp.specs.declared.nest.Point.{Point}
use Rattle.sanlp.specs.Access.{write_of, result_of}
use Rattle.sanlp.specs.Meaning.{store, execute}
use Rattle.sanlp.specs.Cells.{Cell}
use Rattle.sanlp.specs.Laws.{HoldsLastWriters, IsValue}
use Rattle.sanlp.specs.Memory.{Memory, is_cell, no_cells, cell_value}
use Rattle.sanlp.specs.Writers.{writes, last_before, value_or_zero, values_before, value_at, memory_before}

-- what an optional number is below
IsBelow : ℕ → Option ℕ → Type 0
IsBelow t None = Unit {0}
IsBelow t (Some u) = u < t

below_more : (t : ℕ) (o : Option ℕ) → IsBelow t o → IsBelow (suc t) o
unfolding IsBelow
below_more t None h = tt
below_more t (Some u) h = omega arith

below_if : (t : ℕ) (b : Bool) (o : Option ℕ) → IsBelow t o → IsBelow (suc t) (cond b (Some t) o)
unfolding IsBelow
below_if t true o h = omega arith
below_if t false o h = below_more t o h

-- one entry: where it writes the cell, the cell's last writer is this entry, and else it is the earlier one
stored : (m : Memory) (written : Option Cell) (v : ℤ) (cell : Cell) (f : ℕ → ℤ) (t : ℕ) (o : Option ℕ)
    → m cell ≡ option_map f o → v ≡ f t
    → store m written v cell ≡ option_map f (cond (option_map_or (λ w. is_cell w cell) written false) (Some t) o)
stored m None v cell f t o before value = before
stored m (Some w) v cell f t o before value =
    elim (is_cell w cell) as
    (λ b. cond b (Some v) (m cell) ≡ option_map f (cond b (Some t) o)) [ true ↦ ap Some value | false ↦ before ]

module _ (n : Nest) (d : Inputs) (points : List Point) where
  last_before_below : (t : ℕ) (cell : Cell) → IsBelow t (last_before n points t cell)
  unfolding IsBelow last_before
  last_before_below zero cell = tt
  last_before_below (suc t) cell = below_if t _ _ (last_before_below t cell)

  length_values : (t : ℕ) → length (values_before n d points t) ≡ t
  unfolding values_before
  length_values zero = refl
  length_values (suc t) = length_push (values_before n d points t) _ ∙ omega (arith, length_values t)

  -- a value stays as entries are added
  value_stays : (t u : ℕ) → u < t → get_or (values_before n d points t) u (pos 0) ≡ value_at n d points u
  unfolding values_before value_at
  value_stays zero u h = absurd (omega arith)
  value_stays (suc t) u h = elim (cases_lt u t) [
    | inl lt ↦ let shorter : u < length (values_before n d points t) = omega (arith, length_values t) in
        get_or_append_left (values_before n d points t) _ (pos 0) u shorter ∙ value_stays t u lt
    | inr ge ↦ let same : u ≡ t = omega arith in
        subst (λ w. get_or (values_before n d points (suc t)) w (pos 0) ≡ value_at n d points w) (sym same) refl
  ]

  value_or_zero_is : (t : ℕ) (o : Option ℕ) → IsBelow t o
      → value_or_zero (values_before n d points t) o ≡ unwrap_or (option_map (value_at n d points) o) (pos 0)
  unfolding IsBelow
  value_or_zero_is t None h = refl
  value_or_zero_is t (Some u) h = value_stays t u h

  -- the value of an entry: its result, where each cell has the value of its last writer, or 0
  pub value_at_is : IsValue n d points
  unfolding values_before value_at
  value_at_is t p e =
      get_or_push (values_before n d points t) _ (pos 0) t (length_values t)
      ∙ ap (λ o. option_map_or
      (λ q. result_of n d q (λ cell. value_or_zero (values_before n d points t) (last_before n points t cell))) o
      (pos 0)) e
      ∙ ap (result_of n d p) (λ i cell. value_or_zero_is t (last_before n points t cell) (last_before_below t cell) i)

  pub holds_last_writers : HoldsLastWriters n d points
  unfolding last_before
  holds_last_writers zero cell h = refl
  holds_last_writers (suc t) cell h =
      let none : Point = record { statement = 0; at = [] } in
      let p : Point = get_or points t none in
      let here : slice_get points t ≡ Some p = slice_get-get_or points t none (omega arith) in
      let before : (c : Cell)
      → memory_before n d points t c ≡ option_map (value_at n d points) (last_before n points t c) =
      λ c. holds_last_writers t c (omega arith) in
      let looks : result_of n d p (cell_value (memory_before n d points t)) ≡ value_at n d points t
      = ap (result_of n d p) (λ i c. unwrap_or (before c i) (pos 0)) ∙ sym (value_at_is t p here) in
      ap (λ k. fold (execute n d) no_cells (take k points) cell) (sym (add-one t))
      ∙ ap (λ m. m cell) (fold_more (execute n d) no_cells points t none (omega arith))
      ∙ stored (memory_before n d points t) (write_of n p) _ cell (value_at n d points) t (last_before n points t cell)
      (before cell) looks
      ∙ ap (λ o. option_map (value_at n d points)
      (cond (option_map_or (λ q. writes n q cell) o false) (Some t) (last_before n points t cell))) (sym here)
