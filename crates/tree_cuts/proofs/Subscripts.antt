-- Where a subscript's rows over its loop and quotient come from.
--
-- With a stride above 0 the row `write - read` is `M v - form`, and with one below 0 the row `read - write` is. The Cut
-- of that row and of the test's `form - M q` adds `v - q`, and the Cut of the other row and of `M q - form` adds
-- `q - v`. Without a stride the rows are the statement's own, in the other order where the coefficient is -1.
use Rattle.std.proofs.Common.{◌≡◌, ◌+◌, ℕ, ℤ, pos, ◌+ℤ◌, ◌-ℤ◌, ◌*ℤ◌, List, [], ◌∷◌, length}
use Rattle.std.proofs.Common.{Bool, true, false, cond, refl, sym, arith}
use Rattle.std.specs.Prelude.{Option, Some, None, slice_get, unsigned_abs}
use Rattle.std.specs.Option.{option_map_or}
use Rattle.std.specs.Int.RustNames.{int_lt}
use Rattle.affine_core.specs.declared.form.Form.{Form}
use Rattle.int_polyhedra.specs.Steps.{floor}
use Rattle.tree_sums.specs.Parts.{Part, part_of, row_part}
use Rattle.tree_sums.specs.Shown.{RowParts}
use Rattle.tree_cuts.specs.Class.{stride_of}
use Rattle.tree_cuts.specs.Cuts.{AreSources}
use Rattle.tree_cuts.specs.Sources.{cell_sources, cut_of, falls}
use Rattle.tree_cuts.specs.declared.cuts.Source.TheVariants.{Own}
use Rattle.tree_cuts.proofs.WriterCuts.{above_multiple, below_multiple, AreDividedRows}
use Rattle.tree_cuts.proofs.Indivisible.{number_part, once_row}
use Rattle.tree_cuts.proofs.RowSources.{cut_told, multiple_as, same_row, IsSmallSystem}

-- the rows of a stride, each less a number, and the rows that are told
pub record AreStrideTold (vars : ℕ) (rows : List Form) (c : ℤ) (test above below : ℕ) (f q v : RowParts) (less : ℤ)
    (high low : Form) : Type 0 where
  pub divided : AreDividedRows rows (unsigned_abs c) test above below f q v
  pub less_is : floor less (unsigned_abs c) ≡ less
  pub is_above : (part : Part) → row_part rows part above
      ≡ ((v part *ℤ pos (unsigned_abs c)) -ℤ f part) +ℤ number_part less part
  pub is_below : (part : Part) → row_part rows part below
      ≡ (f part -ℤ (v part *ℤ pos (unsigned_abs c))) +ℤ number_part less part
  pub high_over : length high.coefs ≡ vars
  pub low_over : length low.coefs ≡ vars
  pub high_is : (part : Part) → part_of part high ≡ (v part -ℤ q part) +ℤ number_part less part
  pub low_is : (part : Part) → part_of part low ≡ (q part -ℤ v part) +ℤ number_part less part

-- v - q by one Cut
pub high_told : (vars : ℕ) (rows : List Form) (c : ℤ) (test above below : ℕ) (f q v : RowParts) (less : ℤ)
    (high low : Form) → IsSmallSystem vars rows → AreStrideTold vars rows c test above below f q v less high low
    → AreSources vars rows (cut_of c (above ∷ test ∷ []) ∷ []) (high ∷ [])
high_told vars rows c test above below f q v less high low small h =
    cut_told vars rows c (above ∷ test ∷ []) (once_row above ∷ once_row test ∷ []) high refl h.divided.positive small
    (omega arith) h.high_over
    (multiple_as rows (unsigned_abs c) (once_row above ∷ once_row test ∷ [])
    (λ part. (v part -ℤ q part) +ℤ number_part less part) (λ part. part_of part high) (λ part. sym (h.high_is part))
    (above_multiple rows (unsigned_abs c) test above below f q v h.divided less h.less_is h.is_above h.is_below))

-- q - v by another
pub low_told : (vars : ℕ) (rows : List Form) (c : ℤ) (test above below : ℕ) (f q v : RowParts) (less : ℤ)
    (high low : Form) → IsSmallSystem vars rows → AreStrideTold vars rows c test above below f q v less high low
    → AreSources vars rows (cut_of c (below ∷ (test + 1) ∷ []) ∷ []) (low ∷ [])
low_told vars rows c test above below f q v less high low small h =
    cut_told vars rows c (below ∷ (test + 1) ∷ []) (once_row below ∷ once_row (test + 1) ∷ []) low refl
    h.divided.positive small (omega arith) h.low_over
    (multiple_as rows (unsigned_abs c) (once_row below ∷ once_row (test + 1) ∷ [])
    (λ part. (q part -ℤ v part) +ℤ number_part less part) (λ part. part_of part low) (λ part. sym (h.low_is part))
    (below_multiple rows (unsigned_abs c) test above below f q v h.divided less h.less_is h.is_above h.is_below))

-- what is to be known of a subscript, by its kind: `high` and `low` are the rows that are told
pub record IsSubscriptTold (vars : ℕ) (rows : List Form) (write : Form) (first second test : ℕ) (one two high low : Form)
    : Type 0 where
  pub one_is : slice_get rows first ≡ Some one
  pub two_is : slice_get rows second ≡ Some two
  pub high_over : length high.coefs ≡ vars
  pub low_over : length low.coefs ≡ vars
  pub strided : (c : ℤ) → stride_of write ≡ Some c → (f q v : RowParts)
      × AreStrideTold vars rows c test (cond (int_lt (pos 0) c) first second) (cond (int_lt (pos 0) c) second first) f q v
      (pos 0) high low
  pub turned : stride_of write ≡ None → falls write ≡ true
      → ((part : Part) → part_of part high ≡ part_of part two) × ((part : Part) → part_of part low ≡ part_of part one)
  pub same : stride_of write ≡ None → falls write ≡ false
      → ((part : Part) → part_of part high ≡ part_of part one) × ((part : Part) → part_of part low ≡ part_of part two)

pub subscript_told : (vars : ℕ) (rows : List Form) (write : Form) (first second test : ℕ) (one two high low : Form)
    → IsSmallSystem vars rows → IsSubscriptTold vars rows write first second test one two high low
    → AreSources vars rows (cell_sources write first second test) (high ∷ low ∷ [])
subscript_told vars rows write first second test one two high low small h = go (stride_of write) refl where
  by_sign : (c : ℤ) (f q v : RowParts) (b : Bool)
      → AreStrideTold vars rows c test (cond b first second) (cond b second first) f q v (pos 0) high low
      → AreSources vars rows (cond b
      (cut_of c (first ∷ test ∷ []) ∷ cut_of c (second ∷ (test + 1) ∷ []) ∷ [])
      (cut_of c (second ∷ test ∷ []) ∷ cut_of c (first ∷ (test + 1) ∷ []) ∷ [])) (high ∷ low ∷ [])
  by_sign c f q v true k = (
    (high_told vars rows c test first second f q v (pos 0) high low small k).0,
    low_told vars rows c test first second f q v (pos 0) high low small k,
  )
  by_sign c f q v false k = (
    (high_told vars rows c test second first f q v (pos 0) high low small k).0,
    low_told vars rows c test second first f q v (pos 0) high low small k,
  )

  plain : stride_of write ≡ None → (b : Bool) → falls write ≡ b
      → AreSources vars rows (cond b (Own second ∷ Own first ∷ []) (Own first ∷ Own second ∷ [])) (high ∷ low ∷ [])
  plain none true e =
      let s = h.turned none e in (
        same_row vars rows second two high small h.two_is h.high_over s.0,
        (same_row vars rows first one low small h.one_is h.low_over s.1, tt),
      )
  plain none false e =
      let s = h.same none e in (
        same_row vars rows first one high small h.one_is h.high_over s.0,
        (same_row vars rows second two low small h.two_is h.low_over s.1, tt),
      )

  go : (o : Option ℤ) → stride_of write ≡ o
      → AreSources vars rows (option_map_or
      (λ c. cond (int_lt (pos 0) c)
      (cut_of c (first ∷ test ∷ []) ∷ cut_of c (second ∷ (test + 1) ∷ []) ∷ [])
      (cut_of c (second ∷ test ∷ []) ∷ cut_of c (first ∷ (test + 1) ∷ []) ∷ [])) o
      (cond (falls write) (Own second ∷ Own first ∷ []) (Own first ∷ Own second ∷ []))) (high ∷ low ∷ [])
  go None e = plain e (falls write) refl
  go (Some c) e =
      let k = h.strided c e in
      by_sign c k.0 k.1 k.2 (int_lt (pos 0) c) k.3
