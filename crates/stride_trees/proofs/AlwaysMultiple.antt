-- Where a divisor divides all coefficients of a form and its constant, no point comes to the no of its test.
--
-- The no of a test of a form by d, for the quotient q, has the rows `form - d q - 1` and `d q + d - 1 - form`. A Cut by d of
-- the first is `form / d - q - 1`: d times that lies below the first row by d - 1, and so it and the second row add up to -1.
-- No other row of the context is asked for.
use Rattle.std.proofs.Common.{◌≡◌, ◌+◌, ◌%◌, ◌^◌, ◌≤◌, ◌<◌, ℕ, ℤ, pos, negsuc, ◌+ℤ◌, ◌-ℤ◌, ◌*ℤ◌, ◌<ℤ◌}
use Rattle.std.proofs.Common.{List, length, refl, ap, ◌∙◌, arith}
use Rattle.std.specs.Prelude.{All, unsigned_abs}
use Rattle.std.proofs.lemmas.Int.{ints}
use Rattle.affine_core.proofs.Ring.{sum_times}
use Rattle.affine_core.specs.declared.form.Form.{Form}
use Rattle.int_polyhedra.specs.Rules.{Refutes}
use Rattle.int_polyhedra.specs.Steps.{floor}
use Rattle.int_polyhedra.specs.Systems.{AreOver}
use Rattle.int_polyhedra.proofs.Floor.{floor_exact}
use Rattle.tree_sums.specs.Parts.{Part, the_constant, the_coefficient, row_part, IsWithin}
use Rattle.tree_sums.specs.Shown.{RowParts}
use Rattle.tree_cuts.proofs.Floors.{floor_shifted}
use Rattle.tree_cuts.proofs.Indivisible.{below_one, number_part}
use Rattle.stride_trees.proofs.RoundedRows.{rounded_proof, rounded_refutes}

-- the rows of a test's no whose form is always a multiple
pub record AreAlways (rows : List Form) (d here : ℕ) (f q : RowParts) : Type 0 where
  pub positive : 0 < d
  pub small : d ≤ 2 ^ 32
  pub low_small : (part : Part) → unsigned_abs (row_part rows part here) ≤ 2 ^ 90
  pub here_in : here + 1 < length rows
  pub low : (part : Part) → row_part rows part here
      ≡ (f part +ℤ ((q part *ℤ pos d) *ℤ negsuc 0)) +ℤ number_part (negsuc 0) part
  pub high : (part : Part) → row_part rows part (here + 1)
      ≡ (((q part *ℤ pos d) +ℤ number_part (pos d) part) +ℤ number_part (negsuc 0) part) +ℤ (f part *ℤ negsuc 0)
  pub divided : (part : Part) → unsigned_abs (f part) % d ≡ 0

module _ (vars : ℕ) (rows : List Form) (d here : ℕ) (f q : RowParts) (over : AreOver vars rows)
    (within : All (IsWithin (2 ^ 90)) rows) (h : AreAlways rows d here f q) where
  abbrev low_row : RowParts
  low_row part = (f part +ℤ ((q part *ℤ pos d) *ℤ negsuc 0)) +ℤ number_part (negsuc 0) part

  abbrev high_row : RowParts
  high_row part =
      (((q part *ℤ pos d) +ℤ number_part (pos d) part) +ℤ number_part (negsuc 0) part) +ℤ (f part *ℤ negsuc 0)

  abbrev gap : RowParts
  gap part = floor (f part) d -ℤ q part

  gap_times : (part : Part) → gap part *ℤ pos d ≡ f part -ℤ (q part *ℤ pos d)
  gap_times part =
      let g : ℤ = floor (f part) d in
      let whole : (gap part +ℤ q part) *ℤ pos d ≡ (gap part *ℤ pos d) +ℤ (q part *ℤ pos d) =
      sum_times (gap part) (q part) (pos d) in
      let same : gap part +ℤ q part ≡ g = omega (arith, ints) in
      let multiple : f part ≡ g *ℤ pos d = floor_exact (f part) d h.positive (h.divided part) in
      omega (arith, ints, whole, ap (λ z. z *ℤ pos d) same, multiple)

  none : (k : ℤ) (i : ℕ) → number_part k (the_coefficient i) ≡ pos 0
  none k i = refl

  exact : (i : ℕ) → low_row (the_coefficient i) ≡ gap (the_coefficient i) *ℤ pos d
  exact i = omega (arith, ints, gap_times (the_coefficient i), none (negsuc 0) i)

  opposite : (i : ℕ) → low_row (the_coefficient i) +ℤ high_row (the_coefficient i) ≡ pos 0
  opposite i = omega (arith, ints, none (negsuc 0) i, none (pos d) i)

  low_constant : low_row the_constant ≡ negsuc 0 +ℤ (gap the_constant *ℤ pos d)
  low_constant =
      let one : number_part (negsuc 0) the_constant ≡ negsuc 0 = refl in
      omega (arith, ints, gap_times the_constant, one)

  lowest : floor (low_row the_constant) d ≡ negsuc 0 +ℤ gap the_constant
  lowest =
      ap (λ z. floor z d) low_constant ∙ floor_shifted (negsuc 0) (gap the_constant) d h.positive
      ∙ ap (λ z. z +ℤ gap the_constant) (below_one d h.positive)

  less : ((floor (low_row the_constant) d *ℤ pos d) +ℤ high_row the_constant) <ℤ pos 0
  less =
      let one : number_part (negsuc 0) the_constant ≡ negsuc 0 = refl in
      let whole : number_part (pos d) the_constant ≡ pos d = refl in
      let times : (negsuc 0 +ℤ gap the_constant) *ℤ pos d ≡ (negsuc 0 *ℤ pos d) +ℤ (gap the_constant *ℤ pos d) =
      sum_times (negsuc 0) (gap the_constant) (pos d) in
      omega (arith, ints, ap (λ z. z *ℤ pos d) lowest, times, gap_times the_constant, one, whole)

  pub always_refutes : Refutes vars rows (rounded_proof (pos d) here (here + 1) (length rows))
  always_refutes =
      rounded_refutes vars rows d here (here + 1) low_row high_row (λ i. gap (the_coefficient i)) over within
      (record {
        positive = h.positive;
        small = h.small;
        up_small = h.low_small;
        up_in = omega (arith, h.here_in);
        down_in = h.here_in;
        above = h.low;
        below = h.high;
        exact = exact;
        opposite = opposite;
        less = less;
      })
