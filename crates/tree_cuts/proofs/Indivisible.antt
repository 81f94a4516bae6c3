-- Where a form is no multiple, no loop value is what is asked.
--
-- Below a test that the divisor doesn't divide the form's value, the form lies strictly between two next multiples, q
-- and q + 1 times the divisor. A loop value v with the form for its multiple is above q, by a Cut of the lower row and
-- the row `M v - form`, and no greater than q, by a Cut of the upper row and the row `form - M v`. Both rows that the
-- Cuts add come to -1. All multipliers are 1.
use Rattle.std.proofs.Common.{◌≡◌, ◌+◌, ◌*◌, ◌^◌, ◌≤◌, ◌<◌, ℕ, ℤ, pos, negsuc, ◌+ℤ◌, ◌-ℤ◌, ◌*ℤ◌, ◌≤ℤ◌, ◌<ℤ◌}
use Rattle.std.proofs.Common.{List, [], ◌∷◌, ◌++◌, length, refl, ap, ◌∙◌, subst, arith}
use Rattle.std.proofs.Common.{append_assoc, length-append}
use Rattle.std.specs.Prelude.{All, slice_get, unsigned_abs}
use Rattle.std.specs.Option.{option_map_or}
use Rattle.std.proofs.lemmas.Int.{ints}
use Rattle.std.proofs.lemmas.List.Elements.{All-nil, All-cons, All-append}
use Rattle.affine_core.proofs.Ring.{sum_times}
use Rattle.affine_core.specs.declared.form.Form.{Form}
use Rattle.int_polyhedra.specs.declared.system.Proof.{Proof}
use Rattle.int_polyhedra.specs.declared.system.Proof.TheVariants.{Sum}
use Rattle.int_polyhedra.specs.declared.system.Proof.TheViews.{Cut as CutOf}
use Rattle.int_polyhedra.specs.declared.system.Term.{Term}
use Rattle.int_polyhedra.specs.Rules.{Refutes}
use Rattle.int_polyhedra.specs.Steps.{floor}
use Rattle.int_polyhedra.specs.Systems.{AreOver}
use Rattle.int_polyhedra.proofs.Variables.{over_more}
use Rattle.plain_data.proofs.Lists.{slice_get-append_right}
use Rattle.tree_sums.specs.Made.{parts_of}
use Rattle.tree_sums.specs.Parts.{Part, the_constant, the_coefficient, part_of, row_part, weight, weighted_sum, IsWithin}
use Rattle.tree_sums.specs.Shown.{RowParts, Shows}
use Rattle.tree_sums.proofs.NegativeSums.{shown_refutes}
use Rattle.tree_sums.proofs.Within.{IsWithin-from_parts}
use Rattle.source_tree.specs.Rows.{number}
use Rattle.tree_cuts.specs.Cuts.{after_cuts, IsCutSum}
use Rattle.tree_cuts.specs.declared.cuts.Cut.{Cut}
use Rattle.tree_cuts.proofs.CutRows.{cut_adds, cuts_refute, IsAdded, IsMultipleOf}
use Rattle.tree_cuts.proofs.Floors.{floor_shifted, floor_unique}

abbrev pub once_row : ℕ → Term
once_row k = record { row = k; times = pos 1 }

pub All-once_rows : (order a b : ℕ) → a < order → b < order → All (λ t. t.row < order) (once_row a ∷ once_row b ∷ [])
All-once_rows order a b k l =
    All-cons (λ (t : Term). t.row < order) (once_row a) (once_row b ∷ []) k
    (All-cons (λ (t : Term). t.row < order) (once_row b) [] l (All-nil _))

pub weighted_sum-once : (number : ℕ → ℤ) (a : ℕ) → weighted_sum number (once_row a ∷ []) ≡ number a
weighted_sum-once number a = omega (arith, ints)

pub weighted_sum-once_rows : (number : ℕ → ℤ) (a b : ℕ)
    → weighted_sum number (once_row a ∷ once_row b ∷ []) ≡ number a +ℤ number b
weighted_sum-once_rows number a b = omega (arith, ints)

pub once_rows-positive : (a b : ℕ) → All (λ t. pos 0 ≤ℤ t.times) (once_row a ∷ once_row b ∷ [])
once_rows-positive a b = All-cons (λ (t : Term). pos 0 ≤ℤ t.times) (once_row a) (once_row b ∷ []) (omega (arith, ints))
    (All-cons (λ (t : Term). pos 0 ≤ℤ t.times) (once_row b) [] (omega (arith, ints)) (All-nil _))

-- a number as a row
abbrev pub number_part : ℤ → RowParts
number_part k part = parts_of (number k) part

pub below_one : (d : ℕ) → 0 < d → floor (negsuc 0) d ≡ negsuc 0
below_one d h = floor_unique (negsuc 0) (negsuc 0) d h (omega (arith, ints, h)) (omega (arith, ints, h))

below_next : (d : ℕ) → 0 < d → floor (pos d +ℤ negsuc 0) d ≡ pos 0
below_next d h = floor_unique (pos d +ℤ negsuc 0) (pos 0) d h (omega (arith, ints, h)) (omega (arith, ints, h))

-- numbers that lie so near 0
pub record IsNear (b : ℕ) (z : ℤ) : Type 0 where
  pub above : pos 0 ≤ℤ (z +ℤ pos b)
  pub below : z ≤ℤ pos b

pub near_from : (b : ℕ) (z : ℤ) → unsigned_abs z ≤ b → IsNear b z
near_from b (pos n) h = record { above = omega (arith, ints); below = omega (arith, ints, h) }
near_from b (negsuc n) h = record { above = omega (arith, ints, h); below = omega (arith, ints) }

pub size_from : (b : ℕ) (z : ℤ) → IsNear b z → unsigned_abs z ≤ b
size_from b (pos n) h = omega (arith, ints, h.below)
size_from b (negsuc n) h = omega (arith, ints, h.above)

-- the rows of the test's no, and those of the cell
pub record AreUndivided (rows : List Form) (d here up down : ℕ) (f q v : RowParts) : Type 0 where
  pub positive : 0 < d
  pub here_in : here + 1 < length rows
  pub up_in : up < length rows
  pub down_in : down < length rows
  pub low : (part : Part) → row_part rows part here
      ≡ (f part +ℤ ((q part *ℤ pos d) *ℤ negsuc 0)) +ℤ number_part (negsuc 0) part
  pub high : (part : Part) → row_part rows part (here + 1)
      ≡ (((q part *ℤ pos d) +ℤ number_part (pos d) part) +ℤ number_part (negsuc 0) part) +ℤ (f part *ℤ negsuc 0)
  pub above : (part : Part) → row_part rows part up ≡ (v part *ℤ pos d) -ℤ f part
  pub below : (part : Part) → row_part rows part down ≡ f part -ℤ (v part *ℤ pos d)
  pub small_q : (part : Part) → unsigned_abs (q part) ≤ 1
  pub small_v : (part : Part) → unsigned_abs (v part) ≤ 1

abbrev pub low_cut : ℕ → ℕ → ℕ → Cut
low_cut d here up = record { divisor = pos d; terms = once_row here ∷ once_row up ∷ [] }

abbrev pub high_cut : ℕ → ℕ → ℕ → Cut
high_cut d here down = record { divisor = pos d; terms = once_row (here + 1) ∷ once_row down ∷ [] }

-- both Cuts, and the Sum of what they add
abbrev pub undivided_proof : ℕ → ℕ → ℕ → ℕ → ℕ → Proof
undivided_proof d here up down count =
    after_cuts (low_cut d here up ∷ high_cut d here down ∷ []) (Sum (once_row count ∷ once_row (count + 1) ∷ []))

abbrev two_terms : ℕ → ℕ → List Term
two_terms a b = once_row a ∷ once_row b ∷ []

-- the same of any divisor
abbrev pub indivisible_proof : ℤ → ℕ → ℕ → ℕ → ℕ → Proof
indivisible_proof divisor test above below count =
    CutOf divisor (two_terms test above) (CutOf divisor (two_terms (test + 1) below) (Sum (two_terms count (count + 1))))

module _ (vars : ℕ) (rows : List Form) (d here up down : ℕ) (f q v : RowParts) (over : AreOver vars rows)
    (within : All (IsWithin (2 ^ 90)) rows) (h : AreUndivided rows d here up down f q v) where
  abbrev gap : RowParts
  gap part = v part -ℤ q part

  -- v - q - 1, and q - v
  abbrev low_row : RowParts
  low_row part = gap part +ℤ number_part (negsuc 0) part

  abbrev high_row : RowParts
  high_row part = q part -ℤ v part

  gap_times : (part : Part) → gap part *ℤ pos d ≡ (v part *ℤ pos d) -ℤ (q part *ℤ pos d)
  gap_times part =
      let whole : (gap part +ℤ q part) *ℤ pos d ≡ (gap part *ℤ pos d) +ℤ (q part *ℤ pos d) =
      sum_times (gap part) (q part) (pos d) in
      let same : gap part +ℤ q part ≡ v part = omega (arith, ints) in
      omega (arith, ints, whole, ap (λ z. z *ℤ pos d) same)

  back_times : (part : Part) → high_row part *ℤ pos d ≡ (q part *ℤ pos d) -ℤ (v part *ℤ pos d)
  back_times part =
      let whole : (high_row part +ℤ v part) *ℤ pos d ≡ (high_row part *ℤ pos d) +ℤ (v part *ℤ pos d) =
      sum_times (high_row part) (v part) (pos d) in
      let same : high_row part +ℤ v part ≡ q part = omega (arith, ints) in
      omega (arith, ints, whole, ap (λ z. z *ℤ pos d) same)

  low_sum : (part : Part) → weighted_sum (row_part rows part) (once_row here ∷ once_row up ∷ [])
      ≡ number_part (negsuc 0) part +ℤ (gap part *ℤ pos d)
  low_sum part = omega (
    arith,
    ints,
    weighted_sum-once_rows (row_part rows part) here up,
    h.low part,
    h.above part,
    gap_times part,
  )

  high_sum : (part : Part) → weighted_sum (row_part rows part) (once_row (here + 1) ∷ once_row down ∷ [])
      ≡ (number_part (pos d) part +ℤ number_part (negsuc 0) part) +ℤ (high_row part *ℤ pos d)
  high_sum part = omega (
    arith,
    ints,
    weighted_sum-once_rows (row_part rows part) (here + 1) down,
    h.high part,
    h.below part,
    back_times part,
  )

  low_multiple : IsMultipleOf rows d (once_row here ∷ once_row up ∷ []) low_row
  low_multiple = record {
    name_rows = All-once_rows (length rows) here up (omega (arith, h.here_in)) h.up_in;
    not_negative = once_rows-positive here up;
    constant = ap (λ z. floor z d) (low_sum the_constant) ∙ floor_shifted (negsuc 0) (gap the_constant) d h.positive
        ∙ ap (λ z. z +ℤ gap the_constant) (below_one d h.positive) ∙ turned (negsuc 0) (gap the_constant);
    coefs = λ i. low_sum (the_coefficient i) ∙ none_before (gap (the_coefficient i) *ℤ pos d)
        ∙ ap (λ z. z *ℤ pos d) (none_more (gap (the_coefficient i)));
  } where
    turned : (a b : ℤ) → a +ℤ b ≡ b +ℤ a
    turned a b = omega (arith, ints)

    none_before : (z : ℤ) → pos 0 +ℤ z ≡ z
    none_before z = omega (arith, ints)

    none_more : (z : ℤ) → z ≡ z +ℤ pos 0
    none_more z = omega (arith, ints)

  high_multiple : IsMultipleOf rows d (once_row (here + 1) ∷ once_row down ∷ []) high_row
  high_multiple = record {
    name_rows = All-once_rows (length rows) (here + 1) down h.here_in h.down_in;
    not_negative = once_rows-positive (here + 1) down;
    constant = ap (λ z. floor z d) (high_sum the_constant)
        ∙ floor_shifted (pos d +ℤ negsuc 0) (high_row the_constant) d h.positive
        ∙ ap (λ z. z +ℤ high_row the_constant) (below_next d h.positive) ∙ none_before (high_row the_constant);
    coefs = λ i. high_sum (the_coefficient i) ∙ none_before (high_row (the_coefficient i) *ℤ pos d);
  } where
    none_before : (z : ℤ) → pos 0 +ℤ z ≡ z
    none_before z = omega (arith, ints)

  light : weight (once_row 0 ∷ once_row 0 ∷ []) * 2 ^ 90 < 2 ^ 127
  light = omega arith

  low_added : IsAdded vars rows (low_cut d here up) low_row
  low_added = cut_adds vars (2 ^ 90) d rows (once_row here ∷ once_row up ∷ []) low_row h.positive over within light
      low_multiple

  high_added : IsAdded vars rows (high_cut d here down) high_row
  high_added = cut_adds vars (2 ^ 90) d rows (once_row (here + 1) ∷ once_row down ∷ []) high_row h.positive over within
      light high_multiple

  abbrev added : List Form
  added = low_added.row ∷ high_added.row ∷ []

  abbrev whole : List Form
  whole = rows ++ added

  minus_one_small : (part : Part) → unsigned_abs (number_part (negsuc 0) part) ≤ 1
  minus_one_small the_constant = omega arith
  minus_one_small (the_coefficient i) = omega arith

  low_small : (part : Part) → unsigned_abs (low_row part) ≤ 3
  low_small part =
      let n : IsNear 1 (v part) = near_from 1 (v part) (h.small_v part) in
      let m : IsNear 1 (q part) = near_from 1 (q part) (h.small_q part) in
      let k : IsNear 1 (number_part (negsuc 0) part) =
      near_from 1 (number_part (negsuc 0) part) (minus_one_small part) in
      size_from 3 (low_row part)
      (record {
        above = omega (arith, ints, n.above, n.below, m.above, m.below, k.above, k.below);
        below = omega (arith, ints, n.above, n.below, m.above, m.below, k.above, k.below);
      })

  high_small : (part : Part) → unsigned_abs (high_row part) ≤ 3
  high_small part =
      let n : IsNear 1 (v part) = near_from 1 (v part) (h.small_v part) in
      let m : IsNear 1 (q part) = near_from 1 (q part) (h.small_q part) in
      size_from 3 (high_row part)
      (record {
        above = omega (arith, ints, n.above, n.below, m.above, m.below);
        below = omega (arith, ints, n.above, n.below, m.above, m.below);
      })

  row_small : (bound : ℕ) (row : Form) (parts : RowParts) → 3 ≤ bound
      → ((part : Part) → part_of part row ≡ parts part) → ((part : Part) → unsigned_abs (parts part) ≤ 3)
      → IsWithin bound row
  row_small bound row parts le are small =
      IsWithin-from_parts bound row (λ part. omega (arith, le, ap unsigned_abs (are part), small part))

  added_small : (bound : ℕ) → 3 ≤ bound → All (IsWithin bound) added
  added_small bound le =
      All-cons (IsWithin bound) low_added.row (high_added.row ∷ [])
      (row_small bound low_added.row low_row le low_added.are low_small)
      (All-cons (IsWithin bound) high_added.row []
      (row_small bound high_added.row high_row le high_added.are high_small) (All-nil _))

  whole_over : AreOver vars whole
  whole_over = subst (AreOver vars) (append_assoc rows (low_added.row ∷ []) (high_added.row ∷ []))
      (over_more vars (rows ++ low_added.row ∷ []) high_added.row
      (over_more vars rows low_added.row over low_added.over) high_added.over)

  whole_within : All (IsWithin (2 ^ 90)) whole
  whole_within = All-append (IsWithin (2 ^ 90)) rows added within (added_small (2 ^ 90) (omega arith))

  last_low : (part : Part) → row_part whole part (length rows) ≡ low_row part
  last_low part =
      let e : length rows ≡ length rows + 0 = omega arith in
      ap (λ k. option_map_or (part_of part) (slice_get whole k) (pos 0)) e
      ∙ ap (λ o. option_map_or (part_of part) o (pos 0)) (slice_get-append_right rows added 0) ∙ low_added.are part

  last_high : (part : Part) → row_part whole part (length rows + 1) ≡ high_row part
  last_high part =
      ap (λ o. option_map_or (part_of part) o (pos 0)) (slice_get-append_right rows added 1) ∙ high_added.are part

  abbrev both : List Term
  both = once_row (length rows) ∷ once_row (length rows + 1) ∷ []

  both_sum : (part : Part) → weighted_sum (row_part whole part) both ≡ low_row part +ℤ high_row part
  both_sum part =
      omega (
        arith,
        ints,
        weighted_sum-once_rows (row_part whole part) (length rows) (length rows + 1),
        last_low part,
        last_high part,
      )

  count_whole : length whole ≡ length rows + 2
  count_whole = length-append rows added

  both_shown : Shows vars whole both (λ part. low_row part +ℤ high_row part)
  both_shown = record {
    name_rows = All-cons (λ (t : Term). t.row < length whole) (once_row (length rows)) (once_row (length rows + 1) ∷ [])
        (omega (arith, count_whole)) (All-cons (λ (t : Term). t.row < length whole) (once_row (length rows + 1)) []
        (omega (arith, count_whole)) (All-nil _));
    not_negative = once_rows-positive (length rows) (length rows + 1);
    at_most = omega (arith, ints, both_sum the_constant);
    same = λ i l. both_sum (the_coefficient i);
  }

  pub undivided_refutes : Refutes vars rows (undivided_proof d here up down (length rows))
  undivided_refutes =
      cuts_refute vars rows (low_cut d here up ∷ high_cut d here down ∷ []) added (Sum both)
      (low_added.adds, (high_added.adds, tt))
      (shown_refutes vars (2 ^ 90) whole both (λ part. low_row part +ℤ high_row part) whole_over whole_within light
      both_shown
      (record {
        negative = negative_sum (v the_constant) (q the_constant);
        no_variable = λ i l. no_sum (v (the_coefficient i)) (q (the_coefficient i));
      })) where
        negative_sum : (a b : ℤ) → (((a -ℤ b) +ℤ negsuc 0) +ℤ (b -ℤ a)) <ℤ pos 0
        negative_sum a b = omega (arith, ints)

        no_sum : (a b : ℤ) → ((a -ℤ b) +ℤ pos 0) +ℤ (b -ℤ a) ≡ pos 0
        no_sum a b = omega (arith, ints)

  pub undivided_is_cut_sum : (order : ℕ) → here + 1 < order → up < order → down < order
      → IsCutSum vars rows order (undivided_proof d here up down (length rows))
  undivided_is_cut_sum order k l m =
      let P : Cut → Type 0 = λ cut. All (λ t. t.row < order) cut.terms in
      record {
        cuts = low_cut d here up ∷ high_cut d here down ∷ [];
        added = added;
        terms = both;
        is = refl;
        few = omega arith;
        add = (low_added.adds, (high_added.adds, tt));
        no_order = All-cons P (low_cut d here up) (high_cut d here down ∷ [])
            (All-once_rows order here up (omega (arith, k)) l)
            (All-cons P (high_cut d here down) [] (All-once_rows order (here + 1) down k m) (All-nil _));
        small = added_small (2 ^ 48) (omega arith);
        light = omega arith;
      }
