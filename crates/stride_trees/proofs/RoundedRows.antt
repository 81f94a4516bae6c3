-- Two rows whose variables cancel, where rounding the first down makes their sum negative.
--
-- A number d divides each coefficient of the first row, so a Cut by d adds the row of its quotients, with the constant rounded
-- down. d times that row has the first row's coefficients, which the second row takes away, and a constant that is less by
-- what was rounded off. So where that and the second row's constant are below 0, d times the Cut's row and the second row
-- are a Sum that refutes. Nothing is said of the other rows but their size.
use Rattle.std.proofs.Common.{◌≡◌, ◌+◌, ◌^◌, ◌≤◌, ◌<◌, ℕ, ℤ, pos, negsuc, ◌+ℤ◌, ◌*ℤ◌, ◌≤ℤ◌, ◌<ℤ◌}
use Rattle.std.proofs.Common.{List, [], ◌∷◌, ◌++◌, length, sym, ap, ◌∙◌, subst, arith, length-append}
use Rattle.std.specs.Prelude.{All, slice_get, unsigned_abs}
use Rattle.std.specs.Option.{option_map_or}
use Rattle.std.proofs.lemmas.Int.{ints}
use Rattle.std.proofs.Math.Nat.{div-le_self}
use Rattle.std.proofs.lemmas.List.Elements.{All-nil, All-cons, All-append}
use Rattle.affine_core.specs.declared.form.Form.{Form}
use Rattle.int_polyhedra.specs.declared.system.Proof.{Proof}
use Rattle.int_polyhedra.specs.declared.system.Proof.TheVariants.{Sum}
use Rattle.int_polyhedra.specs.declared.system.Proof.TheViews.{Cut as CutOf}
use Rattle.int_polyhedra.specs.declared.system.Term.{Term}
use Rattle.int_polyhedra.specs.Rules.{Refutes}
use Rattle.int_polyhedra.specs.Steps.{floor}
use Rattle.int_polyhedra.specs.Systems.{AreOver}
use Rattle.int_polyhedra.proofs.Variables.{over_more}
use Rattle.plain_data.proofs.Lists.{slice_get-append_left, slice_get-append_right}
use Rattle.tree_sums.specs.Parts.{Part, the_constant, the_coefficient, part_of, row_part, weighted_sum, IsWithin}
use Rattle.tree_sums.specs.Shown.{RowParts, Shows}
use Rattle.tree_sums.proofs.NegativeSums.{shown_refutes}
use Rattle.tree_sums.proofs.Within.{IsWithin-from_parts}
use Rattle.tree_cuts.specs.declared.cuts.Cut.{Cut}
use Rattle.tree_cuts.proofs.CutRows.{cut_adds, cuts_refute, IsAdded, IsMultipleOf}
use Rattle.tree_cuts.proofs.Floors.{floor_multiple}
use Rattle.tree_cuts.proofs.Indivisible.{once_row, weighted_sum-once}

-- one Cut, and the Sum of what it adds, so many times, and the second row
abbrev pub rounded_proof : ℤ → ℕ → ℕ → ℕ → Proof
rounded_proof divisor above below count =
    CutOf divisor (once_row above ∷ []) (Sum (record { row = count; times = divisor } ∷ once_row below ∷ []))

-- the rows `up` and `down` have these parts, and the first has these quotients
pub record AreRounded (rows : List Form) (d up down : ℕ) (a b : RowParts) (quotient : ℕ → ℤ) : Type 0 where
  pub positive : 0 < d
  pub small : d ≤ 2 ^ 32
  pub up_small : (part : Part) → unsigned_abs (row_part rows part up) ≤ 2 ^ 90
  pub up_in : up < length rows
  pub down_in : down < length rows
  pub above : (part : Part) → row_part rows part up ≡ a part
  pub below : (part : Part) → row_part rows part down ≡ b part
  pub exact : (i : ℕ) → a (the_coefficient i) ≡ quotient i *ℤ pos d
  pub opposite : (i : ℕ) → a (the_coefficient i) +ℤ b (the_coefficient i) ≡ pos 0
  pub less : ((floor (a the_constant) d *ℤ pos d) +ℤ b the_constant) <ℤ pos 0

-- a number rounded down is no farther from 0
floor_size : (z : ℤ) (d b : ℕ) → unsigned_abs z ≤ b → unsigned_abs (floor z d) ≤ b
floor_size (pos n) d b h = omega (arith, ints, h, div-le_self n d)
floor_size (negsuc n) d b h = omega (arith, ints, h, div-le_self n d)

module _ (vars : ℕ) (rows : List Form) (d up down : ℕ) (a b : RowParts) (quotient : ℕ → ℤ) (over : AreOver vars rows)
    (within : All (IsWithin (2 ^ 90)) rows) (h : AreRounded rows d up down a b quotient) where
  -- what the Cut adds
  abbrev cut_row : RowParts
  cut_row the_constant = floor (a the_constant) d
  cut_row (the_coefficient i) = quotient i

  abbrev cut : Cut
  cut = record { divisor = pos d; terms = once_row up ∷ [] }

  multiple : IsMultipleOf rows d (once_row up ∷ []) cut_row
  multiple = record {
    name_rows = All-cons (λ (t : Term). t.row < length rows) (once_row up) [] h.up_in (All-nil _);
    not_negative = All-cons (λ (t : Term). pos 0 ≤ℤ t.times) (once_row up) [] (omega (arith, ints)) (All-nil _);
    constant = ap (λ z. floor z d) (weighted_sum-once (row_part rows the_constant) up ∙ h.above the_constant);
    coefs = λ i. weighted_sum-once (row_part rows (the_coefficient i)) up ∙ h.above (the_coefficient i) ∙ h.exact i;
  }

  added : IsAdded vars rows cut cut_row
  added = cut_adds vars (2 ^ 90) d rows (once_row up ∷ []) cut_row h.positive over within (omega arith) multiple

  up_size : (part : Part) → unsigned_abs (a part) ≤ 2 ^ 90
  up_size part = subst (λ z. unsigned_abs z ≤ 2 ^ 90) (h.above part) (h.up_small part)

  cut_size : (part : Part) → unsigned_abs (cut_row part) ≤ 2 ^ 90
  cut_size the_constant = floor_size (a the_constant) d (2 ^ 90) (up_size the_constant)
  cut_size (the_coefficient i) =
      let is : floor (a (the_coefficient i)) d ≡ cut_row (the_coefficient i) =
      ap (λ z. floor z d) (h.exact i) ∙ floor_multiple (cut_row (the_coefficient i)) d h.positive in
      subst (λ z. unsigned_abs z ≤ 2 ^ 90) is
      (floor_size (a (the_coefficient i)) d (2 ^ 90) (up_size (the_coefficient i)))

  abbrev whole : List Form
  whole = rows ++ added.row ∷ []

  whole_over : AreOver vars whole
  whole_over = over_more vars rows added.row over added.over

  whole_within : All (IsWithin (2 ^ 90)) whole
  whole_within =
      All-append (IsWithin (2 ^ 90)) rows (added.row ∷ []) within
      (All-cons (IsWithin (2 ^ 90)) added.row []
      (IsWithin-from_parts (2 ^ 90) added.row
      (λ part. subst (λ z. unsigned_abs z ≤ 2 ^ 90) (sym (added.are part)) (cut_size part))) (All-nil _))

  last_row : (part : Part) → row_part whole part (length rows) ≡ cut_row part
  last_row part =
      let e : length rows ≡ length rows + 0 = omega arith in
      ap (λ k. option_map_or (part_of part) (slice_get whole k) (pos 0)) e
      ∙ ap (λ o. option_map_or (part_of part) o (pos 0)) (slice_get-append_right rows (added.row ∷ []) 0) ∙ added.are part

  down_row : (part : Part) → row_part whole part down ≡ b part
  down_row part =
      ap (λ o. option_map_or (part_of part) o (pos 0)) (slice_get-append_left rows (added.row ∷ []) down h.down_in) ∙ h.below part

  abbrev ends : List Term
  ends = record { row = length rows; times = pos d } ∷ once_row down ∷ []

  abbrev total : RowParts
  total part = (cut_row part *ℤ pos d) +ℤ b part

  ends_sum : (part : Part) → weighted_sum (row_part whole part) ends ≡ total part
  ends_sum part =
      let first : row_part whole part (length rows) *ℤ pos d ≡ cut_row part *ℤ pos d =
      ap (λ z. z *ℤ pos d) (last_row part) in
      omega (arith, ints, first, down_row part)

  count_whole : length whole ≡ length rows + 1
  count_whole = length-append rows (added.row ∷ [])

  shown : Shows vars whole ends total
  shown = record {
    name_rows = All-cons (λ (t : Term). t.row < length whole) (record { row = length rows; times = pos d })
        (once_row down ∷ []) (omega (arith, count_whole)) (All-cons (λ (t : Term). t.row < length whole)
        (once_row down) [] (omega (arith, count_whole, h.down_in)) (All-nil _));
    not_negative = All-cons (λ (t : Term). pos 0 ≤ℤ t.times) (record { row = length rows; times = pos d })
        (once_row down ∷ []) (omega (arith, ints)) (All-cons (λ (t : Term). pos 0 ≤ℤ t.times) (once_row down) []
        (omega (arith, ints)) (All-nil _));
    at_most = omega (arith, ints, ends_sum the_constant);
    same = λ i l. ends_sum (the_coefficient i);
  }

  pub rounded_refutes : Refutes vars rows (rounded_proof (pos d) up down (length rows))
  rounded_refutes =
      cuts_refute vars rows (cut ∷ []) (added.row ∷ []) (Sum ends) (added.adds, tt)
      (shown_refutes vars (2 ^ 90) whole ends total whole_over whole_within (omega (arith, h.small)) shown
      (record {
        negative = omega (arith, ints, h.less);
        no_variable = λ i l. omega (arith, ints, h.exact i, h.opposite i);
      }))
