-- The rows that Cuts of one writer's rows add, at any place.
--
-- A domain row whose coefficients the divisor divides comes to the row of the quotients, since the terms at the place
-- are that many times the terms of the quotients and come through the rounding. A subscript with a stride and a test of
-- divisibility come to the loop of the subscript and the quotient. The same holds of these rows' opposites, less 1, and
-- of the rows that two subscripts differ. Rows with equal parts are equal.
use Rattle.std.proofs.Common.{◌≡◌, ◌+◌, ◌*◌, ◌%◌, ◌^◌, ◌<◌, ℕ, suc, ℤ, pos, negsuc, ◌+ℤ◌, ◌-ℤ◌, ◌*ℤ◌, ◌≤ℤ◌, List}
use Rattle.std.proofs.Common.{[], ◌∷◌, length, map, slice_index_or, refl, sym, ap, ◌∙◌, subst, arith}
use Rattle.std.specs.Prelude.{All, unsigned_abs}
use Rattle.std.proofs.lemmas.Int.{ints}
use Rattle.std.proofs.Math.IntN.{+ℤ_comm}
use Rattle.std.proofs.lemmas.List.Elements.{All-nil, All-cons, All-head, All-tail}
use Rattle.affine_core.proofs.Ring.{sum_times, times_assoc, times_swap, difference_times}
use Rattle.affine_core.specs.declared.form.Form.{Form}
use Rattle.int_polyhedra.specs.declared.system.Term.{Term}
use Rattle.int_polyhedra.specs.Steps.{floor, quotient_row}
use Rattle.int_polyhedra.specs.Systems.{AreOver}
use Rattle.int_polyhedra.proofs.Floor.{floor_exact}
use Rattle.tree_sums.specs.Made.{parts_of}
use Rattle.tree_sums.specs.Parts.{Part, the_constant, the_coefficient, part_of, row_part, weight, weighted_sum, IsWithin}
use Rattle.tree_sums.specs.Shown.{RowParts}
use Rattle.source_tree.specs.Places.{at_place, plus_terms}
use Rattle.source_tree.specs.Rows.{RowExpr, Take, Plus, Times, below_zero, number}
use Rattle.tree_cuts.specs.Cuts.{AddsRow}
use Rattle.tree_cuts.proofs.CutRows.{cut_adds, IsAdded, IsMultipleOf}
use Rattle.tree_cuts.proofs.Floors.{floor_opposite, floor_shifted}
use Rattle.tree_cuts.proofs.Indivisible.{number_part, once_row, weighted_sum-once, weighted_sum-once_rows}
use Rattle.tree_cuts.proofs.Indivisible.{All-once_rows, once_rows-positive}

-- Equal rows

same_lists : (xs ys : List ℤ) → length xs ≡ length ys
    → ((i : ℕ) → slice_index_or xs i (pos 0) ≡ slice_index_or ys i (pos 0)) → xs ≡ ys
same_lists [] [] e h = refl
same_lists [] (y ∷ ys) e h = absurd (omega arith)
same_lists (x ∷ xs) [] e h = absurd (omega arith)
same_lists (x ∷ xs) (y ∷ ys) e h =
    ap (λ z. z ∷ xs) (h 0) ∙ ap (λ zs. y ∷ zs) (same_lists xs ys (omega (arith, e)) (λ i. h (suc i)))

pub same_forms : (f g : Form) → length f.coefs ≡ length g.coefs → ((part : Part) → part_of part f ≡ part_of part g)
    → f ≡ g
same_forms f g e h =
    ap (λ k. record { constant = k; coefs = f.coefs }) (h the_constant)
    ∙ ap (λ cs. record { constant = g.constant; coefs = cs })
    (same_lists f.coefs g.coefs e (λ i. h (the_coefficient i)))

-- the Cut adds this very row
pub added_is : (vars bound d : ℕ) (rows : List Form) (ts : List Term) (row : Form) → 0 < d → AreOver vars rows
    → All (IsWithin bound) rows → weight ts * bound < 2 ^ 127 → length row.coefs ≡ vars
    → IsMultipleOf rows d ts (λ part. part_of part row) → AddsRow vars rows (record { divisor = pos d; terms = ts }) row
added_is vars bound d rows ts row positive over within small long h =
    let a : IsAdded vars rows (record { divisor = pos d; terms = ts }) (λ part. part_of part row) =
    cut_adds vars bound d rows ts (λ part. part_of part row) positive over within small h in
    subst (AddsRow vars rows (record { divisor = pos d; terms = ts }))
    (same_forms a.row row (a.over ∙ sym long) a.are) a.adds

-- Rows of the quotients

-- what terms add at a place, where the divisor divides each coefficient: that many times what the quotients add
pub divided_terms : (d : ℕ) (a b : RowExpr) (cs : List ℤ) (place : List Form) (part : Part) → 0 < d
    → All (λ c. unsigned_abs c % d ≡ 0) cs
    → parts_of (plus_terms a cs place) part -ℤ parts_of a part
    ≡ (parts_of (plus_terms b (map (λ c. floor c d) cs) place) part -ℤ parts_of b part) *ℤ pos d
divided_terms d a b [] place part positive h = none (parts_of a part) (parts_of b part) where
  none : (x y : ℤ) → x -ℤ x ≡ (y -ℤ y) *ℤ pos d
  none x y = let zero_is : y -ℤ y ≡ pos 0 = omega (arith, ints) in
      let e : (y -ℤ y) *ℤ pos d ≡ pos 0 *ℤ pos d = ap (λ z. z *ℤ pos d) zero_is in omega (arith, ints, e)
divided_terms d a b (c ∷ cs) [] part positive h = none (parts_of a part) (parts_of b part) where
  none : (x y : ℤ) → x -ℤ x ≡ (y -ℤ y) *ℤ pos d
  none x y = let zero_is : y -ℤ y ≡ pos 0 = omega (arith, ints) in
      let e : (y -ℤ y) *ℤ pos d ≡ pos 0 *ℤ pos d = ap (λ z. z *ℤ pos d) zero_is in omega (arith, ints, e)
divided_terms d a b (c ∷ cs) (f ∷ place) part positive h =
    let q : ℤ = floor c d in
    let p : ℤ = part_of part f in
    let first : c ≡ q *ℤ pos d = floor_exact c d positive (All-head (λ c. unsigned_abs c % d ≡ 0) c cs h) in
    let next_a : RowExpr = Plus a (Times c (Take f)) in
    let next_b : RowExpr = Plus b (Times q (Take f)) in
    let rest = divided_terms d next_a next_b cs place part positive (All-tail (λ c. unsigned_abs c % d ≡ 0) c cs h) in
    let whole_a : ℤ = parts_of (plus_terms next_a cs place) part in
    let whole_b : ℤ = parts_of (plus_terms next_b (map (λ c. floor c d) cs) place) part in
    let term : p *ℤ c ≡ (p *ℤ q) *ℤ pos d = ap (λ c. p *ℤ c) first ∙ sym (times_one p q d) in
    joined whole_a whole_b (parts_of a part) (parts_of b part) (p *ℤ c) (p *ℤ q) rest term where
      times_one : (p q : ℤ) (d : ℕ) → (p *ℤ q) *ℤ pos d ≡ p *ℤ (q *ℤ pos d)
      times_one p q d = times_assoc p q (pos d)

      joined : (wa wb a b x y : ℤ) → wa -ℤ (a +ℤ x) ≡ (wb -ℤ (b +ℤ y)) *ℤ pos d → x ≡ y *ℤ pos d
          → wa -ℤ a ≡ (wb -ℤ b) *ℤ pos d
      joined wa wb a b x y rest term =
          let split : ((wb -ℤ (b +ℤ y)) +ℤ y) *ℤ pos d ≡ ((wb -ℤ (b +ℤ y)) *ℤ pos d) +ℤ (y *ℤ pos d) =
          sum_times (wb -ℤ (b +ℤ y)) y (pos d) in
          let same : (wb -ℤ (b +ℤ y)) +ℤ y ≡ wb -ℤ b = omega (arith, ints) in
          omega (arith, ints, rest, term, split, ap (λ z. z *ℤ pos d) same)

module _ (rows : List Form) (d k : ℕ) (form : Form) (place : List Form) (positive : 0 < d) (inside : k < length rows)
    (divisible : All (λ c. unsigned_abs c % d ≡ 0) form.coefs) where
  abbrev quotient : Form
  quotient = quotient_row d form

  abbrev more : RowParts
  more part = parts_of (at_place quotient place) part -ℤ number_part quotient.constant part

  terms : (part : Part) → parts_of (at_place form place) part -ℤ number_part form.constant part ≡ more part *ℤ pos d
  terms part = divided_terms d (number form.constant) (number quotient.constant) form.coefs place part positive divisible

  names : All (λ t. t.row < length rows) (once_row k ∷ [])
  names = All-cons (λ (t : Term). t.row < length rows) (once_row k) [] inside (All-nil _)

  above : All (λ t. pos 0 ≤ℤ t.times) (once_row k ∷ [])
  above = All-cons (λ (t : Term). pos 0 ≤ℤ t.times) (once_row k) [] (omega (arith, ints)) (All-nil _)

  -- a domain row at a place
  pub domain_multiple : ((part : Part) → row_part rows part k ≡ parts_of (at_place form place) part)
      → IsMultipleOf rows d (once_row k ∷ []) (parts_of (at_place quotient place))
  domain_multiple is = record {
    name_rows = names;
    not_negative = above;
    constant =
        (let sum : weighted_sum (row_part rows the_constant) (once_row k ∷ [])
        ≡ form.constant +ℤ (more the_constant *ℤ pos d) =
        omega (arith, ints, weighted_sum-once (row_part rows the_constant) k, is the_constant, terms the_constant) in
        ap (λ z. floor z d) sum ∙ floor_shifted form.constant (more the_constant) d positive
        ∙ back (floor form.constant d) (parts_of (at_place quotient place) the_constant));
    coefs = λ i.
        (let sum : weighted_sum (row_part rows (the_coefficient i)) (once_row k ∷ [])
        ≡ more (the_coefficient i) *ℤ pos d =
        omega (
          arith,
          ints,
          weighted_sum-once (row_part rows (the_coefficient i)) k,
          is (the_coefficient i),
          terms (the_coefficient i),
        ) in
        sum ∙ ap (λ z. z *ℤ pos d) (no_number (parts_of (at_place quotient place) (the_coefficient i))));
  } where
    back : (q w : ℤ) → q +ℤ (w -ℤ q) ≡ w
    back q w = omega (arith, ints)

    no_number : (w : ℤ) → w -ℤ pos 0 ≡ w
    no_number w = omega (arith, ints)

  -- its opposite, less 1
  pub outside_multiple : ((part : Part) → row_part rows part k ≡ parts_of (below_zero (at_place form place)) part)
      → IsMultipleOf rows d (once_row k ∷ []) (parts_of (below_zero (at_place quotient place)))
  outside_multiple is = record {
    name_rows = names;
    not_negative = above;
    constant =
        (let m : ℤ = more the_constant in
        let opposite : (m *ℤ negsuc 0) *ℤ pos d ≡ (m *ℤ pos d) *ℤ negsuc 0 = times_swap m (negsuc 0) (pos d) in
        let sum : weighted_sum (row_part rows the_constant) (once_row k ∷ [])
        ≡ ((form.constant *ℤ negsuc 0) +ℤ negsuc 0) +ℤ ((m *ℤ negsuc 0) *ℤ pos d) =
        omega (
          arith,
          ints,
          weighted_sum-once (row_part rows the_constant) k,
          is the_constant,
          terms the_constant,
          opposite,
        ) in
        ap (λ z. floor z d) sum
        ∙ floor_shifted ((form.constant *ℤ negsuc 0) +ℤ negsuc 0) (m *ℤ negsuc 0) d positive
        ∙ ap (λ z. z +ℤ (m *ℤ negsuc 0)) (floor_opposite form.constant d positive)
        ∙ back (floor form.constant d) (parts_of (at_place quotient place) the_constant));
    coefs = λ i.
        (let m : ℤ = more (the_coefficient i) in
        let opposite : (m *ℤ negsuc 0) *ℤ pos d ≡ (m *ℤ pos d) *ℤ negsuc 0 = times_swap m (negsuc 0) (pos d) in
        let sum : weighted_sum (row_part rows (the_coefficient i)) (once_row k ∷ [])
        ≡ (m *ℤ negsuc 0) *ℤ pos d =
        omega (
          arith,
          ints,
          weighted_sum-once (row_part rows (the_coefficient i)) k,
          is (the_coefficient i),
          terms (the_coefficient i),
          opposite,
        ) in
        sum ∙ ap (λ z. z *ℤ pos d) (no_number (parts_of (at_place quotient place) (the_coefficient i))));
  } where
    back : (q w : ℤ) → ((q *ℤ negsuc 0) +ℤ negsuc 0) +ℤ ((w -ℤ q) *ℤ negsuc 0) ≡ (w *ℤ negsuc 0) +ℤ negsuc 0
    back q w = omega (arith, ints)

    no_number : (w : ℤ) → (w -ℤ pos 0) *ℤ negsuc 0 ≡ (w *ℤ negsuc 0) +ℤ pos 0
    no_number w = omega (arith, ints)

-- The loop of a subscript and its quotient

pub record AreDividedRows (rows : List Form) (d at up down : ℕ) (f q v : RowParts) : Type 0 where
  pub positive : 0 < d
  pub at_in : at + 1 < length rows
  pub up_in : up < length rows
  pub down_in : down < length rows
  -- form - M q and M q - form
  pub low : (part : Part) → row_part rows part at ≡ f part +ℤ ((q part *ℤ pos d) *ℤ negsuc 0)
  pub high : (part : Part) → row_part rows part (at + 1) ≡ (q part *ℤ pos d) +ℤ (f part *ℤ negsuc 0)

-- rows M v - form and form - M v, each less a number
module _ (rows : List Form) (d at up down : ℕ) (f q v : RowParts) (h : AreDividedRows rows d at up down f q v)
    (less : ℤ) (less_is : floor less d ≡ less)
    (above : (part : Part) → row_part rows part up ≡ ((v part *ℤ pos d) -ℤ f part) +ℤ number_part less part)
    (below : (part : Part) → row_part rows part down ≡ (f part -ℤ (v part *ℤ pos d)) +ℤ number_part less part) where
  -- v - q, less the number
  pub above_multiple : IsMultipleOf rows d (once_row up ∷ once_row at ∷ [])
      (λ part. (v part -ℤ q part) +ℤ number_part less part)
  above_multiple =
      let sum : (part : Part) → weighted_sum (row_part rows part) (once_row up ∷ once_row at ∷ [])
      ≡ number_part less part +ℤ ((v part -ℤ q part) *ℤ pos d) =
      λ part. omega (
        arith,
        ints,
        weighted_sum-once_rows (row_part rows part) up at,
        above part,
        h.low part,
        difference_times (v part) (q part) (pos d),
      ) in
      record {
        name_rows = All-once_rows (length rows) up at h.up_in (omega (arith, h.at_in));
        not_negative = once_rows-positive up at;
        constant = ap (λ z. floor z d) (sum the_constant)
            ∙ floor_shifted less (v the_constant -ℤ q the_constant) d h.positive
            ∙ ap (λ z. z +ℤ (v the_constant -ℤ q the_constant)) less_is ∙ +ℤ_comm less (v the_constant -ℤ q the_constant);
        coefs = λ i. sum (the_coefficient i)
            ∙ none (v (the_coefficient i) -ℤ q (the_coefficient i));
      } where
        none : (z : ℤ) → pos 0 +ℤ (z *ℤ pos d) ≡ (z +ℤ pos 0) *ℤ pos d
        none z =
            let e : z +ℤ pos 0 ≡ z = omega (arith, ints) in
            omega (arith, ints, ap (λ z. z *ℤ pos d) e)

  -- q - v, less the number
  pub below_multiple : IsMultipleOf rows d (once_row down ∷ once_row (at + 1) ∷ [])
      (λ part. (q part -ℤ v part) +ℤ number_part less part)
  below_multiple =
      let sum : (part : Part) → weighted_sum (row_part rows part) (once_row down ∷ once_row (at + 1) ∷ [])
      ≡ number_part less part +ℤ ((q part -ℤ v part) *ℤ pos d) =
      λ part. omega (
        arith,
        ints,
        weighted_sum-once_rows (row_part rows part) down (at + 1),
        below part,
        h.high part,
        difference_times (q part) (v part) (pos d),
      ) in
      record {
        name_rows = All-once_rows (length rows) down (at + 1) h.down_in h.at_in;
        not_negative = once_rows-positive down (at + 1);
        constant = ap (λ z. floor z d) (sum the_constant)
            ∙ floor_shifted less (q the_constant -ℤ v the_constant) d h.positive
            ∙ ap (λ z. z +ℤ (q the_constant -ℤ v the_constant)) less_is ∙ +ℤ_comm less (q the_constant -ℤ v the_constant);
        coefs = λ i. sum (the_coefficient i)
            ∙ none (q (the_coefficient i) -ℤ v (the_coefficient i));
      } where
        none : (z : ℤ) → pos 0 +ℤ (z *ℤ pos d) ≡ (z +ℤ pos 0) *ℤ pos d
        none z =
            let e : z +ℤ pos 0 ≡ z = omega (arith, ints) in
            omega (arith, ints, ap (λ z. z *ℤ pos d) e)
