-- What sums show combines, and is carried to other rows.
--
-- Part by part a sum of terms is a number, the weighted sum of the rows' parts, and of terms put together or
-- multiplied it is the sum or the multiple, by induction over the terms. So what is shown combines. To carry terms,
-- each is replaced by a multiple of what shows its row, and all of these add up to what the terms show. No multiplier
-- is negative, so rows are never subtracted.
use Rattle.std.proofs.Common.{◌≡◌, ◌<◌, ℕ, zero, suc, ℤ, pos, ◌+ℤ◌, ◌*ℤ◌, ◌≤ℤ◌, List, [], ◌∷◌, ◌++◌, length, refl}
use Rattle.std.proofs.Common.{ap, ◌∙◌, arith}
use Rattle.std.specs.Prelude.{All}
use Rattle.std.specs.Option.{option_map_or}
use Rattle.std.proofs.lemmas.Int.{ints}
use Rattle.std.proofs.lemmas.List.Elements.{All-nil, All-cons, All-head, All-tail, All-append, All-map, All-weaker}
use Rattle.affine_core.proofs.Ring.{times_not_negative, sum_times, times_assoc, times_at_most}
use Rattle.affine_core.specs.declared.form.Form.{Form}
use Rattle.int_polyhedra.specs.declared.system.Term.{Term}
use Rattle.plain_data.proofs.Lists.{slice_get-append_left}
use Rattle.tree_sums.specs.Parts.{Part, the_constant, the_coefficient, part_of, row_part, term_products, weighted_sum}
use Rattle.tree_sums.specs.Shown.{RowParts, Shows}
use Rattle.tree_sums.specs.Carried.{carried_terms}
use Rattle.tree_sums.proofs.Laws.{Combines, Carries}

pub weighted_sum_append : (number : ℕ → ℤ) (ts us : List Term) → weighted_sum number (ts ++ us)
    ≡ weighted_sum number ts +ℤ weighted_sum number us
weighted_sum_append number [] us = omega (arith, ints)
weighted_sum_append number (t ∷ ts) us = omega (arith, ints, weighted_sum_append number ts us)

pub weighted_sum_products : (number : ℕ → ℤ) (by : ℤ) (ts : List Term) → weighted_sum number (term_products by ts)
    ≡ weighted_sum number ts *ℤ by
weighted_sum_products number by [] = omega (arith, ints)
weighted_sum_products number by (t ∷ ts) =
    omega (
      arith,
      ints,
      weighted_sum_products number by ts,
      times_assoc (number t.row) t.times by,
      sum_times (number t.row *ℤ t.times) (weighted_sum number ts) by,
    )

-- a row that is there, with more rows behind
pub weighted_sum_behind : (rows more : List Form) (part : Part) (ts : List Term) → All (λ t. t.row < length rows) ts
    → weighted_sum (row_part (rows ++ more) part) ts ≡ weighted_sum (row_part rows part) ts
weighted_sum_behind rows more part [] h = refl
weighted_sum_behind rows more part (t ∷ ts) h =
    let lt : t.row < length rows = All-head (λ t. t.row < length rows) t ts h in
    let here : row_part (rows ++ more) part t.row ≡ row_part rows part t.row =
    ap (λ o. option_map_or (part_of part) o (pos 0)) (slice_get-append_left rows more t.row lt) in
    ap (λ z. (z *ℤ t.times) +ℤ weighted_sum (row_part (rows ++ more) part) ts) here
    ∙ ap (λ z. (row_part rows part t.row *ℤ t.times) +ℤ z)
    (weighted_sum_behind rows more part ts (All-tail (λ t. t.row < length rows) t ts h))

length_behind : (rows more : List Form) (k : ℕ) → k < length rows → k < length (rows ++ more)
length_behind [] more k h = absurd (omega arith)
length_behind (row ∷ rows) more zero h = omega arith
length_behind (row ∷ rows) more (suc k) h = omega (arith, length_behind rows more k (omega (arith, h)))

once : (z : ℤ) → (z *ℤ pos 1) +ℤ pos 0 ≡ z
once z = omega (arith, ints)

module _ (vars : ℕ) (rows : List Form) where
  own : (k : ℕ) → k < length rows
      → Shows vars rows (record { row = k; times = pos 1 } ∷ []) (λ part. row_part rows part k)
  own k h = record {
    name_rows = All-cons (λ (t : Term). t.row < length rows) (record { row = k; times = pos 1 }) [] h (All-nil _);
    not_negative = All-cons (λ (t : Term). pos 0 ≤ℤ t.times) (record { row = k; times = pos 1 }) []
        (omega (arith, ints)) (All-nil _);
    at_most = omega (arith, ints, once (row_part rows the_constant k));
    same = λ i l. once (row_part rows (the_coefficient i) k);
  }

  behind : (more : List Form) (ts : List Term) (a : RowParts) → Shows vars rows ts a → Shows vars (rows ++ more) ts a
  behind more ts a s = record {
    name_rows = All-weaker (λ (t : Term). t.row < length rows) (λ (t : Term). t.row < length (rows ++ more))
        (λ t. length_behind rows more t.row) ts s.name_rows;
    not_negative = s.not_negative;
    at_most = omega (arith, ints, weighted_sum_behind rows more the_constant ts s.name_rows, s.at_most);
    same = λ i l. weighted_sum_behind rows more (the_coefficient i) ts s.name_rows ∙ s.same i l;
  }

  weaker : (ts : List Term) (a b : RowParts) → Shows vars rows ts a → a the_constant ≤ℤ b the_constant
      → ((i : ℕ) → i < vars → a (the_coefficient i) ≡ b (the_coefficient i)) → Shows vars rows ts b
  weaker ts a b s low e = record {
    name_rows = s.name_rows;
    not_negative = s.not_negative;
    at_most = omega (arith, ints, s.at_most, low);
    same = λ i l. s.same i l ∙ e i l;
  }

  pub sum : (ts us : List Term) (a b : RowParts) → Shows vars rows ts a → Shows vars rows us b
      → Shows vars rows (ts ++ us) (λ part. a part +ℤ b part)
  sum ts us a b s r = record {
    name_rows = All-append (λ (t : Term). t.row < length rows) ts us s.name_rows r.name_rows;
    not_negative = All-append (λ (t : Term). pos 0 ≤ℤ t.times) ts us s.not_negative r.not_negative;
    at_most = omega (arith, ints, weighted_sum_append (row_part rows the_constant) ts us, s.at_most, r.at_most);
    same = λ i l. omega
        (arith, ints, weighted_sum_append (row_part rows (the_coefficient i)) ts us, s.same i l, r.same i l);
  }

  pub multiple : (by : ℤ) (ts : List Term) (a : RowParts) → pos 0 ≤ℤ by → Shows vars rows ts a
      → Shows vars rows (term_products by ts) (λ part. a part *ℤ by)
  multiple by ts a h s = record {
    name_rows = All-map (λ (t : Term). t.row < length rows)
        (λ (t : Term). record { row = t.row; times = t.times *ℤ by }) ts s.name_rows;
    not_negative =
        All-map (λ (t : Term). pos 0 ≤ℤ t.times) (λ (t : Term). record { row = t.row; times = t.times *ℤ by }) ts
        (All-weaker (λ (t : Term). pos 0 ≤ℤ t.times) (λ (t : Term). pos 0 ≤ℤ (t.times *ℤ by))
        (λ t k. times_not_negative t.times by k h) ts s.not_negative);
    at_most = omega (
      arith,
      ints,
      weighted_sum_products (row_part rows the_constant) by ts,
      times_at_most (weighted_sum (row_part rows the_constant) ts) (a the_constant) by s.at_most h,
    );
    same = λ i l. weighted_sum_products (row_part rows (the_coefficient i)) by ts ∙ ap (λ z. z *ℤ by) (s.same i l);
  }

  pub combines : Combines vars rows
  combines = record { own = own; behind = behind; weaker = weaker; sum = sum; multiple = multiple }

-- carrying: term by term, a multiple of what stands in its place
carried_all : (vars : ℕ) (rows other : List Form) (in_place : ℕ → List Term) (ts : List Term)
    → ((k : ℕ) → k < length rows → Shows vars other (in_place k) (λ part. row_part rows part k))
    → All (λ t. t.row < length rows) ts → All (λ t. pos 0 ≤ℤ t.times) ts
    → Shows vars other (carried_terms in_place ts) (λ part. weighted_sum (row_part rows part) ts)
carried_all vars rows other in_place [] each within above = record {
  name_rows = All-nil _;
  not_negative = All-nil _;
  at_most = omega (arith, ints);
  same = λ i l. refl;
}
carried_all vars rows other in_place (t ∷ ts) each within above =
    sum vars other (term_products t.times (in_place t.row)) (carried_terms in_place ts)
    (λ part. row_part rows part t.row *ℤ t.times) (λ part. weighted_sum (row_part rows part) ts)
    (multiple vars other t.times (in_place t.row) (λ part. row_part rows part t.row)
    (All-head (λ (t : Term). pos 0 ≤ℤ t.times) t ts above)
    (each t.row (All-head (λ (t : Term). t.row < length rows) t ts within)))
    (carried_all vars rows other in_place ts each (All-tail (λ (t : Term). t.row < length rows) t ts within)
    (All-tail (λ (t : Term). pos 0 ≤ℤ t.times) t ts above))

pub carries : Carries
carries vars rows other in_place ts a each s =
    let c : Shows vars other (carried_terms in_place ts) (λ part. weighted_sum (row_part rows part) ts) =
    carried_all vars rows other in_place ts each s.name_rows s.not_negative in
    weaker vars other (carried_terms in_place ts) (λ part. weighted_sum (row_part rows part) ts) a c s.at_most s.same
