-- What a Cut adds it adds over more variables, where all rows are widened.
--
-- A sum of rows is a row that is made from them, and a row that can be made can be made over more variables, and is then
-- the same row widened: so the sum of widened rows is the widened sum, and no step overflows where none did before. The new
-- coefficients are 0, which each divisor divides, with the quotient 0.
use Rattle.std.proofs.Common.{◌≡◌, ◌+◌, ◌-◌, ◌%◌, ◌≤◌, ◌<◌, ℕ, zero, suc, ℤ, pos, ◌*ℤ◌, List, [], ◌∷◌, ◌++◌, length}
use Rattle.std.proofs.Common.{map, replicate, cond, refl, sym, ap, ◌∙◌, arith}
use Rattle.std.specs.Prelude.{Option, Some, None, All, slice_get, unsigned_abs}
use Rattle.std.specs.Option.{option_and_then, option_map, option_map_or}
use Rattle.std.proofs.lemmas.Bool.{le-leb}
use Rattle.std.proofs.lemmas.Int.{ints}
use Rattle.std.proofs.lemmas.List.{length-map, map-append}
use Rattle.std.proofs.lemmas.List.Elements.{All-append, All-head, All-replicate, All-tail, All-weaker}
use Rattle.std.proofs.lemmas.Option.{option_and_then_some, same_Some, slice_get-map}
use Rattle.affine_core.specs.declared.form.Form.{Form}
use Rattle.affine_core.specs.Affine.{constant_form, form_product, form_sum, widened_form}
use Rattle.affine_core.specs.Within.{form_in_128_bits}
use Rattle.affine_core.proofs.Integers.{unsigned_abs-positive}
use Rattle.tree_graphs.proofs.MadeRows.{taken_made, widened_same}
use Rattle.int_polyhedra.specs.declared.system.Term.{Term}
use Rattle.int_polyhedra.specs.Rules.{IsSumOf}
use Rattle.int_polyhedra.specs.Steps.{floor, quotient_row, sum_onto}
use Rattle.int_polyhedra.specs.Systems.{AreOver}
use Rattle.int_polyhedra.proofs.Variables.{over_at}
use Rattle.plain_data.proofs.Lists.{slice_get-some}
use Rattle.tree_sums.proofs.RowParts.{made_widens}
use Rattle.source_tree.specs.Rows.{RowExpr, Plus, Take, Times, row_form, row_forms}
use Rattle.tree_cuts.specs.Cuts.{AddRows, AddsRow}
use Rattle.tree_cuts.specs.declared.cuts.Cut.{Cut}
use Rattle.tree_cuts.proofs.Floors.{divides_multiple, floor_multiple}

-- A sum as a row that is made

abbrev no_form : Form
no_form = record { constant = pos 0; coefs = [] }

abbrev row_or : Option Form → Form
row_or found = option_map_or (λ (f : Form). f) found no_form

abbrev with_term : List Form → RowExpr → Term → RowExpr
with_term rows e t = Plus e (Times t.times (Take (row_or (slice_get rows t.row))))

abbrev sum_expr : List Form → RowExpr → List Term → RowExpr
sum_expr rows e [] = e
sum_expr rows e (t ∷ ts) = sum_expr rows (with_term rows e t) ts

-- over so many variables each of the rows is made as another
module _ (vars : ℕ) (g : Form → Form) (rows : List Form)
    (taken : (i : ℕ) (row : Form) → slice_get rows i ≡ Some row → row_form vars (Take row) ≡ Some (g row)) where
  abbrev others : List Form
  others = map g rows

  abbrev onto : List Term → Form → Option Form
  onto ts sum = sum_onto others sum ts

  none_added : (o : Option Form) → o ≡ option_and_then (onto []) o
  none_added None = refl
  none_added (Some sum) = refl

  one_added : (ts : List Term) (t : Term) (row : Form) → slice_get rows t.row ≡ Some row → (o : Option Form)
      → option_and_then (onto ts) (option_and_then (λ left. option_and_then
      (λ right. form_in_128_bits (form_sum left right))
      (row_form vars (Times t.times (Take (row_or (slice_get rows t.row)))))) o)
      ≡ option_and_then (onto (t ∷ ts)) o
  one_added ts t row at None = refl
  one_added ts t row at (Some sum) =
      let made : row_form vars (Times t.times (Take (row_or (slice_get rows t.row))))
      ≡ form_in_128_bits (form_product t.times (g row)) =
      ap (λ o. row_form vars (Times t.times (Take (row_or o)))) at
      ∙ ap (option_and_then (λ form. form_in_128_bits (form_product t.times form))) (taken t.row row at) in
      let there : slice_get others t.row ≡ Some (g row) =
      slice_get-map g rows t.row ∙ ap (option_map g) at in
      ap (λ o. option_and_then (onto ts) (option_and_then (λ right. form_in_128_bits (form_sum sum right)) o)) made
      ∙ sym (ap (λ o. option_and_then (onto ts) (option_and_then (λ row. option_and_then
      (λ more. form_in_128_bits (form_sum sum more)) (form_in_128_bits (form_product t.times row))) o)) there)

  sum_made : (ts : List Term) (e : RowExpr) → All (λ t. t.row < length rows) ts
      → row_form vars (sum_expr rows e ts) ≡ option_and_then (onto ts) (row_form vars e)
  sum_made [] e inside = none_added (row_form vars e)
  sum_made (t ∷ ts) e inside =
      let found = slice_get-some rows t.row (All-head (λ (t : Term). t.row < length rows) t ts inside) in
      sum_made ts (with_term rows e t) (All-tail (λ (t : Term). t.row < length rows) t ts inside)
      ∙ one_added ts t found.0 found.1 (row_form vars e)

-- Over more variables

one_widens : (vars more : ℕ) (e : RowExpr) (row : Form) → vars ≤ more → row_form vars e ≡ Some row
    → row_form more e ≡ Some (widened_form more row)
one_widens vars more e row le is =
    let one : row_forms vars (e ∷ []) ≡ Some (row ∷ []) =
    ap (option_and_then (λ row. option_and_then (λ rest. Some (row ∷ rest)) (Some []))) is in
    let wide : row_forms more (e ∷ []) ≡ Some (widened_form more row ∷ []) =
    made_widens vars more (e ∷ []) (row ∷ []) le one in
    option_and_then_some (λ row. option_and_then (λ rest. Some (row ∷ rest)) (Some [])) (row_form more e)
    (widened_form more row ∷ []) wide
    (λ found found_is end.
    (let same : found ∷ [] ≡ widened_form more row ∷ [] = same_Some (found ∷ []) (widened_form more row ∷ []) end in
    let here : found ≡ widened_form more row = cc in
    found_is ∙ ap Some here))

same_rows : (vars : ℕ) (rows : List Form) → AreOver vars rows → map (widened_form vars) rows ≡ rows
same_rows vars rows over = go rows (λ i row at. over_at vars rows i row over at) where
  go : (fs : List Form) → ((i : ℕ) (row : Form) → slice_get fs i ≡ Some row → length row.coefs ≡ vars)
      → map (widened_form vars) fs ≡ fs
  go [] h = refl
  go (f ∷ fs) h =
      ap (λ g. g ∷ map (widened_form vars) fs) (widened_same vars f (h 0 f refl))
      ∙ ap (λ gs. f ∷ gs) (go fs (λ i row at. h (suc i) row at))

widened_none : (vars : ℕ) → widened_form vars no_form ≡ constant_form vars (pos 0)
widened_none vars =
    let all : vars - 0 ≡ vars = omega arith in
    ap (λ n. record { constant = pos 0; coefs = replicate n (pos 0) }) all

none_taken : (vars : ℕ) → row_form vars (Take no_form) ≡ Some (constant_form vars (pos 0))
none_taken vars =
    ap (λ b. cond b (Some (widened_form vars no_form)) None) (le-leb 0 vars (omega arith)) ∙ ap Some (widened_none vars)

pub sum_wider : (vars more : ℕ) (rows : List Form) (ts : List Term) (sum : Form) → vars ≤ more → AreOver vars rows
    → IsSumOf vars rows ts sum → IsSumOf more (map (widened_form more) rows) ts (widened_form more sum)
sum_wider vars more rows ts sum le over s =
    let e : RowExpr = sum_expr rows (Take no_form) ts in
    let here : row_form vars e ≡ Some sum =
    sum_made vars (widened_form vars) rows (λ i row at.
    (let long : length row.coefs ≡ vars = over_at vars rows i row over at in
    taken_made vars row long ∙ ap Some (sym (widened_same vars row long)))) ts (Take no_form) s.name_rows
    ∙ ap (option_and_then (λ sum. sum_onto (map (widened_form vars) rows) sum ts)) (none_taken vars)
    ∙ ap (λ rows. sum_onto rows (constant_form vars (pos 0)) ts) (same_rows vars rows over) ∙ s.is_sum in
    let there : row_form more e ≡ sum_onto (map (widened_form more) rows) (constant_form more (pos 0)) ts =
    sum_made more (widened_form more) rows (λ i row at.
    one_widens vars more (Take row) row le (taken_made vars row (over_at vars rows i row over at))) ts
    (Take no_form) s.name_rows
    ∙ ap (option_and_then (λ sum. sum_onto (map (widened_form more) rows) sum ts)) (none_taken more) in
    record {
      name_rows = All-weaker (λ (t : Term). t.row < length rows)
          (λ (t : Term). t.row < length (map (widened_form more) rows))
          (λ t lt. omega (arith, lt, length-map rows (widened_form more))) ts s.name_rows;
      not_negative = s.not_negative;
      is_sum = sym there ∙ one_widens vars more e sum le here;
    }

-- Quotients

floor_zeros : (d n : ℕ) → 0 < d → map (λ c. floor c d) (replicate n (pos 0)) ≡ replicate n (pos 0)
floor_zeros d zero h = refl
floor_zeros d (suc n) h =
    let none : floor (pos 0 *ℤ pos d) d ≡ pos 0 = floor_multiple (pos 0) d h in
    let zero_is : pos 0 ≡ pos 0 *ℤ pos d = omega (arith, ints) in
    ap (λ z. z ∷ map (λ c. floor c d) (replicate n (pos 0))) (ap (λ z. floor z d) zero_is ∙ none)
    ∙ ap (λ zs. pos 0 ∷ zs) (floor_zeros d n h)

zero_divided : (d : ℕ) → 0 < d → unsigned_abs (pos 0) % d ≡ 0
zero_divided d h =
    let zero_is : pos 0 ≡ pos 0 *ℤ pos d = omega (arith, ints) in
    ap (λ z. unsigned_abs z % d) zero_is ∙ divides_multiple (pos 0) d h

quotient_wider : (more d : ℕ) (f : Form) → 0 < d
    → widened_form more (quotient_row d f) ≡ quotient_row d (widened_form more f)
quotient_wider more d f h =
    let cs : List ℤ = map (λ c. floor c d) f.coefs in
    let long : more - length cs ≡ more - length f.coefs = ap (λ n. more - n) (length-map f.coefs (λ c. floor c d)) in
    ap (λ cs. record { constant = floor f.constant d; coefs = cs })
    (ap (λ n. cs ++ replicate n (pos 0)) long
    ∙ ap (λ zs. cs ++ zs) (sym (floor_zeros d (more - length f.coefs) h))
    ∙ sym (map-append (λ c. floor c d) f.coefs (replicate (more - length f.coefs) (pos 0))))

adds_wider : (vars more : ℕ) (rows : List Form) (cut : Cut) (row : Form) → vars ≤ more → AreOver vars rows
    → AddsRow vars rows cut row → AddsRow more (map (widened_form more) rows) cut (widened_form more row)
adds_wider vars more rows cut row le over h =
    let d : ℕ = unsigned_abs cut.divisor in
    record {
      divisor = h.divisor;
      sum = widened_form more h.sum;
      is_sum = sum_wider vars more rows cut.terms h.sum le over h.is_sum;
      divisible = All-append (λ c. unsigned_abs c % d ≡ 0) h.sum.coefs
          (replicate (more - length h.sum.coefs) (pos 0)) h.divisible
          (All-replicate (λ c. unsigned_abs c % d ≡ 0) (more - length h.sum.coefs) (pos 0)
          (zero_divided d (unsigned_abs-positive cut.divisor h.divisor)));
      is = ap (widened_form more) h.is ∙ quotient_wider more d h.sum (unsigned_abs-positive cut.divisor h.divisor);
    }

pub add_wider : (vars more : ℕ) (rows : List Form) (cuts : List Cut) (facts : List Form) → vars ≤ more
    → AreOver vars rows → AddRows vars rows cuts facts
    → AddRows more (map (widened_form more) rows) cuts (map (widened_form more) facts)
add_wider vars more rows [] [] le over h = tt
add_wider vars more rows [] (row ∷ facts) le over h = absurd h
add_wider vars more rows (cut ∷ cuts) [] le over h = absurd h
add_wider vars more rows (cut ∷ cuts) (row ∷ facts) le over h =
    (adds_wider vars more rows cut row le over h.0, add_wider vars more rows cuts facts le over h.1)
