-- Terms that a proof of an entailment confirms.
--
-- The terms refute the rows with the negation of a row f behind them, taken once: their weighted sum and the negation
-- are a negative number without variables. The negation is -f - 1, so the weighted sum has f's coefficients, and its
-- constant is f's at most. Taken twice, the last row would tell something of the double of f alone.
use Rattle.std.proofs.Common.{◌≡◌, ◌<◌, ℕ, pos, negsuc, ◌+ℤ◌, ◌*ℤ◌, List, [], ◌∷◌, ◌++◌, length, refl, sym, ap, ◌∙◌}
use Rattle.std.proofs.Common.{arith}
use Rattle.std.specs.Prelude.{Some, All, slice_get}
use Rattle.std.specs.Option.{option_map_or}
use Rattle.std.proofs.lemmas.Int.{ints}
use Rattle.std.proofs.lemmas.Option.{option_and_then_some}
use Rattle.std.proofs.lemmas.List.{length-map}
use Rattle.affine_core.specs.declared.form.Form.{Form}
use Rattle.affine_core.specs.Affine.{form_product, form_sum, constant_form}
use Rattle.affine_core.specs.Within.{form_in_128_bits}
use Rattle.affine_core.proofs.Linear.{form_in_128_bits_is}
use Rattle.int_polyhedra.specs.declared.system.Term.{Term}
use Rattle.int_polyhedra.specs.Steps.{negation_of}
use Rattle.int_polyhedra.proofs.Variables.{length_zeros, negation_over, over_more}
use Rattle.plain_data.proofs.Lists.{get_or-replicate_same}
use Rattle.tree_sums.specs.Parts.{Part, the_constant, the_coefficient, part_of, row_part, weighted_sum}
use Rattle.tree_sums.specs.Shown.{with_last}
use Rattle.tree_sums.proofs.Laws.{Confirms}
use Rattle.tree_sums.proofs.SumAlgebra.{weighted_sum_append, weighted_sum_behind}
use Rattle.tree_sums.proofs.Ideal.{product_part, sum_part}
use Rattle.tree_sums.proofs.NegativeSums.{refuting}

get_last : (rows : List Form) (row : Form) → slice_get (rows ++ row ∷ []) (length rows) ≡ Some row
get_last [] row = refl
get_last (r ∷ rows) row = get_last rows row

minus_one : (vars : ℕ) (i : ℕ) → part_of (the_coefficient i) (constant_form vars (negsuc 0)) ≡ pos 0
minus_one vars i = get_or-replicate_same vars i (pos 0)

-- the parts of the negation
negation_part : (f other : Form) (part : Part) → negation_of f ≡ Some other
    → part_of part other ≡ (part_of part f *ℤ negsuc 0) +ℤ part_of part (constant_form (length f.coefs) (negsuc 0))
negation_part f other part e =
    option_and_then_some (λ minus. form_in_128_bits (form_sum minus (constant_form (length f.coefs) (negsuc 0))))
    (form_in_128_bits (form_product (negsuc 0) f)) other e
    (λ minus fits e'.
    let m : form_product (negsuc 0) f ≡ minus = form_in_128_bits_is (form_product (negsuc 0) f) minus fits in
    let n : form_sum minus (constant_form (length f.coefs) (negsuc 0)) ≡ other =
    form_in_128_bits_is (form_sum minus (constant_form (length f.coefs) (negsuc 0))) other e' in
    let wide : length minus.coefs ≡ length f.coefs = ap (λ (g : Form). length g.coefs) (sym m)
    ∙ length-map f.coefs (λ c. c *ℤ negsuc 0) in
    ap (part_of part) (sym n)
    ∙ sum_part part minus (constant_form (length f.coefs) (negsuc 0)) (wide ∙ sym (length_zeros (length f.coefs)))
    ∙ ap (λ z. z +ℤ part_of part (constant_form (length f.coefs) (negsuc 0)))
    (ap (part_of part) (sym m) ∙ product_part part (negsuc 0) f))

-- the last row once, beside terms of the rows before it
last_part : (rows : List Form) (other : Form) (ts : List Term) (part : Part) → All (λ t. t.row < length rows) ts
    → weighted_sum (row_part (rows ++ other ∷ []) part) (with_last rows ts)
    ≡ weighted_sum (row_part rows part) ts +ℤ part_of part other
last_part rows other ts part range =
    let last : row_part (rows ++ other ∷ []) part (length rows) ≡ part_of part other =
    ap (λ o. option_map_or (part_of part) o (pos 0)) (get_last rows other) in
    let split = weighted_sum_append (row_part (rows ++ other ∷ []) part) ts
    (record { row = length rows; times = pos 1 } ∷ []) in
    let front = weighted_sum_behind rows (other ∷ []) part ts range in
    omega (arith, ints, split, front, last)

pub confirms : Confirms
confirms vars rows ts f over wide range above proved =
    let other : Form = proved.0 in
    let is : negation_of f ≡ Some other = proved.1 in
    let other_wide : length other.coefs ≡ vars = negation_over f other (sym is) ∙ wide in
    let r = refuting vars (rows ++ other ∷ []) (with_last rows ts) (over_more vars rows other over other_wide) proved.2
    in
    record {
      name_rows = range;
      not_negative = above;
      at_most = omega
          (arith, ints, r.1.negative, last_part rows other ts the_constant range, negation_part f other the_constant is);
      same = λ i l. omega (
        arith,
        ints,
        r.1.no_variable i l,
        last_part rows other ts (the_coefficient i) range,
        negation_part f other (the_coefficient i) is,
        minus_one (length f.coefs) i,
      );
    }
