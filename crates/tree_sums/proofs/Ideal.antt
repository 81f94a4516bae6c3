-- The parts of a sum of rows.
--
-- A part of the sum so far is that of its start and the weighted sum of the rows' parts: each term adds its row's part
-- times its multiplier, and sums and multiples of forms go part by part. The rows have equally many coefficients, so
-- the sum has as many, and no coefficient is lost where forms are added. A sum that stays within 128 bits is the sum
-- without bounds, so it has the same parts.
use Rattle.std.proofs.Common.{◌≡◌, ◌<◌, ℕ, zero, suc, ℤ, pos, ◌+ℤ◌, ◌*ℤ◌, List, [], ◌∷◌, length, refl, sym}
use Rattle.std.proofs.Common.{ap, ◌∙◌, arith}
use Rattle.std.specs.Prelude.{Some, All, slice_get, slice_index_or}
use Rattle.std.specs.Option.{option_and_then, option_map_or}
use Rattle.std.proofs.lemmas.Int.{ints}
use Rattle.std.proofs.lemmas.List.Elements.{All-head, All-tail}
use Rattle.std.proofs.lemmas.Option.{option_and_then_some}
use Rattle.std.proofs.lemmas.List.{length-map}
use Rattle.affine_core.specs.declared.form.Form.{Form}
use Rattle.affine_core.specs.Affine.{form_product, form_sum, products, sums}
use Rattle.affine_core.specs.Within.{form_in_128_bits}
use Rattle.affine_core.proofs.Linear.{form_in_128_bits_is, length-sums}
use Rattle.int_polyhedra.specs.declared.system.Term.{Term}
use Rattle.int_polyhedra.specs.Steps.{sum_onto, sum_with}
use Rattle.int_polyhedra.specs.Systems.{AreOver}
use Rattle.int_polyhedra.proofs.Variables.{over_at}
use Rattle.plain_data.proofs.Lists.{slice_get-some}
use Rattle.tree_sums.specs.Parts.{Part, the_constant, the_coefficient, part_of, row_part, weighted_sum}
use Rattle.tree_sums.proofs.Bound.{ideal}

products_part : (by : ℤ) (cs : List ℤ) (i : ℕ) → slice_index_or (products by cs) i (pos 0)
    ≡ slice_index_or cs i (pos 0) *ℤ by
products_part by [] i = omega (arith, ints)
products_part by (c ∷ cs) zero = refl
products_part by (c ∷ cs) (suc i) = products_part by cs i

sums_part : (xs ys : List ℤ) (i : ℕ) → length xs ≡ length ys → slice_index_or (sums xs ys) i (pos 0)
    ≡ slice_index_or xs i (pos 0) +ℤ slice_index_or ys i (pos 0)
sums_part [] [] i e = omega (arith, ints)
sums_part [] (y ∷ ys) i e = absurd (omega arith)
sums_part (x ∷ xs) [] i e = absurd (omega arith)
sums_part (x ∷ xs) (y ∷ ys) zero e = refl
sums_part (x ∷ xs) (y ∷ ys) (suc i) e = sums_part xs ys i (omega (arith, e))

pub product_part : (part : Part) (by : ℤ) (f : Form) → part_of part (form_product by f) ≡ part_of part f *ℤ by
product_part the_constant by f = refl
product_part (the_coefficient i) by f = products_part by f.coefs i

pub sum_part : (part : Part) (f g : Form) → length f.coefs ≡ length g.coefs → part_of part (form_sum f g)
    ≡ part_of part f +ℤ part_of part g
sum_part the_constant f g e = refl
sum_part (the_coefficient i) f g e = sums_part f.coefs g.coefs i e

-- the sum exists, has the right number of variables, and its parts are the weighted sums
pub record IsSummed (vars : ℕ) (rows : List Form) (sum : Form) (ts : List Term) (f : Form) : Type 0 where
  pub is : ideal rows sum ts ≡ Some f
  pub over : length f.coefs ≡ vars
  pub parts : (part : Part) → part_of part f ≡ part_of part sum +ℤ weighted_sum (row_part rows part) ts

pub summed : (vars : ℕ) (rows : List Form) (sum : Form) (ts : List Term) → AreOver vars rows → length sum.coefs ≡ vars
    → All (λ t. t.row < length rows) ts
    → (f : Form) × IsSummed vars rows sum ts f
summed vars rows sum [] over h range = (sum, record { is = refl; over = h; parts = λ part. omega (arith, ints) })
summed vars rows sum (t ∷ ts) over h range =
    let r = slice_get-some rows t.row (All-head (λ (t : Term). t.row < length rows) t ts range) in
    let row : Form = r.0 in
    let wide : length row.coefs ≡ vars = over_at vars rows t.row row over r.1 in
    let more : length (form_product t.times row).coefs ≡ vars = length-map row.coefs (λ c. c *ℤ t.times) ∙ wide in
    let next : Form = form_sum sum (form_product t.times row) in
    let over_next : length next.coefs ≡ vars = length-sums sum.coefs (form_product t.times row).coefs (h ∙ sym more) ∙ h
    in
    let rest = summed vars rows next ts over over_next (All-tail (λ (t : Term). t.row < length rows) t ts range) in (
      rest.0,
      record {
        is = ap (option_and_then (λ row. ideal rows (form_sum sum (form_product t.times row)) ts)) r.1 ∙ rest.1.is;
        over = rest.1.over;
        parts = λ part.
            (let here : row_part rows part t.row ≡ part_of part row =
            ap (λ o. option_map_or (part_of part) o (pos 0)) r.1 in
            let there : row_part rows part t.row *ℤ t.times ≡ part_of part row *ℤ t.times = ap (λ z. z *ℤ t.times) here
            in
            omega (
              arith,
              ints,
              rest.1.parts part,
              sum_part part sum (form_product t.times row) (h ∙ sym more),
              product_part part t.times row,
              there,
            ));
      },
    )

-- a sum within 128 bits is the sum without bounds
pub within_is_ideal : (rows : List Form) (sum : Form) (ts : List Term) (f : Form) → sum_onto rows sum ts ≡ Some f
    → ideal rows sum ts ≡ Some f
within_is_ideal rows sum [] f e = e
within_is_ideal rows sum (t ∷ ts) f e =
    option_and_then_some (λ next. sum_onto rows next ts) (sum_with rows sum t) f e
    (λ next is e'. option_and_then_some (λ row. option_and_then (λ more. form_in_128_bits (form_sum sum more))
    (form_in_128_bits (form_product t.times row))) (slice_get rows t.row) next is
    (λ row at e''. option_and_then_some (λ more. form_in_128_bits (form_sum sum more))
    (form_in_128_bits (form_product t.times row)) next e''
    (λ more fits e3.
    let m : form_product t.times row ≡ more = form_in_128_bits_is (form_product t.times row) more fits in
    let n : form_sum sum more ≡ next = form_in_128_bits_is (form_sum sum more) next e3 in
    ap (λ o. option_and_then (λ row. ideal rows (form_sum sum (form_product t.times row)) ts) o) at
    ∙ ap (λ g. ideal rows (form_sum sum g) ts) m ∙ ap (λ g. ideal rows g ts) n ∙ within_is_ideal rows next ts f e')))
