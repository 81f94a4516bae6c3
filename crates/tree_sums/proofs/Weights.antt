-- The weights of terms.
--
-- The weight of terms is the sum of the amounts of their multipliers, so it adds up where terms are put together, and
-- grows by a factor at most where they are multiplied. Carried terms weigh at most the weight of the terms times the
-- most that stands in a row's place, by induction over the terms.
use Rattle.std.proofs.Common.{◌≡◌, ℕ, ◌+◌, ◌*◌, ◌≤◌, ℤ, pos, negsuc, ◌*ℤ◌, List, [], ◌∷◌, ◌++◌, arith, add-mul, mul-add}
use Rattle.std.specs.Int.RustNames.{unsigned_abs}
use Rattle.std.proofs.lemmas.Int.{ints}
use Rattle.std.proofs.Math.Nat.{mul-le-mul_left}
use Rattle.int_polyhedra.specs.declared.system.Term.{Term}
use Rattle.tree_sums.specs.Parts.{term_products, weight}
use Rattle.tree_sums.specs.Carried.{carried_terms}

pub abs_product : (a b : ℤ) → unsigned_abs (a *ℤ b) ≤ unsigned_abs b * unsigned_abs a
abs_product (pos m) (pos n) = omega (arith, ints)
abs_product (pos m) (negsuc n) = omega (arith, ints)
abs_product (negsuc m) (pos n) = omega (arith, ints)
abs_product (negsuc m) (negsuc n) = omega (arith, ints)

pub weight_sum : (ts us : List Term) → weight (ts ++ us) ≡ weight ts + weight us
weight_sum [] us = omega arith
weight_sum (t ∷ ts) us = omega (arith, weight_sum ts us)

pub weight_multiple : (by : ℤ) (ts : List Term) → weight (term_products by ts) ≤ unsigned_abs by * weight ts
weight_multiple by [] = omega arith
weight_multiple by (t ∷ ts) =
    omega (
      arith,
      weight_multiple by ts,
      abs_product t.times by,
      mul-add (unsigned_abs by) (unsigned_abs t.times) (weight ts),
    )

pub weight_carry : (most : ℕ) (in_place : ℕ → List Term) (ts : List Term) → ((k : ℕ) → weight (in_place k) ≤ most)
    → weight (carried_terms in_place ts) ≤ weight ts * most
weight_carry most in_place [] h = omega arith
weight_carry most in_place (t ∷ ts) h = omega (
  arith,
  weight_sum (term_products t.times (in_place t.row)) (carried_terms in_place ts),
  weight_multiple t.times (in_place t.row),
  mul-le-mul_left (unsigned_abs t.times) (h t.row),
  weight_carry most in_place ts h,
  add-mul (unsigned_abs t.times) (weight ts) most,
)
