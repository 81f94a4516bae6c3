-- How far from 0 sums of products come.
--
-- The size of a product is the product of the sizes, and that of a sum at most the sum of them. So a sum that is no
-- further from 0 than its bound, and to which the product of a coefficient and a value within the limit is added, is no
-- further than the bound and the coefficient's size times the limit. Where the greatest sum of all coefficients is below
-- 2 ^ 127, so is each bound on the way, and the products and sums stay within 128 bits. Nothing is said of signs: terms
-- that cancel each other count as if they didn't.
use Rattle.std.proofs.Common.{◌≡◌, ◌+◌, ◌*◌, ◌^◌, ◌<◌, ◌≤◌, ℕ, ℤ, pos, negsuc, ◌+ℤ◌, ◌*ℤ◌, List, [], ◌∷◌, cond, refl, sym}
use Rattle.std.proofs.Common.{ap, ◌∙◌, subst, arith, lt-ltb}
use Rattle.std.specs.Prelude.{IfSome, None, Option, Some, SomeIff, sum_by, unsigned_abs}
use Rattle.std.specs.Option.{option_and_then}
use Rattle.std.proofs.Math.Nat.{mul-add, mul_comm, mul-le-mul_left}
use Rattle.std.proofs.lemmas.Int.{unsigned_abs-mul}
use Rattle.std.proofs.lemmas.List.Elements.{All-head, All-tail}
use Rattle.std.proofs.lemmas.List.Sums.{sum_by-cons}
use Rattle.affine_core.specs.declared.form.Form.{Form}
use Rattle.affine_core.specs.Within.{combined_in_128_bits, number_in_128_bits, sum_in_128_bits}
use Rattle.affine_core.proofs.Integers.{unsigned_abs-sum}
use Rattle.tree_bounds.specs.Bounds.{greatest_size, greatest_sum, AreWithin, IsValueBound}

in_128_bits : (z : ℤ) (most : ℕ) → unsigned_abs z ≤ most → most < 2 ^ 127 → number_in_128_bits z ≡ Some z
in_128_bits (pos n) most le lt = ap (λ b. cond b (Some (pos n)) None) (lt-ltb n (2 ^ 127) (omega (arith, le, lt)))
in_128_bits (negsuc n) most le lt = ap (λ b. cond b (Some (negsuc n)) None) (lt-ltb n (2 ^ 127) (omega (arith, le, lt)))

-- one product more
module _ (sum c v : ℤ) (bound limit next : ℕ) (near : unsigned_abs sum ≤ bound) (within : unsigned_abs v ≤ limit)
    (is : next ≡ bound + unsigned_abs c * limit) (short : next < 2 ^ 127) where
  product_size : unsigned_abs (c *ℤ v) ≤ unsigned_abs c * limit
  product_size = omega (arith, unsigned_abs-mul c v, mul-le-mul_left (unsigned_abs c) within)

  next_size : unsigned_abs (sum +ℤ (c *ℤ v)) ≤ next
  next_size = omega (arith, unsigned_abs-sum sum (c *ℤ v), product_size, near, is)

  next_sum : sum_in_128_bits sum c v ≡ Some (sum +ℤ (c *ℤ v))
  next_sum =
      ap (option_and_then (λ product. number_in_128_bits (sum +ℤ product)))
      (in_128_bits (c *ℤ v) next (omega (arith, product_size, is)) short)
      ∙ in_128_bits (sum +ℤ (c *ℤ v)) next next_size short

-- with the first coefficient added to the size, the others lead to the same greatest sum
pub first_added : (size : ℕ) (c : ℤ) (cs : List ℤ) (limit : ℕ)
    → greatest_sum limit size (c ∷ cs) ≡ greatest_sum limit (size + unsigned_abs c * limit) cs
first_added size c cs limit =
    ap (λ (n : ℕ). size + limit * n) (sum_by-cons unsigned_abs c cs)
    ∙ omega (arith, mul-add limit (unsigned_abs c) (sum_by unsigned_abs cs), mul_comm limit (unsigned_abs c))

-- each sum of products is within the greatest one
sum_is_within : (size : ℕ) (cs : List ℤ) (limit : ℕ) → greatest_sum limit size cs < 2 ^ 127 → (sum : ℤ) (at : List ℤ)
    → unsigned_abs sum ≤ size → AreWithin limit at
    → (v : ℤ) × (combined_in_128_bits sum cs at ≡ Some v) × (unsigned_abs v ≤ greatest_sum limit size cs)
sum_is_within size [] limit short sum at near within = (sum, refl, omega (arith, near))
sum_is_within size (c ∷ cs) limit short sum [] near within = (sum, refl, omega (arith, near))
sum_is_within size (c ∷ cs) limit short sum (v ∷ at) near within =
    let next : ℕ = size + unsigned_abs c * limit in
    let whole : greatest_sum limit size (c ∷ cs) ≡ greatest_sum limit next cs = first_added size c cs limit in
    let some : next < 2 ^ 127 = omega (arith, whole, short) in
    let here : unsigned_abs v ≤ limit = All-head (λ (v : ℤ). unsigned_abs v ≤ limit) v at within in
    let later = All-tail (λ (v : ℤ). unsigned_abs v ≤ limit) v at within in
    let end =
    sum_is_within next cs limit (omega (arith, whole, short)) (sum +ℤ (c *ℤ v)) at
    (next_size sum c v size limit next near here refl some) later in (
      end.0,
      ap (option_and_then (λ next. combined_in_128_bits next cs at))
          (next_sum sum c v size limit next near here refl some) ∙ end.1,
      omega (arith, whole, end.2),
    )

-- what stands for the greatest sum of the others stands for that of all
pub sum_more : (size : ℕ) (c : ℤ) (cs whole : List ℤ) (limit next : ℕ) (r : Option ℕ) → whole ≡ c ∷ cs
    → next ≡ size + unsigned_abs c * limit
    → SomeIff r (greatest_sum limit next cs < 2 ^ 127) (greatest_sum limit next cs)
    → SomeIff r (greatest_sum limit size whole < 2 ^ 127) (greatest_sum limit size whole)
sum_more size c cs whole limit next r first is rest =
    subst (λ (n : ℕ). SomeIff r (n < 2 ^ 127) n)
    (sym (ap (greatest_sum limit size) first ∙ first_added size c cs limit
    ∙ ap (λ (next : ℕ). greatest_sum limit next cs) (sym is))) rest

-- where one product or sum leaves the numbers of 128 bits, the greatest sum does
pub sum_outside : (size : ℕ) (c : ℤ) (cs whole : List ℤ) (limit : ℕ) (r : Option ℕ) → r ≡ None → whole ≡ c ∷ cs
    → 2 ^ 127 ≤ size + unsigned_abs c * limit
    → SomeIff r (greatest_sum limit size whole < 2 ^ 127) (greatest_sum limit size whole)
sum_outside size c cs whole limit r none first far =
    subst (λ (r : Option ℕ). SomeIff r (greatest_sum limit size whole < 2 ^ 127) (greatest_sum limit size whole))
    (sym none)
    (λ short. omega (arith, ap (greatest_sum limit size) first, first_added size c cs limit, far, short))

-- a form's value is within its greatest size
pub size_is_bound : (form : Form) (limit : ℕ) (r : Option ℕ)
    → SomeIff r (greatest_size limit form < 2 ^ 127) (greatest_size limit form) → IfSome r (IsValueBound limit form)
size_is_bound form limit None known = tt
size_is_bound form limit (Some bound) known =
    subst (IsValueBound limit form) (sym known.1)
    (λ at within. sum_is_within (unsigned_abs form.constant) form.coefs limit known.0 form.constant at
    (omega arith) within)

-- the sum begins with the constant
pub size_of_form : (form opened : Form) (limit size : ℕ) (coefs : List ℤ) (r : Option ℕ) → opened ≡ form
    → size ≡ unsigned_abs opened.constant → coefs ≡ opened.coefs
    → SomeIff r (greatest_sum limit size coefs < 2 ^ 127) (greatest_sum limit size coefs)
    → SomeIff r (greatest_size limit form < 2 ^ 127) (greatest_size limit form)
size_of_form form opened limit size coefs r is sized same known =
    subst (λ (n : ℕ). SomeIff r (n < 2 ^ 127) n)
    (ap (λ (size : ℕ). greatest_sum limit size coefs) sized
    ∙ ap (greatest_sum limit (unsigned_abs opened.constant)) same ∙ ap (greatest_size limit) is) known
