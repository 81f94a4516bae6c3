-- Sums of rows with small multipliers stay within 128 bits.
--
-- The invariant of a sum so far is a bound of its numbers: a term adds its multiplier's amount times the bound of the
-- rows, so at the end the bound is the weight of the terms times that of the rows. Where this is below 2^127 no step
-- leaves 128 bits, and the sum within 128 bits is the sum without bounds. The bound is of the numbers' amounts alone:
-- that they cancel is used nowhere.
use Rattle.std.proofs.Common.{◌≡◌, ℕ, ◌+◌, ◌*◌, ◌^◌, ◌<◌, ◌≤◌, ℤ, pos, negsuc, ◌+ℤ◌, ◌*ℤ◌, List, [], ◌∷◌, true, refl}
use Rattle.std.proofs.Common.{ap, ◌∙◌, arith, add-mul}
use Rattle.std.specs.Prelude.{Option, Some, None, All, slice_get}
use Rattle.std.specs.Option.{option_and_then}
use Rattle.std.specs.List.{list_all}
use Rattle.std.specs.Int.RustNames.{unsigned_abs}
use Rattle.std.proofs.lemmas.Int.{ints}
use Rattle.std.proofs.lemmas.List.Elements.{All-nil, All-cons, All-head, All-tail, All-map, All-weaker}
use Rattle.std.proofs.Math.Nat.{mul-le-mul_left}
use Rattle.std.proofs.lemmas.Bool.{and_from, cond-true}
use Rattle.affine_core.specs.declared.form.Form.{Form}
use Rattle.affine_core.specs.Affine.{form_product, form_sum, sums}
use Rattle.affine_core.specs.Within.{fits_128_bits, form_fits_128_bits, form_in_128_bits}
use Rattle.affine_core.proofs.Integers.{unsigned_abs-sum}
use Rattle.int_polyhedra.specs.declared.system.Term.{Term}
use Rattle.int_polyhedra.specs.Steps.{sum_onto}
use Rattle.tree_sums.specs.Parts.{IsWithin, weight}
use Rattle.plain_data.proofs.Lists.{All-slice_get}
use Rattle.tree_sums.proofs.Weights.{abs_product}

-- the sum without any bound
abbrev pub ideal : List Form → Form → List Term → Option Form
ideal rows sum [] = Some sum
ideal rows sum (t ∷ ts) =
    option_and_then (λ row. ideal rows (form_sum sum (form_product t.times row)) ts) (slice_get rows t.row)

fits_below : (bound : ℕ) (z : ℤ) → unsigned_abs z ≤ bound → bound < 2 ^ 127 → fits_128_bits z ≡ true
fits_below bound (pos n) h k = let l : n < 2 ^ 127 = omega (arith, ints, h, k) in grind arith
fits_below bound (negsuc n) h k = let l : n < 2 ^ 127 = omega (arith, ints, h, k) in grind arith

all_fit : (bound : ℕ) (zs : List ℤ) → All (λ c. unsigned_abs c ≤ bound) zs → bound < 2 ^ 127 → list_all fits_128_bits zs
    ≡ true
all_fit bound [] h k = refl
all_fit bound (z ∷ zs) h k =
    and_from (fits_128_bits z) (list_all fits_128_bits zs)
    (fits_below bound z (All-head (λ c. unsigned_abs c ≤ bound) z zs h) k)
    (all_fit bound zs (All-tail (λ c. unsigned_abs c ≤ bound) z zs h) k)

pub in_bits_within : (bound : ℕ) (f : Form) → IsWithin bound f → bound < 2 ^ 127 → form_in_128_bits f ≡ Some f
in_bits_within bound f h k =
    cond-true (form_fits_128_bits f) (Some f) None
    (and_from (fits_128_bits f.constant) (list_all fits_128_bits f.coefs)
    (fits_below bound f.constant h.constant k) (all_fit bound f.coefs h.coefs k))

product_below : (bound : ℕ) (z by : ℤ) → unsigned_abs z ≤ bound → unsigned_abs (z *ℤ by) ≤ unsigned_abs by * bound
product_below bound z by h = omega (arith, ints, abs_product z by, mul-le-mul_left (unsigned_abs by) h)

pub product_within : (bound : ℕ) (by : ℤ) (f : Form) → IsWithin bound f
    → IsWithin (unsigned_abs by * bound) (form_product by f)
product_within bound by f h = record {
  constant = product_below bound f.constant by h.constant;
  coefs = All-map (λ c. unsigned_abs c ≤ unsigned_abs by * bound) (λ c. c *ℤ by) f.coefs
      (All-weaker (λ c. unsigned_abs c ≤ bound) (λ c. unsigned_abs (c *ℤ by) ≤ unsigned_abs by * bound)
      (λ c. product_below bound c by) f.coefs h.coefs);
}

sums_below : (a b : ℕ) (xs ys : List ℤ) → All (λ c. unsigned_abs c ≤ a) xs → All (λ c. unsigned_abs c ≤ b) ys
    → All (λ c. unsigned_abs c ≤ a + b) (sums xs ys)
sums_below a b [] ys h k = All-nil _
sums_below a b (x ∷ xs) [] h k = All-nil _
sums_below a b (x ∷ xs) (y ∷ ys) h k =
    All-cons (λ c. unsigned_abs c ≤ a + b) (x +ℤ y) (sums xs ys)
    (omega (
      arith,
      ints,
      unsigned_abs-sum x y,
      All-head (λ c. unsigned_abs c ≤ a) x xs h,
      All-head (λ c. unsigned_abs c ≤ b) y ys k,
    ))
    (sums_below a b xs ys (All-tail (λ c. unsigned_abs c ≤ a) x xs h) (All-tail (λ c. unsigned_abs c ≤ b) y ys k))

pub sum_within : (a b : ℕ) (f g : Form) → IsWithin a f → IsWithin b g → IsWithin (a + b) (form_sum f g)
sum_within a b f g h k = record {
  constant = omega (arith, ints, unsigned_abs-sum f.constant g.constant, h.constant, k.constant);
  coefs = sums_below a b f.coefs g.coefs h.coefs k.coefs;
}

pub stays : (bound so_far : ℕ) (rows : List Form) (sum : Form) (ts : List Term) → All (IsWithin bound) rows
    → IsWithin so_far sum → so_far + weight ts * bound < 2 ^ 127
    → sum_onto rows sum ts ≡ ideal rows sum ts
stays bound so_far rows sum [] h s k = refl
stays bound so_far rows sum (t ∷ ts) h s k =
    go (λ so_far sum. stays bound so_far rows sum ts h) (slice_get rows t.row) refl where
      go : ((so_far : ℕ) (sum : Form) → IsWithin so_far sum → so_far + weight ts * bound < 2 ^ 127
          → sum_onto rows sum ts
          ≡ ideal rows sum ts) → (found : Option Form) → slice_get rows t.row ≡ found
          → option_and_then (λ next. sum_onto rows next ts)
          (option_and_then (λ row. option_and_then (λ more. form_in_128_bits (form_sum sum more))
          (form_in_128_bits (form_product t.times row))) found)
          ≡ option_and_then (λ row. ideal rows (form_sum sum (form_product t.times row)) ts) found
      go later None e = refl
      go later (Some row) e =
          let by : ℕ = unsigned_abs t.times in
          let spread : (by + weight ts) * bound ≡ by * bound + weight ts * bound = add-mul by (weight ts) bound in
          let w : IsWithin (by * bound) (form_product t.times row) =
          product_within bound t.times row (All-slice_get (IsWithin bound) rows t.row row h e) in
          let more : form_in_128_bits (form_product t.times row) ≡ Some (form_product t.times row) =
          in_bits_within (by * bound) (form_product t.times row) w (omega (arith, k, spread)) in
          let v : IsWithin (so_far + by * bound) (form_sum sum (form_product t.times row)) =
          sum_within so_far (by * bound) sum (form_product t.times row) s w in
          let next : form_in_128_bits (form_sum sum (form_product t.times row))
          ≡ Some (form_sum sum (form_product t.times row)) =
          in_bits_within (so_far + by * bound) (form_sum sum (form_product t.times row)) v (omega (arith, k, spread)) in
          ap (λ o. option_and_then (λ next. sum_onto rows next ts)
          (option_and_then (λ more. form_in_128_bits (form_sum sum more)) o)) more
          ∙ ap (λ o. option_and_then (λ next. sum_onto rows next ts) o) next
          ∙ later (so_far + by * bound) (form_sum sum (form_product t.times row)) v (omega (arith, k, spread))
