-- The value of a form is linear in the form.
use Rattle.std.proofs.Common.{◌≡◌, ℕ, zero, suc, ◌+◌, ◌-◌, ◌≤◌, ℤ, pos, ◌+ℤ◌, ◌*ℤ◌, List, [], ◌∷◌, ◌++◌, length}
use Rattle.std.proofs.Common.{replicate, slice_index_or, refl, sym, ap, ◌∙◌, arith, length-append}
use Rattle.std.specs.Prelude.{Some, Result, Ok, Err, IfOk}
use Rattle.std.specs.Result.{result_ok}
use Rattle.std.proofs.lemmas.Int.{ints}
use Rattle.std.proofs.lemmas.List.{length-replicate}
use Rattle.std.proofs.lemmas.Option.{same_Some, option_and_then_some, cond_some}
use Rattle.affine_core.proofs.Ring.{sum_times, times_swap}
use Rattle.affine_core.specs.declared.form.Form.{Form}
use Rattle.affine_core.specs.Affine.{combined, form_at, products, form_product, sums, form_sum, constant_form}
use Rattle.affine_core.specs.Affine.{variable_form, widened_form}
use Rattle.affine_core.specs.Within.{fits_128_bits, form_fits_128_bits, number_in_128_bits, form_in_128_bits}
use Rattle.affine_core.specs.Within.{sum_in_128_bits, combined_in_128_bits, value_in_128_bits}

-- the sum of products
abbrev pub dot : List ℤ → List ℤ → ℤ
dot [] at = pos 0
dot (c ∷ cs) [] = pos 0
dot (c ∷ cs) (v ∷ at) = (c *ℤ v) +ℤ dot cs at

pub combined_is : (s : ℤ) (cs at : List ℤ) → combined s cs at ≡ s +ℤ dot cs at
combined_is s [] at = omega (arith, ints)
combined_is s (c ∷ cs) [] = omega (arith, ints)
combined_is s (c ∷ cs) (v ∷ at) = combined_is (s +ℤ (c *ℤ v)) cs at ∙ omega (arith, ints)

pub dot_products : (k : ℤ) (cs at : List ℤ) → dot (products k cs) at ≡ dot cs at *ℤ k
dot_products k [] at = omega (arith, ints)
dot_products k (c ∷ cs) [] = omega (arith, ints)
dot_products k (c ∷ cs) (v ∷ at) =
    omega (arith, ints, dot_products k cs at, times_swap c k v, sum_times (c *ℤ v) (dot cs at) k)

pub dot_sums : (xs bs at : List ℤ) → length xs ≡ length bs → dot (sums xs bs) at ≡ dot xs at +ℤ dot bs at
dot_sums [] [] at e = omega (arith, ints)
dot_sums [] (b ∷ bs) at e = absurd (omega arith)
dot_sums (a ∷ xs) [] at e = absurd (omega arith)
dot_sums (a ∷ xs) (b ∷ bs) [] e = omega (arith, ints)
dot_sums (a ∷ xs) (b ∷ bs) (v ∷ at) e =
    let h : dot (sums xs bs) at ≡ dot xs at +ℤ dot bs at = dot_sums xs bs at (omega arith) in
    omega (arith, ints, h, sum_times a b v)

pub dot_zeros : (n : ℕ) (at : List ℤ) → dot (replicate n (pos 0)) at ≡ pos 0
dot_zeros zero at = refl
dot_zeros (suc n) [] = refl
dot_zeros (suc n) (v ∷ at) = omega (arith, ints, dot_zeros n at)

pub product_at : (k : ℤ) (f : Form) (at : List ℤ) → form_at (form_product k f) at ≡ form_at f at *ℤ k
product_at k f at =
    combined_is (f.constant *ℤ k) (products k f.coefs) at ∙ ap (λ z. (f.constant *ℤ k) +ℤ z) (dot_products k f.coefs at)
    ∙ (let e : (f.constant *ℤ k) +ℤ (dot f.coefs at *ℤ k)
    ≡ (f.constant +ℤ dot f.coefs at) *ℤ k = sym (sum_times f.constant (dot f.coefs at) k) in e)
    ∙ ap (λ z. z *ℤ k) (sym (combined_is f.constant f.coefs at))

pub sum_at : (f g : Form) (at : List ℤ) → length f.coefs ≡ length g.coefs
    → form_at (form_sum f g) at ≡ form_at f at +ℤ form_at g at
sum_at f g at e =
    combined_is (f.constant +ℤ g.constant) (sums f.coefs g.coefs) at
    ∙ ap (λ z. (f.constant +ℤ g.constant) +ℤ z) (dot_sums f.coefs g.coefs at e)
    ∙ (let m : (f.constant +ℤ g.constant) +ℤ (dot f.coefs at +ℤ dot g.coefs at)
    ≡ (f.constant +ℤ dot f.coefs at) +ℤ (g.constant +ℤ dot g.coefs at) = omega (arith, ints) in m)
    ∙ ap (λ z. z +ℤ (g.constant +ℤ dot g.coefs at)) (sym (combined_is f.constant f.coefs at))
    ∙ ap (λ z. form_at f at +ℤ z) (sym (combined_is g.constant g.coefs at))

pub constant_at : (n : ℕ) (c : ℤ) (at : List ℤ) → form_at (constant_form n c) at ≡ c
constant_at n c at = combined_is c (replicate n (pos 0)) at ∙ omega (arith, ints, dot_zeros n at)

dot_append_zeros : (cs : List ℤ) (n : ℕ) (at : List ℤ) → dot (cs ++ replicate n (pos 0)) at ≡ dot cs at
dot_append_zeros [] n at = dot_zeros n at
dot_append_zeros (c ∷ cs) n [] = refl
dot_append_zeros (c ∷ cs) n (v ∷ at) = ap (λ z. (c *ℤ v) +ℤ z) (dot_append_zeros cs n at)

pub widened_at : (n : ℕ) (f : Form) (at : List ℤ) → form_at (widened_form n f) at ≡ form_at f at
widened_at n f at =
    combined_is f.constant (widened_form n f).coefs at
    ∙ ap (λ z. f.constant +ℤ z) (dot_append_zeros f.coefs (n - length f.coefs) at)
    ∙ sym (combined_is f.constant f.coefs at)

-- values of variables past the form's change nothing
dot_more : (cs at more : List ℤ) → length cs ≤ length at → dot cs (at ++ more) ≡ dot cs at
dot_more [] at more h = refl
dot_more (c ∷ cs) [] more h = absurd (omega arith)
dot_more (c ∷ cs) (v ∷ at) more h = ap (λ z. (c *ℤ v) +ℤ z) (dot_more cs at more (omega arith))

pub form_at_more : (f : Form) (at more : List ℤ) → length f.coefs ≤ length at → form_at f (at ++ more) ≡ form_at f at
form_at_more f at more h =
    combined_is f.constant f.coefs (at ++ more) ∙ ap (λ z. f.constant +ℤ z) (dot_more f.coefs at more h)
    ∙ sym (combined_is f.constant f.coefs at)

dot_unit : (v n : ℕ) (at : List ℤ)
    → dot (replicate v (pos 0) ++ pos 1 ∷ replicate n (pos 0)) at ≡ slice_index_or at v (pos 0)
dot_unit zero n [] = refl
dot_unit zero n (x ∷ at) = omega (arith, ints, dot_zeros n at)
dot_unit (suc v) n [] = refl
dot_unit (suc v) n (x ∷ at) = omega (arith, ints, dot_unit v n at)

pub variable_at : (n v : ℕ) (at : List ℤ) → form_at (variable_form n v) at ≡ slice_index_or at v (pos 0)
variable_at n v at = combined_is (pos 0) (variable_form n v).coefs at ∙ omega (arith, ints, dot_unit v (n - (v + 1)) at)

pub number_in_128_bits_is : (z v : ℤ) → number_in_128_bits z ≡ Some v → z ≡ v
number_in_128_bits_is z v e = (cond_some (fits_128_bits z) z v e).1

pub form_in_128_bits_is : (f g : Form) → form_in_128_bits f ≡ Some g → f ≡ g
form_in_128_bits_is f g e = (cond_some (form_fits_128_bits f) f g e).1

pub sum_in_128_bits_is : (sum c v z : ℤ) → sum_in_128_bits sum c v ≡ Some z → z ≡ sum +ℤ (c *ℤ v)
sum_in_128_bits_is sum c v z e =
    option_and_then_some (λ product. number_in_128_bits (sum +ℤ product)) (number_in_128_bits (c *ℤ v)) z e
    (λ product is is'. sym (number_in_128_bits_is (sum +ℤ product) z is')
    ∙ ap (λ p. sum +ℤ p) (sym (number_in_128_bits_is (c *ℤ v) product is)))

-- where the sum of products stays within 128 bits, it is the sum of products
pub combined_in_128_bits_is : (sum : ℤ) (cs at : List ℤ) (z : ℤ) → combined_in_128_bits sum cs at ≡ Some z
    → z ≡ combined sum cs at
combined_in_128_bits_is sum [] at z e = sym (same_Some sum z e)
combined_in_128_bits_is sum (c ∷ cs) [] z e = sym (same_Some sum z e)
combined_in_128_bits_is sum (c ∷ cs) (v ∷ at) z e =
    option_and_then_some (λ next. combined_in_128_bits next cs at) (sum_in_128_bits sum c v) z e
    (λ next is is'. combined_in_128_bits_is next cs at z is'
    ∙ ap (λ s. combined s cs at) (sum_in_128_bits_is sum c v next is))

-- what the results of the calls say of values
pub eval_value : {E : Type 0} (f : Form) (at : List ℤ) (r : Result ℤ E) → result_ok r ≡ value_in_128_bits f at
    → IfOk r (λ value. value ≡ form_at f at)
eval_value f at (Ok z) e = combined_in_128_bits_is f.constant f.coefs at z (sym e)
eval_value f at (Err x) e = tt

pub scale_values : (by : ℤ) (f g : Form) → Some g ≡ form_in_128_bits (form_product by f) → (at : List ℤ)
    → form_at g at ≡ form_at f at *ℤ by
scale_values by f g e at =
    ap (λ h. form_at h at) (sym (form_in_128_bits_is (form_product by f) g (sym e))) ∙ product_at by f at

pub add_values : (f g h : Form) → length f.coefs ≡ length g.coefs → Some h ≡ form_in_128_bits (form_sum f g)
    → (at : List ℤ) → form_at h at ≡ form_at f at +ℤ form_at g at
add_values f g h same e at =
    ap (λ s. form_at s at) (sym (form_in_128_bits_is (form_sum f g) h (sym e))) ∙ sum_at f g at same

pub constant_values : (n : ℕ) (c : ℤ) (f : Form) → f ≡ constant_form n c → (at : List ℤ) → form_at f at ≡ c
constant_values n c f e at = ap (λ g. form_at g at) e ∙ constant_at n c at

pub variable_values : (n v : ℕ) (f : Form) → f ≡ variable_form n v → (at : List ℤ)
    → form_at f at ≡ slice_index_or at v (pos 0)
variable_values n v f e at = ap (λ g. form_at g at) e ∙ variable_at n v at

pub widened_values : (n : ℕ) (f g : Form) → g ≡ widened_form n f → (at : List ℤ) → form_at g at ≡ form_at f at
widened_values n f g e at = ap (λ h. form_at h at) e ∙ widened_at n f at

-- Lengths of coefficients

pub length-sums : (xs ys : List ℤ) → length xs ≡ length ys → length (sums xs ys) ≡ length xs
length-sums [] ys e = refl
length-sums (x ∷ xs) [] e = absurd (omega arith)
length-sums (x ∷ xs) (y ∷ ys) e = ap suc (length-sums xs ys (omega arith))

pub length-variable_form : (n : ℕ) → length (variable_form (n + 1) n).coefs ≡ n + 1
length-variable_form n =
    let after : List ℤ = replicate (n + 1 - (n + 1)) (pos 0) in
    omega (
      arith,
      length-append (replicate n (pos 0)) (pos 1 ∷ after),
      length-replicate n (pos 0),
      length-replicate (n + 1 - (n + 1)) (pos 0),
    )
