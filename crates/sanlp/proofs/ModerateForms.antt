-- What the forms of a nest are like: as many coefficients as variables, each of them moderate, so that a sum of
-- products grows by no more than a known bound at each of them. At values of 64 bits no such sum leaves 128 bits.
use Rattle.std.proofs.Common.{◌≡◌, ◌≤◌, ◌<◌, ◌+◌, ◌*◌, ℕ, zero, suc, ℤ, pos, negsuc, ◌+ℤ◌, ◌*ℤ◌, List, [], ◌∷◌, drop}
use Rattle.std.proofs.Common.{length, sym, ap, ◌∙◌, subst, arith, lit≤}
use Rattle.std.specs.Prelude.{IsTrue, FitsSigned, unsigned_abs, nat_le, slice_index_or, ◌&&◌, ◌==◌}
use mir.Syntax.{w64, w128}
use Rattle.std.specs.List.{list_all}
use Rattle.std.proofs.lemmas.Int.{fits_signed_from_abs, unsigned_abs-mul}
use Rattle.std.proofs.lemmas.Bool.{and_parts}
use Rattle.std.proofs.Math.Nat.{mul-le-mul}
use Rattle.std.proofs.lemmas.Bool.Decides.{nat_tests}
use Rattle.affine_core.specs.Affine.{combined}
use Rattle.affine_core.specs.declared.form.Form.{Form}
use Rattle.affine_core.proofs.Integers.{unsigned_abs-sum, unsigned_abs-signed}
use Rattle.sanlp.specs.WellFormed.{form_fits, is_moderate}

pub le_of_test : (m n : ℕ) → IsTrue (nat_le m n) → m ≤ n
le_of_test m n h = grind (arith, nat_tests)

pub product_small : (c v p : ℕ) (coef value : ℤ) → c * v ≤ p → unsigned_abs coef ≤ c → unsigned_abs value ≤ v
    → unsigned_abs (coef *ℤ value) ≤ p
product_small c v p coef value h k l =
    let e = unsigned_abs-mul coef value in
    omega (arith, e, mul-le-mul k l)

pub moderate_size : (c : ℤ) → IsTrue (is_moderate c) → unsigned_abs c ≤ 4294967296
moderate_size (pos n) h = grind (arith, nat_tests)
moderate_size (negsuc n) h = grind (arith, nat_tests)

-- a form of a nest has as many coefficients as variables
same_number : (m n : ℕ) → IsTrue (m == n) → m ≡ n
same_number m n h = grind (arith, nat_tests)

pub as_many : (form : Form) (at : List ℤ) → IsTrue (form_fits (length at) form) → length form.coefs ≡ length at
as_many form at fits =
    let tests =
    and_parts (length form.coefs == length at && is_moderate form.constant) (list_all is_moderate form.coefs) fits in
    same_number _ _ (and_parts (length form.coefs == length at) (is_moderate form.constant) tests.0).0

all_at : (coefs : List ℤ) (place : ℕ) → IsTrue (list_all is_moderate coefs) → place < length coefs
    → IsTrue (is_moderate (slice_index_or coefs place (pos 0)))
all_at [] place all within = absurd (omega arith)
all_at (coef ∷ coefs) zero all within = (and_parts (is_moderate coef) (list_all is_moderate coefs) all).0
all_at (coef ∷ coefs) (suc place) all within =
    all_at coefs place (and_parts (is_moderate coef) (list_all is_moderate coefs) all).1 (omega arith)

-- each coefficient of a form of a nest
pub moderate_at : (form : Form) (depth : ℕ) (coefs : List ℤ) (place : ℕ) → IsTrue (form_fits depth form)
    → coefs ≡ form.coefs → place < length coefs
    → IsTrue (is_moderate (slice_index_or coefs place (pos 0)))
moderate_at form depth coefs place fits same within =
    let tests =
    and_parts (length form.coefs == depth && is_moderate form.constant) (list_all is_moderate form.coefs) fits in
    all_at coefs place (ap (list_all is_moderate) same ∙ tests.1) within

pub moderate_constant : (form : Form) (depth : ℕ) → IsTrue (form_fits depth form)
    → unsigned_abs form.constant ≤ 4294967296
moderate_constant form depth fits =
    let tests =
    and_parts (length form.coefs == depth && is_moderate form.constant) (list_all is_moderate form.coefs) fits in
    moderate_size form.constant (and_parts (length form.coefs == depth) (is_moderate form.constant) tests.0).1

-- The value of a form, product by product, at values of 64 bits: no sum of at most six products leaves 128 bits.

-- a form's value from a place on, one product further
pub one_product_more : (sum : ℤ) (coefs values : List ℤ) (place : ℕ) (z : ℤ) → place < length coefs
    → place < length values
    → combined sum (drop place coefs) (drop place values) ≡ z
    → combined (sum +ℤ (slice_index_or coefs place (pos 0) *ℤ slice_index_or values place (pos 0)))
    (drop (place + 1) coefs) (drop (place + 1) values)
    ≡ z
one_product_more sum [] values place z a b e = absurd (omega arith)
one_product_more sum (c ∷ cs) [] place z a b e = absurd (omega arith)
one_product_more sum (c ∷ cs) (v ∷ vs) zero z a b e = e
one_product_more sum (c ∷ cs) (v ∷ vs) (suc place) z a b e =
    let next : ℤ = sum +ℤ (slice_index_or cs place (pos 0) *ℤ slice_index_or vs place (pos 0)) in
    let same : suc (place + 1) ≡ suc place + 1 = omega arith in
    subst (λ (n : ℕ). combined next (drop n (c ∷ cs)) (drop n (v ∷ vs)) ≡ z) same
    (one_product_more sum cs vs place z (omega arith) (omega arith) e)

pub wide_product : (coef v : ℤ) → unsigned_abs coef ≤ 4294967296 → FitsSigned w64 v
    → unsigned_abs (coef *ℤ v) ≤ 39614081257132168796771975168
wide_product coef v moderate short =
    product_small 4294967296 9223372036854775808 39614081257132168796771975168 coef v (lit≤ tt) moderate
    (unsigned_abs-signed v short)

pub wide_product_fits : (coef v : ℤ) → unsigned_abs coef ≤ 4294967296 → FitsSigned w64 v → FitsSigned w128 (coef *ℤ v)
wide_product_fits coef v moderate short =
    let size = wide_product coef v moderate short in
    fits_signed_from_abs w128 (coef *ℤ v) (omega arith)

pub wide_sum_fits : (sum coef v : ℤ) → unsigned_abs sum ≤ 300000000000000000000000000000
    → unsigned_abs coef ≤ 4294967296 → FitsSigned w64 v → FitsSigned w128 (sum +ℤ (coef *ℤ v))
wide_sum_fits sum coef v before moderate short =
    let size = unsigned_abs-sum sum (coef *ℤ v) in
    let product = wide_product coef v moderate short in
    fits_signed_from_abs w128 (sum +ℤ (coef *ℤ v)) (omega arith)

-- the sum of a constant and so many such products
pub next_wide_sum : (sum product next : ℤ) (place : ℕ)
    → unsigned_abs sum ≤ 4294967296 + place * 39614081257132168796771975168
    → unsigned_abs product ≤ 39614081257132168796771975168 → next ≡ sum +ℤ product
    → unsigned_abs next ≤ 4294967296 + (place + 1) * 39614081257132168796771975168
next_wide_sum sum product next place before here is =
    let size = unsigned_abs-sum sum product in
    subst (λ z. unsigned_abs z ≤ 4294967296 + (place + 1) * 39614081257132168796771975168) (sym is) (omega arith)
