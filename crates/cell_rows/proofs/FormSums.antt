-- The sums of a form: its coefficients and small loop values are so small that no sum leaves 64 bits.
use Rattle.std.proofs.Common.{◌≡◌, ◌≤◌, ◌<◌, ◌+◌, ◌*◌, ℕ, zero, suc, ℤ, pos, ◌+ℤ◌, ◌*ℤ◌, List, [], ◌∷◌, length, sym}
use Rattle.std.proofs.Common.{subst, arith, lit≤}
use Rattle.std.specs.Prelude.{IsTrue, unsigned_abs, slice_index_or, FitsSigned}
use mir.Syntax.{w64}
use Rattle.std.proofs.lemmas.Int.{fits_signed_from_abs}
use Rattle.std.proofs.lemmas.Bool.{and_parts}
use Rattle.affine_core.proofs.Integers.{unsigned_abs-sum}
use Rattle.sanlp.proofs.ModerateForms.{le_of_test, product_small, moderate_size}
use Rattle.sanlp.specs.WellFormed.{is_moderate}
use Rattle.cell_rows.specs.SmallValues.{are_small_values, is_small_value}

pub small_size : (v : ℤ) → IsTrue (is_small_value v) → unsigned_abs v ≤ 134217728
small_size v h = le_of_test _ _ h

small_at : (values : List ℤ) (place : ℕ) → IsTrue (are_small_values values) → place < length values
    → unsigned_abs (slice_index_or values place (pos 0)) ≤ 134217728
small_at [] place all within = absurd (omega arith)
small_at (value ∷ values) zero all within =
    small_size value (and_parts (is_small_value value) (are_small_values values) all).0
small_at (value ∷ values) (suc place) all within =
    small_at values place (and_parts (is_small_value value) (are_small_values values) all).1 (omega arith)

-- a product of a coefficient and a small value
pub small_product : (coef : ℤ) (values : List ℤ) (place : ℕ) → IsTrue (is_moderate coef)
    → IsTrue (are_small_values values) → place < length values
    → unsigned_abs (coef *ℤ slice_index_or values place (pos 0)) ≤ 576460752303423488
small_product coef values place moderate small within =
    product_small 4294967296 134217728 576460752303423488 coef (slice_index_or values place (pos 0)) (lit≤ tt)
    (moderate_size coef moderate) (small_at values place small within)

-- the sum of a constant and so many such products
pub next_sum_is_small : (sum product next : ℤ) (place : ℕ) → unsigned_abs sum ≤ 4294967296 + place * 576460752303423488
    → unsigned_abs product ≤ 576460752303423488
    → next ≡ sum +ℤ product → unsigned_abs next ≤ 4294967296 + (place + 1) * 576460752303423488
next_sum_is_small sum product next place before here is =
    subst (λ z. unsigned_abs z ≤ 4294967296 + (place + 1) * 576460752303423488) (sym is)
    (let size = unsigned_abs-sum sum product in omega arith)

-- what stays within 64 bits
pub small_product_fits : (c v : ℤ) → unsigned_abs (c *ℤ v) ≤ 576460752303423488 → FitsSigned w64 (c *ℤ v)
small_product_fits c v h = fits_signed_from_abs w64 (c *ℤ v) (omega arith)

pub small_sum_fits : (sum c v : ℤ) → unsigned_abs sum ≤ 4000000000000000000 → unsigned_abs (c *ℤ v) ≤ 576460752303423488
    → FitsSigned w64 (sum +ℤ (c *ℤ v))
small_sum_fits sum c v before here =
    fits_signed_from_abs w64 (sum +ℤ (c *ℤ v)) (let size = unsigned_abs-sum sum (c *ℤ v) in omega arith)
