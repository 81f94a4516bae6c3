-- Products of limited numbers fit 64 bits.
use Rattle.std.proofs.Common.{◌*◌, ◌≤◌, ℤ, pos, negsuc, ◌*ℤ◌, arith}
use Rattle.std.specs.Prelude.{IsTrue, FitsSigned, unsigned_abs}
use Rattle.std.specs.Int.{w64}
use Rattle.std.proofs.Math.Nat.{mul-le-mul}
use Rattle.std.proofs.lemmas.Int.{unsigned_abs-mul, fits_signed_from_abs}
use Rattle.std.proofs.lemmas.Bool.Decides.{nat_tests}
use Rattle.loop_bind.specs.Forms.{is_limited_number}

abs_limited : (a : ℤ) → IsTrue (is_limited_number a) → unsigned_abs a ≤ 2147483647
abs_limited (pos a) h = grind (arith, nat_tests)
abs_limited (negsuc a) h = grind (arith, nat_tests)

pub product_fits : (a b : ℤ) → IsTrue (is_limited_number a) → IsTrue (is_limited_number b) → FitsSigned w64 (a *ℤ b)
product_fits a b ha hb =
    let la = abs_limited a ha in
    let lb = abs_limited b hb in
    let le : unsigned_abs a * unsigned_abs b ≤ 2147483647 * 2147483647 = mul-le-mul la lb in
    let e = unsigned_abs-mul a b in
    fits_signed_from_abs w64 (a *ℤ b) (omega arith)
