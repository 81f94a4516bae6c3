-- Numbers divided and rounded down.
--
-- A number divided by d and rounded down is the one number whose multiple by d is no greater, and whose next multiple
-- is greater. So a number that is added d times comes through the division, and the opposite of a number, less 1, goes
-- to the opposite of its quotient, less 1.
use Rattle.std.proofs.Common.{◌≡◌, ◌+◌, ◌*◌, ◌/◌, ◌%◌, ◌<◌, ℕ, suc, ℤ, pos, negsuc, ◌+ℤ◌, ◌-ℤ◌, ◌*ℤ◌, ◌≤ℤ◌, ◌<ℤ◌}
use Rattle.std.proofs.Common.{sym, ap, ◌∙◌, arith}
use Rattle.std.specs.Prelude.{unsigned_abs}
use Rattle.std.proofs.lemmas.Int.{ints}
use Rattle.std.proofs.lemmas.Nat.{mod-mul-add}
use Rattle.affine_core.proofs.Ring.{factor_positive, sum_times}
use Rattle.int_polyhedra.specs.Steps.{floor}
use Rattle.int_polyhedra.proofs.Floor.{floor_above}

below_next : (n d : ℕ) → 0 < d → n < suc (n / d) * d
below_next n d h = let e : suc (n / d) * d ≡ n / d * d + d = omega arith in omega (arith, e)

pub floor_below : (z : ℤ) (d : ℕ) → 0 < d → (floor z d *ℤ pos d) ≤ℤ z
floor_below (pos n) d h = omega (arith, ints)
floor_below (negsuc n) d h = omega (arith, ints, below_next n d h)

-- a multiple that lies below another one's next is no greater
no_greater : (a b : ℤ) (d : ℕ) → 0 < d → (a *ℤ pos d) <ℤ ((b +ℤ pos 1) *ℤ pos d) → a ≤ℤ b
no_greater a b d h lt =
    let gap : ℤ = (b +ℤ pos 1) -ℤ a in
    let whole : gap +ℤ a ≡ b +ℤ pos 1 = omega (arith, ints) in
    let parts : (b +ℤ pos 1) *ℤ pos d ≡ (gap *ℤ pos d) +ℤ (a *ℤ pos d) =
    ap (λ z. z *ℤ pos d) (sym whole) ∙ sum_times gap a (pos d) in
    let positive : pos 0 <ℤ gap =
    factor_positive gap (pos d) (omega (arith, ints, h)) (omega (arith, ints, parts, lt)) in
    omega (arith, ints, positive, whole)

pub floor_unique : (z q : ℤ) (d : ℕ) → 0 < d → (q *ℤ pos d) ≤ℤ z → z <ℤ ((q +ℤ pos 1) *ℤ pos d) → floor z d ≡ q
floor_unique z q d h low high =
    let first : floor z d ≤ℤ q =
    no_greater (floor z d) q d h (omega (arith, ints, floor_below z d h, high)) in
    let second : q ≤ℤ floor z d = no_greater q (floor z d) d h (omega (arith, ints, low, floor_above z d h)) in
    omega (arith, ints, first, second)

-- a number that is added d times comes through
pub floor_shifted : (z k : ℤ) (d : ℕ) → 0 < d → floor (z +ℤ (k *ℤ pos d)) d ≡ floor z d +ℤ k
floor_shifted z k d h =
    let f : ℤ = floor z d in
    let low : (f +ℤ k) *ℤ pos d ≡ (f *ℤ pos d) +ℤ (k *ℤ pos d) = sum_times f k (pos d) in
    let next : ((f +ℤ k) +ℤ pos 1) *ℤ pos d ≡ ((f +ℤ pos 1) *ℤ pos d) +ℤ (k *ℤ pos d) =
    ap (λ z. z *ℤ pos d) (moved f k) ∙ sum_times (f +ℤ pos 1) k (pos d) in
    floor_unique (z +ℤ (k *ℤ pos d)) (f +ℤ k) d h (omega (arith, ints, low, floor_below z d h))
    (omega (arith, ints, next, floor_above z d h)) where
      moved : (f k : ℤ) → (f +ℤ k) +ℤ pos 1 ≡ (f +ℤ pos 1) +ℤ k
      moved f k = omega (arith, ints)

pub floor_multiple : (k : ℤ) (d : ℕ) → 0 < d → floor (k *ℤ pos d) d ≡ k
floor_multiple k d h =
    let next : (k +ℤ pos 1) *ℤ pos d ≡ (k *ℤ pos d) +ℤ (pos 1 *ℤ pos d) = sum_times k (pos 1) (pos d) in
    floor_unique (k *ℤ pos d) k d h (omega (arith, ints)) (omega (arith, ints, next, h))

-- the opposite, less 1
pub floor_opposite : (z : ℤ) (d : ℕ) → 0 < d
    → floor ((z *ℤ negsuc 0) +ℤ negsuc 0) d ≡ (floor z d *ℤ negsuc 0) +ℤ negsuc 0
floor_opposite z d h =
    let f : ℤ = floor z d in
    let q : ℤ = (f *ℤ negsuc 0) +ℤ negsuc 0 in
    let nothing : pos 0 *ℤ pos d ≡ pos 0 = omega (arith, ints) in
    let none : (q *ℤ pos d) +ℤ ((f +ℤ pos 1) *ℤ pos d) ≡ pos 0 =
    sym (sum_times q (f +ℤ pos 1) (pos d)) ∙ ap (λ z. z *ℤ pos d) (cancelled f) ∙ nothing in
    let next : ((q +ℤ pos 1) *ℤ pos d) +ℤ (f *ℤ pos d) ≡ pos 0 =
    sym (sum_times (q +ℤ pos 1) f (pos d)) ∙ ap (λ z. z *ℤ pos d) (cancelled_next f) ∙ nothing in
    floor_unique ((z *ℤ negsuc 0) +ℤ negsuc 0) q d h (omega (arith, ints, none, floor_above z d h))
    (omega (arith, ints, next, floor_below z d h)) where
      cancelled : (f : ℤ) → ((f *ℤ negsuc 0) +ℤ negsuc 0) +ℤ (f +ℤ pos 1) ≡ pos 0
      cancelled f = omega (arith, ints)

      cancelled_next : (f : ℤ) → (((f *ℤ negsuc 0) +ℤ negsuc 0) +ℤ pos 1) +ℤ f ≡ pos 0
      cancelled_next f = omega (arith, ints)

size_of_multiple : (k : ℤ) (d : ℕ) → unsigned_abs (k *ℤ pos d) ≡ unsigned_abs k * d + 0
size_of_multiple (pos n) d = omega (arith, ints)
size_of_multiple (negsuc n) d = omega (arith, ints)

pub divides_multiple : (k : ℤ) (d : ℕ) → 0 < d → unsigned_abs (k *ℤ pos d) % d ≡ 0
divides_multiple k d h = ap (λ n. n % d) (size_of_multiple k d) ∙ mod-mul-add (unsigned_abs k) d 0 h
