-- Products of whole numbers.
use Rattle.std.proofs.Common.{◌≡◌, ◌*◌, ℕ, zero, suc, ℤ, pos, negsuc, ◌+ℤ◌, ◌*ℤ◌, ◌≤ℤ◌, ◌<ℤ◌, sym, ap, ◌∙◌, arith}
use Rattle.std.proofs.Common.{◌-ℤ◌}
use Rattle.std.proofs.lemmas.Int.{ints}
use Rattle.std.proofs.Math.IntN.{*ℤ_comm, zero-*ℤ}
use borrow.Author.Differences.{up, down, sum_is_lem, product_is}

pub times_sum : (a b c : ℤ) → a *ℤ (b +ℤ c) ≡ (a *ℤ b) +ℤ (a *ℤ c)
times_sum a b c =
    omega (arith, ints, ap (λ (n : ℕ). up a * n) (sum_is_lem b c), ap (λ (n : ℕ). down a * n) (sum_is_lem b c))

pub sum_times : (a b c : ℤ) → (a +ℤ b) *ℤ c ≡ (a *ℤ c) +ℤ (b *ℤ c)
sum_times a b c =
    *ℤ_comm (a +ℤ b) c ∙ times_sum c a b ∙ ap (λ z. z +ℤ (c *ℤ b)) (*ℤ_comm c a) ∙ ap (λ z. (a *ℤ c) +ℤ z) (*ℤ_comm c b)

pub difference_times : (a b c : ℤ) → (a -ℤ b) *ℤ c ≡ (a *ℤ c) -ℤ (b *ℤ c)
difference_times a b c =
    let whole : ((a -ℤ b) +ℤ b) *ℤ c ≡ ((a -ℤ b) *ℤ c) +ℤ (b *ℤ c) = sum_times (a -ℤ b) b c in
    let same : (a -ℤ b) +ℤ b ≡ a = omega (arith, ints) in
    omega (arith, ints, whole, ap (λ z. z *ℤ c) same)

pub times_assoc : (a b c : ℤ) → (a *ℤ b) *ℤ c ≡ a *ℤ (b *ℤ c)
times_assoc a b c =
    let p = product_is a b in
    let q = product_is b c in
    omega (
      arith,
      ints,
      ap (λ (n : ℕ). n * up c) p.0,
      ap (λ (n : ℕ). n * down c) p.0,
      ap (λ (n : ℕ). n * up c) p.1,
      ap (λ (n : ℕ). n * down c) p.1,
      ap (λ (n : ℕ). up a * n) q.0,
      ap (λ (n : ℕ). down a * n) q.0,
      ap (λ (n : ℕ). up a * n) q.1,
      ap (λ (n : ℕ). down a * n) q.1,
    )

pub times_swap : (a b c : ℤ) → (a *ℤ b) *ℤ c ≡ (a *ℤ c) *ℤ b
times_swap a b c = times_assoc a b c ∙ ap (λ z. a *ℤ z) (*ℤ_comm b c) ∙ sym (times_assoc a c b)

-- a product of numbers that are not negative is not negative
pub times_not_negative : (a b : ℤ) → pos 0 ≤ℤ a → pos 0 ≤ℤ b → pos 0 ≤ℤ (a *ℤ b)
times_not_negative (pos m) (pos n) h k = omega (arith, ints)
times_not_negative (pos m) (negsuc n) h k = absurd (omega (arith, ints))
times_not_negative (negsuc m) b h k = absurd (omega (arith, ints))

-- a product with a number that is not negative grows with its factor
pub times_at_most : (a b c : ℤ) → a ≤ℤ b → pos 0 ≤ℤ c → (a *ℤ c) ≤ℤ (b *ℤ c)
times_at_most a b c le h =
    let more : pos 0 ≤ℤ ((b -ℤ a) *ℤ c) = times_not_negative (b -ℤ a) c (omega (arith, ints, le)) h in
    let same : (a +ℤ (b -ℤ a)) *ℤ c ≡ (a *ℤ c) +ℤ ((b -ℤ a) *ℤ c) = sum_times a (b -ℤ a) c in
    let whole : a +ℤ (b -ℤ a) ≡ b = omega (arith, ints) in
    let e : (a +ℤ (b -ℤ a)) *ℤ c ≡ b *ℤ c = ap (λ z. z *ℤ c) whole in
    omega (arith, ints, more, same, e)

-- a positive product of a positive number has a positive factor
pub factor_positive : (a b : ℤ) → pos 0 <ℤ b → pos 0 <ℤ (a *ℤ b) → pos 0 <ℤ a
factor_positive (pos zero) b h k = absurd (omega (arith, ints, zero-*ℤ b))
factor_positive (pos (suc m)) b h k = omega (arith, ints)
factor_positive (negsuc m) (pos n) h k = absurd (omega (arith, ints))
factor_positive (negsuc m) (negsuc n) h k = absurd (omega (arith, ints))
