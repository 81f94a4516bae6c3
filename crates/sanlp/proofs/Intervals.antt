-- Intervals of whole numbers.
use Rattle.std.proofs.Common.{◌≡◌, ◌≤◌, ℕ, zero, suc, ℤ, pos, negsuc, ◌+ℤ◌, ◌-ℤ◌, ◌<ℤ◌, ◌≤ℤ◌, [], ◌∷◌, inl, inr}
use Rattle.std.proofs.Common.{refl, ap, ◌∙◌, arith}
use Rattle.std.proofs.lemmas.Int.{by_lt_z, ints}
use Rattle.sanlp.specs.Cells.{natural, counted}
use Rattle.sanlp.specs.Loops.{interval}
use Rattle.sanlp.proofs.Members.{In, Pairwise, each_from_in}

natural_none : (z : ℤ) → z ≤ℤ pos 0 → natural z ≡ 0
natural_none (pos n) h = omega (arith, ints)
natural_none (negsuc n) h = refl

pub natural_more : (z : ℤ) → pos 0 <ℤ z → natural z ≡ suc (natural (z -ℤ pos 1))
natural_more (pos zero) h = absurd (omega (arith, ints))
natural_more (pos (suc n)) h = ap suc (ap natural (let e : pos n ≡ pos (suc n) -ℤ pos 1 = omega (arith, ints) in e))
natural_more (negsuc n) h = absurd (omega (arith, ints))

pub interval_step : (a b : ℤ) → a ≤ℤ b → interval a b ≡ a ∷ interval (a +ℤ pos 1) b
interval_step a b h =
    ap (counted a) (natural_more (b +ℤ pos 1 -ℤ a) (omega (arith, ints)))
    ∙ (let e : b +ℤ pos 1 -ℤ a -ℤ pos 1 ≡ b +ℤ pos 1 -ℤ (a +ℤ pos 1) = omega (arith, ints) in
    ap (λ z. a ∷ counted (a +ℤ pos 1) (natural z)) e)

pub interval_end : (a b : ℤ) → b <ℤ a → interval a b ≡ []
interval_end a b h = ap (counted a) (natural_none (b +ℤ pos 1 -ℤ a) (omega (arith, ints)))

-- counted numbers
pub in_counted : (a v : ℤ) (n : ℕ) → In v (counted a n) → (a ≤ℤ v) × (v <ℤ (a +ℤ pos n))
in_counted a v zero h = absurd h
in_counted a v (suc n) h = elim h [
  | inl e ↦ (omega (arith, ints), omega (arith, ints))
  | inr k ↦ (let rest = in_counted (a +ℤ pos 1) v n k in (omega (arith, ints, rest.0), omega (arith, ints, rest.1)))
]

pub counted_in : (a v : ℤ) (n : ℕ) → a ≤ℤ v → v <ℤ (a +ℤ pos n) → In v (counted a n)
counted_in a v zero h k = absurd (omega (arith, ints))
counted_in a v (suc n) h k = by_lt_z a v
    (λ lt. inr (counted_in (a +ℤ pos 1) v n (omega (arith, ints)) (omega (arith, ints))))
    (λ le. inl (omega (arith, ints)))

pub counted_ascends : (a : ℤ) (n : ℕ) → Pairwise (λ v w. v <ℤ w) (counted a n)
counted_ascends a zero = tt
counted_ascends a (suc n) = (
  each_from_in (λ w. a <ℤ w) (counted (a +ℤ pos 1) n)
      (λ w k. let from = in_counted (a +ℤ pos 1) w n k in omega (arith, ints, from.0)),
  counted_ascends (a +ℤ pos 1) n,
)

pub natural_pos : (z : ℤ) → pos 0 ≤ℤ z → pos (natural z) ≡ z
natural_pos (pos n) h = refl
natural_pos (negsuc n) h = absurd (omega (arith, ints))

pub natural_below : (z : ℤ) (n : ℕ) → z ≤ℤ pos n → natural z ≤ n
natural_below (pos m) n h = omega (arith, ints)
natural_below (negsuc m) n h = omega arith

pub in_interval : (a b v : ℤ) → In v (interval a b) → (a ≤ℤ v) × (v ≤ℤ b)
in_interval a b v h =
    let count : ℤ = b +ℤ pos 1 -ℤ a in
    by_lt_z b a
    (λ lt. absurd (let none : natural count ≤ 0 = natural_below count 0 (omega (arith, ints)) in
    let from = in_counted a v (natural count) h in omega (arith, ints, from.0, from.1)))
    (λ le. let is : pos (natural count) ≡ count = natural_pos count (omega (arith, ints)) in
    let from = in_counted a v (natural count) h in
    (from.0, omega (arith, ints, from.1, is)))

pub interval_in : (a b v : ℤ) → a ≤ℤ v → v ≤ℤ b → In v (interval a b)
interval_in a b v h k =
    let count : ℤ = b +ℤ pos 1 -ℤ a in
    let is : pos (natural count) ≡ count = natural_pos count (omega (arith, ints)) in
    counted_in a v (natural count) h (omega (arith, ints, is))
