-- Division with rounding down.
use Rattle.std.proofs.Common.{◌≡◌, ◌*◌, ◌/◌, ◌%◌, ◌≤◌, ◌<◌, ◌==◌, ℕ, suc, ℤ, pos, negsuc, ◌+ℤ◌, ◌*ℤ◌, ◌<ℤ◌, List, []}
use Rattle.std.proofs.Common.{◌∷◌, map, not, false, ap, ◌∙◌, inl, inr, arith}
use Rattle.std.specs.Prelude.{None}
use Rattle.std.specs.List.{find}
use Rattle.std.specs.Int.RustNames.{unsigned_abs}
use Rattle.std.proofs.lemmas.Int.{ints}
use Rattle.std.proofs.lemmas.Bool.{cases_lt}
use Rattle.std.proofs.Math.Nat.{mul-le-mul_left}
use Rattle.affine_core.proofs.Ring.{sum_times, times_swap}
use Rattle.affine_core.proofs.Linear.{dot}
use Rattle.int_polyhedra.proofs.ListSearch.{mapped_none, find_none}
use Rattle.int_polyhedra.specs.Steps.{floor, not_divisible}

-- where d divides n + 1, the quotient of n is one less
next_quotient : (n d : ℕ) → 0 < d → suc n % d ≡ 0 → suc (n / d) * d ≡ suc n
next_quotient n d h e =
    let a : ℕ = n / d in
    let b : ℕ = suc n / d in
    elim (cases_lt a b) [
      | inl lt ↦ elim (cases_lt (suc a) b) [
        | inl more ↦ let m : suc (suc a) ≤ b = omega arith in absurd (omega (arith, mul-le-mul_left d m))
        | inr le ↦ let same : b ≡ suc a = omega arith in omega (arith, ap (λ (k : ℕ). k * d) same)
      ]
      | inr ge ↦ let m : b ≤ a = omega arith in absurd (omega (arith, mul-le-mul_left d m))
    ]

pub floor_exact : (c : ℤ) (d : ℕ) → 0 < d → unsigned_abs c % d ≡ 0 → c ≡ floor c d *ℤ pos d
floor_exact (pos n) d h e = omega (arith, ints)
floor_exact (negsuc n) d h e = omega (arith, ints, next_quotient n d h e)

pub floor_above : (z : ℤ) (d : ℕ) → 0 < d → z <ℤ ((floor z d +ℤ pos 1) *ℤ pos d)
floor_above (pos n) d h = omega (arith, ints, sum_times (pos (n / d)) (pos 1) (pos d))
floor_above (negsuc n) d h = omega (arith, ints, sum_times (negsuc (n / d)) (pos 1) (pos d))

pub divides_where : (m : ℕ) → not (m == 0) ≡ false → m ≡ 0
divides_where m e = grind arith

dot_quotients : (d : ℕ) (cs at : List ℤ) → 0 < d → find (λ c. not (unsigned_abs c % d == 0)) cs ≡ None
    → dot cs at ≡ dot (map (λ c. floor c d) cs) at *ℤ pos d
dot_quotients d [] at h e = omega (arith, ints)
dot_quotients d (c ∷ cs) [] h e = omega (arith, ints)
dot_quotients d (c ∷ cs) (v ∷ at) h e =
    let f = find_none (λ c. not (unsigned_abs c % d == 0)) c cs e in
    let exact : c ≡ floor c d *ℤ pos d = floor_exact c d h (divides_where (unsigned_abs c % d) f.0) in
    let front : c *ℤ v ≡ (floor c d *ℤ v) *ℤ pos d = ap (λ z. z *ℤ v) exact ∙ times_swap (floor c d) (pos d) v in
    omega (
      arith,
      ints,
      front,
      dot_quotients d cs at h f.1,
      sum_times (floor c d *ℤ v) (dot (map (λ c. floor c d) cs) at) (pos d),
    )

pub dot_floors : (d : ℕ) (cs at : List ℤ) → 0 < d → not_divisible d cs ≡ None
    → dot cs at ≡ dot (map (λ c. floor c d) cs) at *ℤ pos d
dot_floors d cs at h e = dot_quotients d cs at h (mapped_none _ (find (λ c. not (unsigned_abs c % d == 0)) cs) e)
