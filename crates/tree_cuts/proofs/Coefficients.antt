-- Coefficients counted.
--
-- Coefficients that are 0, 1 or -1 have as many other than 0 as there are 1 and -1 together, and of coefficients that
-- are 0 or 1 none lies outside -1 to 1. A coefficient that does is one other than 0.
use Rattle.std.proofs.Common.{◌≡◌, ◌+◌, ◌≤◌, ◌||◌, ℕ, ℤ, pos, negsuc, List, [], ◌∷◌, Bool, true, false, cond}
use Rattle.std.proofs.Common.{refl, sym, ap, ◌∙◌, subst, arith, inl, inr}
use Rattle.std.specs.Prelude.{nat_lt, not, unsigned_abs, All, IfSome, Option, Some, None}
use Rattle.std.specs.List.{count_by, find, list_all}
use Rattle.std.specs.Ordering.{int_eq}
use Rattle.std.proofs.lemmas.Int.{ints}
use Rattle.std.proofs.lemmas.List.Elements.{All-head, All-tail}
use Rattle.std.proofs.lemmas.List.Sums.{sum_by-cons}
use Rattle.std.proofs.lemmas.Option.{same_Some}
use Rattle.std.proofs.lemmas.Bool.{and_parts, or_cases}
use Rattle.affine_core.proofs.Integers.{int_eq-true}

abbrev pub is_other : ℤ → Bool
is_other c = not (int_eq c (pos 0))

abbrev pub is_one : ℤ → Bool
is_one c = int_eq c (pos 1)

abbrev pub is_less : ℤ → Bool
is_less c = int_eq c (negsuc 0)

abbrev pub is_bit : ℤ → Bool
is_bit c = int_eq c (pos 0) || int_eq c (pos 1)

abbrev pub is_trit : ℤ → Bool
is_trit c = int_eq c (pos 0) || (int_eq c (pos 1) || int_eq c (negsuc 0))

abbrev pub is_outside : ℤ → Bool
is_outside c = nat_lt 1 (unsigned_abs c)

-- how much an item adds to a count
abbrev pub once : Bool → ℕ
once passes = cond passes 1 0

abbrev pub how_many : (ℤ → Bool) → List ℤ → ℕ
how_many p [] = 0
how_many p (c ∷ cs) = once (p c) + how_many p cs

pub how_many_is : (p : ℤ → Bool) (cs : List ℤ) → count_by p cs ≡ how_many p cs
how_many_is p [] = refl
how_many_is p (c ∷ cs) = sum_by-cons (λ d. once (p d)) c cs ∙ ap (λ n. once (p c) + n) (how_many_is p cs)

by_bit : (c : ℤ) (P : ℤ → Type 0) → is_bit c ≡ true → P (pos 0) → P (pos 1) → P c
by_bit c P e zero_case one_case =
    elim (or_cases (int_eq c (pos 0)) (int_eq c (pos 1)) e) [
      | inl z ↦ subst P (sym (int_eq-true c (pos 0) z)) zero_case
      | inr o ↦ subst P (sym (int_eq-true c (pos 1) o)) one_case
    ]

by_trit : (c : ℤ) (P : ℤ → Type 0) → is_trit c ≡ true → P (pos 0) → P (pos 1) → P (negsuc 0) → P c
by_trit c P e zero_case one_case less_case =
    elim (or_cases (int_eq c (pos 0)) (int_eq c (pos 1) || int_eq c (negsuc 0)) e) [
      | inl z ↦ subst P (sym (int_eq-true c (pos 0) z)) zero_case
      | inr f ↦ elim (or_cases (int_eq c (pos 1)) (int_eq c (negsuc 0)) f) [
        | inl o ↦ subst P (sym (int_eq-true c (pos 1) o)) one_case
        | inr m ↦ subst P (sym (int_eq-true c (negsuc 0) m)) less_case
      ]
    ]

bit_counts : (c : ℤ) → is_bit c ≡ true → once (is_other c) ≡ once (is_one c)
bit_counts c e = by_bit c (λ c. once (is_other c) ≡ once (is_one c)) e refl refl

bit_inside : (c : ℤ) → is_bit c ≡ true → is_outside c ≡ false
bit_inside c e = by_bit c (λ c. is_outside c ≡ false) e refl refl

trit_counts : (c : ℤ) → is_trit c ≡ true → once (is_other c) ≡ once (is_one c) + once (is_less c)
trit_counts c e = by_trit c (λ c. once (is_other c) ≡ once (is_one c) + once (is_less c)) e refl refl refl

pub bits_count : (cs : List ℤ) → list_all is_bit cs ≡ true → how_many is_other cs ≡ how_many is_one cs
bits_count [] e = refl
bits_count (c ∷ cs) e =
    let b = and_parts (is_bit c) (list_all is_bit cs) e in
    omega (arith, bit_counts c b.0, bits_count cs b.1)

pub bits_inside : (cs : List ℤ) → list_all is_bit cs ≡ true → find is_outside cs ≡ None
bits_inside [] e = refl
bits_inside (c ∷ cs) e =
    let b = and_parts (is_bit c) (list_all is_bit cs) e in
    ap (λ (outside : Bool). cond outside (Some c) (find is_outside cs)) (bit_inside c b.0) ∙ bits_inside cs b.1

pub trits_count : (cs : List ℤ) → list_all is_trit cs ≡ true → how_many is_other cs ≡ how_many is_one cs + how_many is_less cs
trits_count [] e = refl
trits_count (c ∷ cs) e =
    let b = and_parts (is_trit c) (list_all is_trit cs) e in
    omega (arith, trit_counts c b.0, trits_count cs b.1)

outside_is_other : (c : ℤ) → is_outside c ≡ true → once (is_other c) ≡ 1
outside_is_other c e = go (is_other c) refl where
  go : (b : Bool) → is_other c ≡ b → once (is_other c) ≡ 1
  go true is = ap once is
  go false is = absurd (grind (arith, ints))

pub outside_counts : (cs : List ℤ) (c : ℤ) → find is_outside cs ≡ Some c → 1 ≤ how_many is_other cs
outside_counts [] c e = absurd (let no : None ≡ Some c = e in cc)
outside_counts (d ∷ cs) c e = go (outside_counts cs c) (is_outside d) refl e where
  go : (find is_outside cs ≡ Some c → 1 ≤ how_many is_other cs) → (b : Bool) → is_outside d ≡ b
      → cond b (Some d) (find is_outside cs) ≡ Some c → 1 ≤ once (is_other d) + how_many is_other cs
  go rest true is e = omega (arith, outside_is_other d is)
  go rest false is e = omega (arith, rest e)

pub none_other : (c : ℤ) → once (is_other c) ≡ 0 → c ≡ pos 0
none_other c e = go (int_eq c (pos 0)) refl e where
  go : (b : Bool) → int_eq c (pos 0) ≡ b → once (not b) ≡ 0 → c ≡ pos 0
  go true is e = int_eq-true c (pos 0) is
  go false is e = absurd (let no : 1 ≡ 0 = e in omega (arith, no))

-- the first coefficient outside -1 to 1

pub found_passes : (cs : List ℤ) (c : ℤ) → find is_outside cs ≡ Some c → is_outside c ≡ true
found_passes [] c e = absurd (let no : None ≡ Some c = e in cc)
found_passes (d ∷ cs) c e = go (found_passes cs c) (is_outside d) refl e where
  go : (find is_outside cs ≡ Some c → is_outside c ≡ true) → (b : Bool) → is_outside d ≡ b
      → cond b (Some d) (find is_outside cs) ≡ Some c → is_outside c ≡ true
  go rest true is e = ap is_outside (sym (same_Some d c e)) ∙ is
  go rest false is e = rest e

pub found_within : (bound : ℕ) (cs : List ℤ) (c : ℤ) → All (λ c. unsigned_abs c ≤ bound) cs
    → find is_outside cs ≡ Some c → unsigned_abs c ≤ bound
found_within bound [] c h e = absurd (let no : None ≡ Some c = e in cc)
found_within bound (d ∷ cs) c h e = go (found_within bound cs c (All-tail (λ c. unsigned_abs c ≤ bound) d cs h))
    (is_outside d) e where
      go : (find is_outside cs ≡ Some c → unsigned_abs c ≤ bound) → (b : Bool)
          → cond b (Some d) (find is_outside cs) ≡ Some c → unsigned_abs c ≤ bound
      go rest true e = omega (arith, ap unsigned_abs (same_Some d c e), All-head (λ c. unsigned_abs c ≤ bound) d cs h)
      go rest false e = rest e

pub found_small : (bound : ℕ) (cs : List ℤ) (o : Option ℤ) → All (λ c. unsigned_abs c ≤ bound) cs
    → o ≡ find is_outside cs → IfSome o (λ c. unsigned_abs c ≤ bound)
found_small bound cs None h e = tt
found_small bound cs (Some c) h e = found_within bound cs c h (sym e)
