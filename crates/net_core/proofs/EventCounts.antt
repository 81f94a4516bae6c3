-- Counts over the first events of a script, and functions that were changed at one place.
use Rattle.std.proofs.Common.{◌≡◌, ℕ, zero, suc, ◌+◌, ◌<◌, ◌≤◌, Bool, true, cond, eqb, Some, None, List, [], ◌∷◌, ◌++◌}
use Rattle.std.proofs.Common.{take, slice_get, count_by, refl, arith, ne_eqb, eq-eqb}
use Rattle.std.proofs.lemmas.Bool.{cond-true, cond-false}
use Rattle.std.proofs.lemmas.List.Sums.{sum_by-append, sum_by-cons}
use Rattle.net_core.specs.Machine.{replaced}

pub count_cons : {X : Type 0} (q : X → Bool) (x : X) (xs : List X)
    → count_by q (x ∷ xs) ≡ cond (q x) 1 0 + count_by q xs
count_cons q x xs = sum_by-cons (λ y. cond (q y) 1 0) x xs

pub count-append : {X : Type 0} (q : X → Bool) (xs ys : List X) → count_by q (xs ++ ys) ≡ count_by q xs + count_by q ys
count-append q xs ys = sum_by-append (λ y. cond (q y) 1 0) xs ys

pub count_next : {X : Type 0} (q : X → Bool) (xs : List X) (i : ℕ) (e : X) → slice_get xs i ≡ Some e
    → count_by q (take (suc i) xs) ≡ count_by q (take i xs) + cond (q e) 1 0
count_next q [] i e h = cc
count_next q (x ∷ xs) zero e h = let s : x ≡ e = cc in rw s (omega arith)
count_next q (x ∷ xs) (suc i) e h =
    omega (arith, count_next q xs i e h, count_cons q x (take (suc i) xs), count_cons q x (take i xs))

pub count_mono : {X : Type 0} (q : X → Bool) (xs : List X) (i j : ℕ) → i ≤ j
    → count_by q (take i xs) ≤ count_by q (take j xs)
count_mono q xs zero j h = omega arith
count_mono q [] (suc i) zero h = omega arith
count_mono q [] (suc i) (suc j) h = omega arith
count_mono q (x ∷ xs) (suc i) zero h = absurd (omega arith)
count_mono q (x ∷ xs) (suc i) (suc j) h =
    omega (arith, count_mono q xs i j (omega arith), count_cons q x (take j xs), count_cons q x (take i xs))

-- the event at i is counted, so the count past it is greater
pub count_past : {X : Type 0} (q : X → Bool) (xs : List X) (i j : ℕ) (e : X) → slice_get xs i ≡ Some e → q e ≡ true
    → i < j → count_by q (take i xs) < count_by q (take j xs)
count_past q xs i j e h t l =
    let here : cond {A = ℕ} (q e) 1 0 ≡ 1 = cond-true (q e) 1 0 t in
    omega (arith, count_next q xs i e h, count_mono q xs (suc i) j l)

pub replaced_same : {X : Type 0} (f : ℕ → X) (p : ℕ) (x : X) (q : ℕ) → q ≡ p → replaced f p x q ≡ x
replaced_same f p x q e = cond-true (eqb q p) x (f q) (eq-eqb q p e)

pub replaced_other : {X : Type 0} (f : ℕ → X) (p : ℕ) (x : X) (q : ℕ) → (q ≡ p → ⊥) → replaced f p x q ≡ f q
replaced_other f p x q d = cond-false (eqb q p) x (f q) (ne_eqb q p d)

-- past the end nothing more is counted
pub count_none : {X : Type 0} (q : X → Bool) (xs : List X) (i : ℕ) → slice_get xs i ≡ None
    → count_by q (take (suc i) xs) ≡ count_by q (take i xs)
count_none q [] zero h = refl
count_none q [] (suc i) h = refl
count_none q (x ∷ xs) zero h = cc
count_none q (x ∷ xs) (suc i) h =
    omega (arith, count_none q xs i h, count_cons q x (take (suc i) xs), count_cons q x (take i xs))
