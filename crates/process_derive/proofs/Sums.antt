-- Sums over lists and over numbers that are counted up.
use Rattle.std.proofs.Common.{◌≡◌, ◌≢◌, ◌<◌, ◌≤◌, ◌+◌, ◌-◌, ◌*◌, ℕ, zero, suc, Bool, true, false, cond, eqb, List, []}
use Rattle.std.proofs.Common.{◌∷◌, map, length, take, refl, sym, ap, ◌∙◌, inl, inr, arith, eqb-true, le_of_eq, mul-add}
use Rattle.std.specs.Prelude.{Some, slice_get}
use Rattle.std.specs.List.{filter, flat_map, sum_by, range_with_len}
use Rattle.std.proofs.lemmas.Bool.{cases_Bool, cases_eq, eq-eqb, ne_eqb}
use Rattle.std.proofs.lemmas.List.Concat.{flat_map-cons}
use Rattle.std.proofs.lemmas.List.Sums.{sum_by-append, sum_by-cons, sum_by_push}
use Rattle.std.proofs.lemmas.Option.{same_Some}
use Rattle.sanlp.proofs.Lists.{range_with_len_more, slice_get-range_with_len}

-- 1 where a test passes
abbrev pub one_if : Bool → ℕ
one_if b = cond b 1 0

pub one_if-le : (b : Bool) → one_if b ≤ 1
one_if-le true = omega arith
one_if-le false = omega arith

pub sum_within : {X : Type 0} (f : X → ℕ) (b m : ℕ) (xs : List X) → ((x : X) → f x ≤ b) → length xs ≤ m
    → sum_by f xs ≤ m * b
sum_within f b m [] all le = omega arith
sum_within f b zero (x ∷ xs) all le = absurd (omega arith)
sum_within f b (suc m) (x ∷ xs) all le = omega (arith, sum_by-cons f x xs, all x, sum_within f b m xs all (omega arith))

pub sum_joined : {X Y : Type 0} (f : Y → ℕ) (g : X → List Y) (xs : List X)
    → sum_by f (flat_map g xs) ≡ sum_by (λ x. sum_by f (g x)) xs
sum_joined f g [] = refl
sum_joined f g (x ∷ xs) =
    ap (sum_by f) (flat_map-cons g x xs) ∙ sum_by-append f (g x) (flat_map g xs)
    ∙ ap (λ k. sum_by f (g x) + k) (sum_joined f g xs)
    ∙ sym (sum_by-cons (λ x. sum_by f (g x)) x xs)

pub sum_map : {X Y : Type 0} (f : Y → ℕ) (g : X → Y) (xs : List X) → sum_by f (map g xs) ≡ sum_by (λ x. f (g x)) xs
sum_map f g [] = refl
sum_map f g (x ∷ xs) =
    sum_by-cons f (g x) (map g xs) ∙ ap (λ k. f (g x) + k) (sum_map f g xs) ∙ sym (sum_by-cons (λ x. f (g x)) x xs)

pub sum_filter : {X : Type 0} (f : X → ℕ) (test : X → Bool) (xs : List X) → sum_by f (filter test xs) ≤ sum_by f xs
sum_filter f test [] = omega arith
sum_filter f test (x ∷ xs) =
    elim (cases_Bool (test x)) [
      | inl kept ↦ rw kept (omega (arith, sum_by-cons f x (filter test xs), sum_by-cons f x xs, sum_filter f test xs))
      | inr left ↦ rw left (omega (arith, sum_by-cons f x xs, sum_filter f test xs))
    ]

pub sum_at : {X : Type 0} (f : X → ℕ) (xs : List X) (k : ℕ) (x : X) → slice_get xs k ≡ Some x
    → sum_by f (take k xs) + f x ≤ sum_by f xs
sum_at f [] k x e = absurd (cc)
sum_at f (y ∷ xs) zero x e = omega (arith, sum_by-cons f y xs, ap f (same_Some y x e))
sum_at f (y ∷ xs) (suc k) x e = omega (arith, sum_by-cons f y (take k xs), sum_by-cons f y xs, sum_at f xs k x e)

pub sum_scaled : {X : Type 0} (c : ℕ) (f g : X → ℕ) (xs : List X) → ((x : X) → f x ≤ c * g x)
    → sum_by f xs ≤ c * sum_by g xs
sum_scaled c f g [] all = omega arith
sum_scaled c f g (x ∷ xs) all =
    let whole = ap (λ k. c * k) (sum_by-cons g x xs) ∙ mul-add c (g x) (sum_by g xs) in
    omega (arith, sum_by-cons f x xs, whole, all x, sum_scaled c f g xs all)

-- the numbers from a on, below a + m
pub sum_counted : (f g : ℕ → ℕ) (a m : ℕ) → ((k : ℕ) → a ≤ k → k < a + m → f k ≤ g k)
    → sum_by f (range_with_len a m) ≤ sum_by g (range_with_len a m)
sum_counted f g a zero all = omega arith
sum_counted f g a (suc m) all =
    omega (
      arith,
      sum_by-cons f a (range_with_len (a + 1) m),
      sum_by-cons g a (range_with_len (a + 1) m),
      all a (omega arith) (omega arith),
      sum_counted f g (a + 1) m (λ k h l. all k (omega arith) (omega arith)),
    )

pub sum_added : {X : Type 0} (f g : X → ℕ) (xs : List X) → sum_by (λ x. f x + g x) xs ≡ sum_by f xs + sum_by g xs
sum_added f g [] = refl
sum_added f g (x ∷ xs) =
    let more = sum_added f g xs in
    omega (arith, sum_by-cons (λ x. f x + g x) x xs, sum_by-cons f x xs, sum_by-cons g x xs)

pub sum_none : {X : Type 0} (xs : List X) → sum_by (λ x. 0) xs ≡ 0
sum_none [] = refl
sum_none (x ∷ xs) = omega (arith, sum_by-cons (λ y. 0) x xs, sum_none xs)

pub sum_same : {X : Type 0} (f g : X → ℕ) (xs : List X) → ((x : X) → f x ≡ g x) → sum_by f xs ≡ sum_by g xs
sum_same f g [] same = refl
sum_same f g (x ∷ xs) same = omega (arith, sum_by-cons f x xs, sum_by-cons g x xs, same x, sum_same f g xs same)

-- sums may change places
pub sum_turned : {X Y : Type 0} (f : X → Y → ℕ) (xs : List X) (ys : List Y)
    → sum_by (λ x. sum_by (f x) ys) xs ≡ sum_by (λ y. sum_by (λ x. f x y) xs) ys
sum_turned f [] ys = sym (sum_none ys)
sum_turned f (x ∷ xs) ys =
    sum_by-cons (λ x. sum_by (f x) ys) x xs ∙ ap (λ k. sum_by (f x) ys + k) (sum_turned f xs ys)
    ∙ sym (sum_added (f x) (λ y. sum_by (λ x. f x y) xs) ys)
    ∙ sum_same (λ y. f x y + sum_by (λ x. f x y) xs) (λ y. sum_by (λ x. f x y) (x ∷ xs)) ys
    (λ y. sym (sum_by-cons (λ x. f x y) x xs))

pub sum_push : (f : ℕ → ℕ) (k : ℕ) → sum_by f (range_with_len 0 (suc k)) ≡ sum_by f (range_with_len 0 k) + f k
sum_push f k =
    let more : suc k ≡ k + 1 = omega arith in
    ap (λ m. sum_by f (range_with_len 0 m)) more ∙ ap (sum_by f) (range_with_len_more 0 k k (omega arith))
    ∙ sum_by_push f (range_with_len 0 k) k

-- only the number p adds, and no more than b
pub sum_one : (f : ℕ → ℕ) (p b a m : ℕ) → ((q : ℕ) → eqb q p ≡ false → f q ≡ 0) → f p ≤ b
    → sum_by f (range_with_len a m) ≤ b
sum_one f p b a zero none le = omega arith
sum_one f p b a (suc m) none le =
    elim (cases_Bool (eqb a p)) [
      | inl here ↦
          let same = eqb-true a p here in
          omega (
            arith,
            sum_by-cons f a (range_with_len (a + 1) m),
            ap f same,
            sum_counted f (λ q. 0) (a + 1) m (λ q from below. le_of_eq (none q (ne_eqb q p (λ e. omega (arith, same))))),
            sum_none (range_with_len (a + 1) m),
          )
      | inr there ↦ omega
          (arith, sum_by-cons f a (range_with_len (a + 1) m), none a there, sum_one f p b (a + 1) m none le)
    ]

-- a function that takes at least d more at i alone
pub sum_raised : (f g : ℕ → ℕ) (i d : ℕ) → f i + d ≤ g i → ((k : ℕ) → k ≢ i → f k ≡ g k)
    → (a m : ℕ) → a ≤ i → i < a + m → sum_by f (range_with_len a m) + d ≤ sum_by g (range_with_len a m)
sum_raised f g i d more same a m le lt =
    let grows : (k : ℕ) → f k + (g k - f k) ≤ g k = λ k.
    elim (cases_eq k i) [
      | inl here ↦ omega (arith, more, ap f here, ap g here)
      | inr other ↦ omega (arith, same k other)
    ] in
    omega (
      arith,
      more,
      sum_added f (λ k. g k - f k) (range_with_len a m),
      sum_counted (λ k. f k + (g k - f k)) g a m (λ k from below. grows k),
      sum_at (λ k. g k - f k) (range_with_len a m) (i - a) i
          (slice_get-range_with_len a m (i - a) i (omega arith) (omega arith)),
    )

-- a function that takes at most d more at i alone
pub sum_risen : (f g : ℕ → ℕ) (i d : ℕ) → g i ≤ f i + d → ((k : ℕ) → k ≢ i → g k ≡ f k) → (a m : ℕ)
    → sum_by g (range_with_len a m) ≤ sum_by f (range_with_len a m) + d
sum_risen f g i d more same a m =
    let still : (k : ℕ) → eqb k i ≡ false → g k - f k ≡ 0 = λ k off.
    (let other : k ≢ i = λ e. (let bad : eqb k i ≡ true = eq-eqb k i e in absurd (cc)) in omega (arith, same k other)) in
    omega (
      arith,
      sum_counted g (λ k. f k + (g k - f k)) a m (λ k from below. omega arith),
      sum_added f (λ k. g k - f k) (range_with_len a m),
      sum_one (λ k. g k - f k) i d a m still (omega (arith, more)),
    )
