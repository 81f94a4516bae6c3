-- Membership in lists, and lists in which each element relates to all later ones.
use Rattle.std.proofs.Common.{◌≡◌, ◌<◌, ◌≤◌, ℕ, zero, suc, ◌+◌, Bool, true, List, [], ◌∷◌, ◌++◌, map, ◌⊎◌, inl, inr}
use Rattle.std.proofs.Common.{refl, sym, ap, ◌∙◌, subst, arith}
use Rattle.std.specs.Prelude.{Some, slice_get}
use Rattle.std.specs.List.{filter, flat_map, range_with_len}
use Rattle.std.proofs.lemmas.Bool.{cases_Bool, cases_lt}
use Rattle.std.proofs.lemmas.Option.{same_Some}
use Rattle.sanlp.proofs.Each.{Each, each_append, each_left, each_right, each_then, range_with_len_above}

abbrev pub In : {X : Type 0} → X → List X → Type 0
In x [] = ⊥
In x (y ∷ ys) = (y ≡ x) ⊎ In x ys

pub in_left : {X : Type 0} (x : X) (xs ys : List X) → In x xs → In x (xs ++ ys)
in_left x [] ys h = absurd h
in_left x (y ∷ xs) ys h = elim h [ inl e ↦ inl e | inr k ↦ inr (in_left x xs ys k) ]

pub in_right : {X : Type 0} (x : X) (xs ys : List X) → In x ys → In x (xs ++ ys)
in_right x [] ys h = h
in_right x (y ∷ xs) ys h = inr (in_right x xs ys h)

pub in_cases : {X : Type 0} (x : X) (xs ys : List X) → In x (xs ++ ys) → In x xs ⊎ In x ys
in_cases x [] ys h = inr h
in_cases x (y ∷ xs) ys h =
    elim h [ inl e ↦ inl (inl e) | inr k ↦ elim (in_cases x xs ys k) [ inl l ↦ inl (inr l) | inr r ↦ inr r ] ]

pub in_flat_map : {X Y : Type 0} (f : X → List Y) (x : X) (y : Y) (xs : List X) → In x xs → In y (f x)
    → In y (flat_map f xs)
in_flat_map f x y [] h k = h
in_flat_map f x y (z ∷ xs) h k =
    elim h [
      | inl e ↦ in_left y (f z) (flat_map f xs) (subst (λ w. In y (f w)) (sym e) k)
      | inr l ↦ in_right y (f z) (flat_map f xs) (in_flat_map f x y xs l k)
    ]

pub in_map : {X Y : Type 0} (f : X → Y) (xs : List X) (x : X) → In x xs → In (f x) (map f xs)
in_map f [] x h = h
in_map f (y ∷ xs) x h = elim h [ inl e ↦ inl (ap f e) | inr l ↦ inr (in_map f xs x l) ]

pub in_filter : {X : Type 0} (test : X → Bool) (xs : List X) (x : X) → In x xs → test x ≡ true → In x (filter test xs)
in_filter test [] x h k = absurd h
in_filter test (y ∷ xs) x h k =
    elim h [
      | inl e ↦ (let kept : test y ≡ true = ap test e ∙ k in rw kept (inl e))
      | inr l ↦ (let later = in_filter test xs x l k in elim
          (cases_Bool (test y)) [ inl a ↦ rw a (inr later) | inr a ↦ rw a later ])
    ]

pub from_flat_map : {X Y : Type 0} (f : X → List Y) (y : Y) (xs : List X) → In y (flat_map f xs)
    → (x : X) × In x xs × In y (f x)
from_flat_map f y [] h = absurd h
from_flat_map f y (x ∷ xs) h = elim (in_cases y (f x) (flat_map f xs) h) [
  | inl k ↦ (x, inl refl, k)
  | inr k ↦ (let rest = from_flat_map f y xs k in (rest.0, inr rest.1, rest.2))
]

pub in_at : {X : Type 0} (x : X) (xs : List X) → In x xs → (t : ℕ) × (slice_get xs t ≡ Some x)
in_at x [] h = absurd h
in_at x (y ∷ xs) h = elim h [ inl e ↦ (0, ap Some e) | inr k ↦ (let rest = in_at x xs k in (suc rest.0, rest.1)) ]

pub at_in : {X : Type 0} (x : X) (xs : List X) (t : ℕ) → slice_get xs t ≡ Some x → In x xs
at_in x [] t e = cc
at_in x (y ∷ xs) zero e = inl (same_Some y x e)
at_in x (y ∷ xs) (suc t) e = inr (at_in x xs t e)

pub each_in : {X : Type 0} (P : X → Type 0) (x : X) (xs : List X) → Each P xs → In x xs → P x
each_in P x [] h k = absurd k
each_in P x (y ∷ xs) h k = elim k [ inl e ↦ subst P e h.0 | inr l ↦ each_in P x xs h.1 l ]

pub each_from_in : {X : Type 0} (P : X → Type 0) (xs : List X) → ((x : X) → In x xs → P x) → Each P xs
each_from_in P [] f = tt
each_from_in P (x ∷ xs) f = (f x (inl refl), each_from_in P xs (λ y h. f y (inr h)))

-- each element relates to all later ones
abbrev pub Pairwise : {X : Type 0} → (X → X → Type 0) → List X → Type 0
Pairwise R [] = Unit {0}
Pairwise R (x ∷ xs) = Each (R x) xs × Pairwise R xs

pub pairwise_append : {X : Type 0} (R : X → X → Type 0) (xs ys : List X) → Pairwise R xs → Pairwise R ys
    → ((x y : X) → In x xs → In y ys → R x y) → Pairwise R (xs ++ ys)
pairwise_append R [] ys h k f = k
pairwise_append R (x ∷ xs) ys h k f = (
  each_append (R x) xs ys h.0 (each_from_in (R x) ys (λ y. f x y (inl refl))),
  pairwise_append R xs ys h.1 k (λ w y l. f w y (inr l)),
)

pub pairwise_left : {X : Type 0} (R : X → X → Type 0) (xs ys : List X) → Pairwise R (xs ++ ys) → Pairwise R xs
pairwise_left R [] ys h = tt
pairwise_left R (x ∷ xs) ys h = (each_left (R x) xs ys h.0, pairwise_left R xs ys h.1)

pub pairwise_right : {X : Type 0} (R : X → X → Type 0) (xs ys : List X) → Pairwise R (xs ++ ys) → Pairwise R ys
pairwise_right R [] ys h = h
pairwise_right R (x ∷ xs) ys h = pairwise_right R xs ys h.1

pub pairwise_across : {X : Type 0} (R : X → X → Type 0) (xs ys : List X) (x y : X) → Pairwise R (xs ++ ys) → In x xs
    → In y ys → R x y
pairwise_across R [] ys x y h k l = absurd k
pairwise_across R (z ∷ xs) ys x y h k l = elim k [
  | inl e ↦ subst (λ w. R w y) e (each_in (R z) y ys (each_right (R z) xs ys h.0) l)
  | inr m ↦ pairwise_across R xs ys x y h.1 m l
]

pub pairwise_at : {X : Type 0} (R : X → X → Type 0) (xs : List X) (t u : ℕ) (x y : X) → Pairwise R xs
    → slice_get xs t ≡ Some x → slice_get xs u ≡ Some y → t < u → R x y
pairwise_at R [] t u x y h e f lt = absurd (cc)
pairwise_at R (z ∷ xs) zero zero x y h e f lt = absurd (omega arith)
pairwise_at R (z ∷ xs) zero (suc u) x y h e f lt =
    subst (λ w. R w y) (same_Some z x e) (each_in (R z) y xs h.0 (at_in y xs u f))
pairwise_at R (z ∷ xs) (suc t) zero x y h e f lt = absurd (omega arith)
pairwise_at R (z ∷ xs) (suc t) (suc u) x y h e f lt = pairwise_at R xs t u x y h.1 e f (omega arith)

pub pairwise_flat_map : {X Y : Type 0} (S : X → X → Type 0) (R : Y → Y → Type 0) (f : X → List Y) (xs : List X)
    → Pairwise S xs
    → ((x : X) → In x xs → Pairwise R (f x))
    → ((x z : X) → In x xs → In z xs → S x z → (y w : Y) → In y (f x) → In w (f z) → R y w) → Pairwise R (flat_map f xs)
pairwise_flat_map S R f [] h each across = tt
pairwise_flat_map S R f (x ∷ xs) h each across =
    pairwise_append R (f x) (flat_map f xs) (each x (inl refl))
    (pairwise_flat_map S R f xs h.1 (λ z k. each z (inr k)) (λ y z k l. across y z (inr k) (inr l)))
    (λ y w k l. let from = from_flat_map f w xs l in across x from.0 (inl refl) (inr from.1)
    (each_in (S x) from.0 xs h.0 from.1) y w k from.2)

pub range_with_len_ascends : (a n : ℕ) → Pairwise (λ j k. j < k) (range_with_len a n)
range_with_len_ascends a zero = tt
range_with_len_ascends a (suc n) = (
  each_then (λ k. a + 1 ≤ k) (λ k. a < k) (range_with_len (a + 1) n) (λ k h. omega arith)
      (range_with_len_above (a + 1) (a + 1) n (omega arith)),
  range_with_len_ascends (a + 1) n,
)

pub in_range_with_len : (a n k : ℕ) → a ≤ k → k < a + n → In k (range_with_len a n)
in_range_with_len a zero k h l = absurd (omega arith)
in_range_with_len a (suc n) k h l =
    elim (cases_lt a k)
    [ inl lt ↦ inr (in_range_with_len (a + 1) n k (omega arith) (omega arith)) | inr le ↦ inl (omega arith) ]
