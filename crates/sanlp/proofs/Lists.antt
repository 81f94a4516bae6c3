-- Elements of joined, counted and filtered lists. Of the numbers from a on, what std's `FromFn` lacks.
use Rattle.std.proofs.Common.{◌≡◌, ◌≢◌, ◌<◌, ◌≤◌, ℕ, zero, suc, ◌+◌, ℤ, pos, List, [], ◌∷◌, ◌++◌, map, length, take}
use Rattle.std.proofs.Common.{drop, set, replicate, refl, sym, ap, ◌∙◌, arith}
use Rattle.std.specs.Prelude.{Some, slice_get, slice_index_or}
use Rattle.std.specs.List.{flat_map, range_with_len}
use Rattle.std.specs.Option.{option_map}
use Rattle.std.proofs.lemmas.List.{append-nil, append_assoc, get_or_at, length_push}
use Rattle.std.proofs.lemmas.List.Concat.{flat_map-append}
use Rattle.std.proofs.lemmas.Option.{same_Some, slice_get-map}

-- a list round the element at a place
pub split_at : {X : Type 0} (xs : List X) (i : ℕ) (x : X) → slice_get xs i ≡ Some x
    → (xs ≡ take i xs ++ x ∷ drop (suc i) xs) × (length (take i xs) ≡ i)
split_at [] i x e = absurd (cc)
split_at (y ∷ xs) zero x e = (ap (λ z. z ∷ xs) (same_Some y x e), refl)
split_at (y ∷ xs) (suc i) x e = let rest = split_at xs i x e in (ap (λ zs. y ∷ zs) rest.0, ap suc rest.1)

pub range_with_len-append : (a m n : ℕ) → range_with_len a (m + n) ≡ range_with_len a m ++ range_with_len (a + m) n
range_with_len-append a zero n =
    let e : 0 + n ≡ n =
    omega arith in let f : a ≡ a + 0 = omega arith in ap (range_with_len a) e ∙ ap (λ b. range_with_len b n) f
range_with_len-append a (suc m) n =
    let e : suc m + n ≡ suc (m + n) = omega arith in
    let f : a + 1 + m ≡ a + suc m = omega arith in
    ap (range_with_len a) e
    ∙ ap (λ ks. a ∷ ks) (range_with_len-append (a + 1) m n ∙ ap (λ b. range_with_len (a + 1) m ++ range_with_len b n) f)

-- one number more
pub range_with_len_more : (a n j : ℕ) → a + n ≡ j → range_with_len a (n + 1) ≡ range_with_len a n ++ j ∷ []
range_with_len_more a n j e = range_with_len-append a n 1 ∙ ap (λ k. range_with_len a n ++ k ∷ []) e

pub flat_map-range_with_len_more : {X : Type 0} (f : ℕ → List X) (a n j : ℕ) → a + n ≡ j
    → flat_map f (range_with_len a (n + 1)) ≡ flat_map f (range_with_len a n) ++ f j
flat_map-range_with_len_more f a n j e =
    ap (flat_map f) (range_with_len_more a n j e) ∙ flat_map-append f (range_with_len a n) (j ∷ [])
    ∙ ap (λ xs. flat_map f (range_with_len a n) ++ xs) (append-nil (f j))

-- the number at a place
pub slice_get-range_with_len : (a n i j : ℕ) → i < n → a + i ≡ j → slice_get (range_with_len a n) i ≡ Some j
slice_get-range_with_len a zero i j h e = absurd (omega arith)
slice_get-range_with_len a (suc n) zero j h e = ap Some (omega arith)
slice_get-range_with_len a (suc n) (suc i) j h e = slice_get-range_with_len (a + 1) n i j (omega arith) (omega arith)

pub slice_get-map-range_with_len : {X : Type 0} (f : ℕ → X) (a n i j : ℕ) → i < n → a + i ≡ j
    → slice_get (map f (range_with_len a n)) i ≡ Some (f j)
slice_get-map-range_with_len f a n i j h e =
    slice_get-map f (range_with_len a n) i ∙ ap (option_map f) (slice_get-range_with_len a n i j h e)

-- two functions that agree on these numbers
pub map-range_with_len_same : {X : Type 0} (f g : ℕ → X) (a n : ℕ) → ((k : ℕ) → a ≤ k → k < a + n → f k ≡ g k)
    → map f (range_with_len a n) ≡ map g (range_with_len a n)
map-range_with_len_same f g a zero same = refl
map-range_with_len_same f g a (suc n) same =
    ap (λ x. x ∷ map f (range_with_len (a + 1) n)) (same a (omega arith) (omega arith))
    ∙ ap (λ xs. g a ∷ xs) (map-range_with_len_same f g (a + 1) n (λ k l r. same k (omega arith) (omega arith)))

-- a function that takes one more at i alone
pub set_counted : (f g : ℕ → ℕ) (i : ℕ) → g i ≡ f i + 1 → ((k : ℕ) → k ≢ i → f k ≡ g k)
    → (a m j : ℕ) → a + j ≡ i → set (map f (range_with_len a m)) j (f i + 1) ≡ map g (range_with_len a m)
set_counted f g i more same a zero j e = refl
set_counted f g i more same a (suc m) zero e =
    let here : i ≡ a = omega arith in
    ap (λ x. x ∷ map f (range_with_len (a + 1) m)) (sym more ∙ ap g here)
    ∙ ap (λ xs. g a ∷ xs) (map-range_with_len_same f g (a + 1) m (λ k h l. same k (λ is. omega arith)))
set_counted f g i more same a (suc m) (suc j) e =
    ap (λ x. x ∷ set (map f (range_with_len (a + 1) m)) j (f i + 1)) (same a (λ is. omega arith))
    ∙ ap (λ xs. g a ∷ xs) (set_counted f g i more same (a + 1) m j (omega arith))

pub flat_map-range_with_len_same : {X : Type 0} (f g : ℕ → List X) (a n : ℕ) → ((k : ℕ) → a ≤ k → k < a + n → f k ≡ g k)
    → flat_map f (range_with_len a n) ≡ flat_map g (range_with_len a n)
flat_map-range_with_len_same f g a zero same = refl
flat_map-range_with_len_same f g a (suc n) same =
    ap (λ xs. xs ++ flat_map f (range_with_len (a + 1) n)) (same a (omega arith) (omega arith))
    ∙ ap (λ xs. g a ++ xs) (flat_map-range_with_len_same f g (a + 1) n (λ k l r. same k (omega arith) (omega arith)))

pub map-range_with_len_replicate : {X : Type 0} (f : ℕ → X) (x : X) (a n : ℕ) → ((k : ℕ) → f k ≡ x)
    → map f (range_with_len a n) ≡ replicate n x
map-range_with_len_replicate f x a zero same = refl
map-range_with_len_replicate f x a (suc n) same =
    ap (λ y. y ∷ map f (range_with_len (a + 1) n)) (same a)
    ∙ ap (λ xs. x ∷ xs) (map-range_with_len_replicate f x (a + 1) n same)

-- the elements at all places from the length of a front on
elements_after : (front at : List ℤ)
    → map (λ v. slice_index_or (front ++ at) v (pos 0)) (range_with_len (length front) (length at)) ≡ at
elements_after front [] = refl
elements_after front (x ∷ at) =
    let longer : List ℤ = front ++ x ∷ [] in
    ap (λ v. v ∷ map (λ v. slice_index_or (front ++ x ∷ at) v (pos 0)) (range_with_len (length front + 1) (length at)))
    (get_or_at front x at (pos 0) (length front) refl)
    ∙ ap (λ l. x ∷ map (λ v. slice_index_or l v (pos 0)) (range_with_len (length front + 1) (length at)))
    (sym (append_assoc front (x ∷ []) at))
    ∙ ap (λ k. x ∷ map (λ v. slice_index_or (longer ++ at) v (pos 0)) (range_with_len k (length at)))
    (sym (length_push front x))
    ∙ ap (λ vs. x ∷ vs) (elements_after longer at)

pub all_elements : (at : List ℤ) → map (λ v. slice_index_or at v (pos 0)) (range_with_len 0 (length at)) ≡ at
all_elements at = elements_after [] at
