-- Items of lists at a place, as options: of joined lists, of fronts and ends, and what holds of each. Std reads an
-- item with `get_or`, which asks for a default; these go by `slice_get`.
use Rattle.std.proofs.Common.{◌≡◌, ℕ, zero, suc, ◌+◌, ◌-◌, ◌<◌, ◌≤◌, List, [], ◌∷◌, ◌++◌, length, take, drop, get_or, replicate}
use Rattle.std.proofs.Common.{Some, slice_get, slice_set, All, Contains, flat_map, map, sum_by, refl, ap, ◌∙◌, sym, subst, arith, add-one}
use Rattle.std.proofs.Common.{length-drop, ◌⊎◌, inl, inr, Bool, false, None}
use Rattle.std.specs.List.{AllZip, find, range_with_len}
use Rattle.std.proofs.lemmas.List.Elements.{All-nil, All-cons, All-append, Contains-append_right}
use Rattle.std.proofs.lemmas.List.FromFn.{get_or-range_with_len}
use Rattle.std.proofs.lemmas.List.Sums.{sum_by_more}
use Rattle.std.proofs.lemmas.Option.{none-some, same_Some, slice_get_within, slice_get_read, get_or_from_slice_get}
use Rattle.std.proofs.lemmas.Bool.{cases_Bool, cases_lt}
pub use Rattle.std.proofs.iter.runs.Lists.{nth_left as slice_get-append_left, nth_right as slice_get-append_right}
pub use Rattle.std.proofs.iter.runs.Lists.{nth_seam as slice_get_push}

-- The item at a place

pub slice_get-some : {A : Type 0} (xs : List A) (k : ℕ) → k < length xs → (x : A) × (slice_get xs k ≡ Some x)
slice_get-some [] k lt = absurd (omega arith)
slice_get-some (x ∷ xs) zero lt = (x, refl)
slice_get-some (x ∷ xs) (suc k) lt = slice_get-some xs k (omega arith)

-- as it is read from a list that is this one
pub slice_get_read_same : {A : Type 0} (xs ys : List A) (k : ℕ) (x : A) → ys ≡ xs → k < length ys → x ≡ get_or ys k x
    → slice_get xs k ≡ Some x
slice_get_read_same xs ys k x same lt is =
    ap (λ zs. slice_get zs k) (sym same) ∙ slice_get_read ys (length ys) k x refl lt is

pub slice_get-append_some : {A : Type 0} (xs ys : List A) (k : ℕ) (x : A) → slice_get xs k ≡ Some x
    → slice_get (xs ++ ys) k ≡ Some x
slice_get-append_some [] ys k x e = cc
slice_get-append_some (y ∷ xs) ys zero x e = e
slice_get-append_some (y ∷ xs) ys (suc k) x e = slice_get-append_some xs ys k x e

pub slice_get-append_cons : {A : Type 0} (xs : List A) (y : A) (ys : List A)
    → slice_get (xs ++ y ∷ ys) (length xs) ≡ Some y
slice_get-append_cons [] y ys = refl
slice_get-append_cons (x ∷ xs) y ys = slice_get-append_cons xs y ys

pub slice_get_push_at : {A : Type 0} (xs : List A) (y : A) (k : ℕ) → k ≡ length xs → slice_get (xs ++ y ∷ []) k ≡ Some y
slice_get_push_at xs y k e = ap (slice_get (xs ++ y ∷ [])) e ∙ slice_get_push xs y

-- an item of a list that was pushed to is one of before or the last
pub slice_get_push-cases : {A : Type 0} (xs : List A) (y : A) (k : ℕ) (x : A) → slice_get (xs ++ y ∷ []) k ≡ Some x
    → (slice_get xs k ≡ Some x) ⊎ ((k ≡ length xs) × (y ≡ x))
slice_get_push-cases [] y zero x is = inr (refl, same_Some y x is)
slice_get_push-cases [] y (suc k) x is = absurd (none-some x is)
slice_get_push-cases (z ∷ xs) y zero x is = inl is
slice_get_push-cases (z ∷ xs) y (suc k) x is = elim (slice_get_push-cases xs y k x is) [
  | inl before ↦ inl before
  | inr last ↦ inr (ap suc last.0, last.1)
]

-- a list with one item set
pub slice_get-set_same : {A : Type 0} (xs : List A) (i : ℕ) (y : A) → i < length xs
    → slice_get (slice_set xs i y) i ≡ Some y
slice_get-set_same [] i y lt = absurd (omega arith)
slice_get-set_same (x ∷ xs) zero y lt = refl
slice_get-set_same (x ∷ xs) (suc i) y lt = slice_get-set_same xs i y (omega arith)

pub slice_get-set_other : {A : Type 0} (xs : List A) (i j : ℕ) (y : A) → (j ≡ i → ⊥)
    → slice_get (slice_set xs i y) j ≡ slice_get xs j
slice_get-set_other [] zero j y other = refl
slice_get-set_other [] (suc i) j y other = refl
slice_get-set_other (x ∷ xs) zero zero y other = absurd (other refl)
slice_get-set_other (x ∷ xs) zero (suc j) y other = refl
slice_get-set_other (x ∷ xs) (suc i) zero y other = refl
slice_get-set_other (x ∷ xs) (suc i) (suc j) y other = slice_get-set_other xs i j y (λ e. other (ap suc e))

-- the parts of a list with a first item
pub same_head : {A : Type 0} (x y : A) (xs ys : List A) → x ∷ xs ≡ y ∷ ys → x ≡ y
same_head x y xs ys e = cc

pub same_tail : {A : Type 0} (x y : A) (xs ys : List A) → x ∷ xs ≡ y ∷ ys → xs ≡ ys
same_tail x y xs ys e = cc

-- Fronts and ends

pub slice_get-drop : {A : Type 0} (k : ℕ) (xs : List A) → slice_get (drop k xs) 0 ≡ slice_get xs k
slice_get-drop zero [] = refl
slice_get-drop zero (x ∷ xs) = refl
slice_get-drop (suc k) [] = refl
slice_get-drop (suc k) (x ∷ xs) = slice_get-drop k xs

pub take-suc_some : {A : Type 0} (xs : List A) (k : ℕ) (x : A) → slice_get xs k ≡ Some x
    → take (suc k) xs ≡ take k xs ++ x ∷ []
take-suc_some [] k x e = absurd (cc)
take-suc_some (y ∷ xs) zero x e = ap (λ z. z ∷ []) (same_Some y x e)
take-suc_some (y ∷ xs) (suc k) x e = ap (λ zs. y ∷ zs) (take-suc_some xs k x e)

pub drop-some : {A : Type 0} (xs : List A) (k : ℕ) (x : A) → slice_get xs k ≡ Some x → drop k xs ≡ x ∷ drop (suc k) xs
drop-some [] k x e = absurd (cc)
drop-some (y ∷ xs) zero x e = ap (λ z. z ∷ xs) (same_Some y x e)
drop-some (y ∷ xs) (suc k) x e = drop-some xs k x e

-- the first of what is left is the item there, and the others are left after it
pub drop_parts : {A : Type 0} (xs : List A) (k : ℕ) (x : A) (left : List A) → drop k xs ≡ x ∷ left
    → (slice_get xs k ≡ Some x) × (drop (suc k) xs ≡ left)
drop_parts [] zero x left e = absurd (cc)
drop_parts [] (suc k) x left e = absurd (cc)
drop_parts (y ∷ xs) zero x left e = (let f : y ≡ x = cc in ap Some f, let f : xs ≡ left = cc in f)
drop_parts (y ∷ xs) (suc k) x left e = drop_parts xs k x left e

-- of an end that is left of a list, the first item and what is left behind it
module _ {A : Type 0} (xs left later : List A) (x : A) (is : drop (length xs - length left) xs ≡ left)
    (first : left ≡ x ∷ later) where
  pub left-first : slice_get xs (length xs - length left) ≡ Some x
  left-first = (drop_parts xs (length xs - length left) x later (is ∙ first)).0

  pub left-length : length xs - length later ≡ suc (length xs - length left)
  left-length = omega (arith, length-drop (length xs - length left) xs, ap length is, ap length first)

  pub left-later : drop (length xs - length later) xs ≡ later
  left-later = ap (λ k. drop k xs) left-length ∙ (drop_parts xs (length xs - length left) x later (is ∙ first)).1

-- as it is read from a list that is this one
pub drop_read_same : {A : Type 0} (xs ys : List A) (k : ℕ) (x : A) → ys ≡ xs → k < length ys → x ≡ get_or ys k x
    → drop k xs ≡ x ∷ drop (k + 1) xs
drop_read_same xs ys k x same lt is =
    drop-some xs k x (slice_get_read_same xs ys k x same lt is) ∙ ap (λ m. x ∷ drop m xs) (sym (add-one k))

-- Each item

pub All-slice_get : {A : Type 0} (P : A → Type 0) (xs : List A) (k : ℕ) (x : A) → All P xs → slice_get xs k ≡ Some x
    → P x
All-slice_get P xs k x all is =
    subst P (get_or_from_slice_get xs k x x is) (all k x (slice_get_within xs k x is))

pub All-each : {A : Type 0} (P : A → Type 0) → ((x : A) → P x) → (xs : List A) → All P xs
All-each P each [] = All-nil P
All-each P each (x ∷ xs) = All-cons P x xs (each x) (All-each P each xs)

pub All-flat_map : {A B : Type 0} (P : B → Type 0) (f : A → List B) → ((x : A) → All P (f x)) → (xs : List A)
    → All P (flat_map f xs)
All-flat_map P f each [] = All-nil P
All-flat_map P f each (x ∷ xs) = All-append P (f x) (flat_map f xs) (each x) (All-flat_map P f each xs)

pub All-range_with_len : (a n b : ℕ) → a + n ≤ b → All (λ k. k < b) (range_with_len a n)
All-range_with_len a zero b le = All-nil (λ k. k < b)
All-range_with_len a (suc n) b le =
    All-cons (λ k. k < b) a (range_with_len (a + 1) n) (omega arith) (All-range_with_len (a + 1) n b (omega arith))

pub AllZip-push : {A B : Type 0} (P : A → B → Type 0) (xs : List A) (ys : List B) (x : A) (y : B) → AllZip P xs ys
    → P x y → AllZip P (xs ++ x ∷ []) (ys ++ y ∷ [])
AllZip-push P [] [] x y all one = (one, tt)
AllZip-push P [] (b ∷ ys) x y all one = absurd all
AllZip-push P (a ∷ xs) [] x y all one = absurd all
AllZip-push P (a ∷ xs) (b ∷ ys) x y all one = (all.0, AllZip-push P xs ys x y all.1 one)

pub map-same : {A B : Type 0} (f g : A → B) → ((x : A) → f x ≡ g x) → (xs : List A) → map f xs ≡ map g xs
map-same f g same [] = refl
map-same f g same (x ∷ xs) = ap (λ y. y ∷ map f xs) (same x) ∙ ap (λ ys. g x ∷ ys) (map-same f g same xs)

-- one element more, as it is found
pub sum_by_more_some : {A : Type 0} (f : A → ℕ) (xs : List A) (k : ℕ) (x : A) → slice_get xs k ≡ Some x
    → sum_by f (take (k + 1) xs) ≡ sum_by f (take k xs) + f x
sum_by_more_some f xs k x is =
    sum_by_more f xs k x (slice_get_within xs k x is)
    ∙ ap (λ y. sum_by f (take k xs) + f y) (get_or_from_slice_get xs k x x is)

pub Contains-first : {A : Type 0} (x : A) (xs : List A) → Contains (x ∷ xs) x
Contains-first x xs = (0, omega arith, refl)

pub Contains-later : {A : Type 0} (x : A) (xs : List A) (y : A) → Contains xs y → Contains (x ∷ xs) y
Contains-later x xs y there = Contains-append_right (x ∷ []) xs y there

-- where none of a range is found, each fails the test
pub find-range_with_len_none : (p : ℕ → Bool) (a n : ℕ) → find p (range_with_len a n) ≡ None → (m : ℕ) → a ≤ m
    → m < a + n → p m ≡ false
find-range_with_len_none p a zero e m above below = absurd (omega arith)
find-range_with_len_none p a (suc n) e m above below = elim (cases_Bool (p a)) [
  | inl here ↦ let found : Some a ≡ None = rw here at e in absurd (none-some a (sym found))
  | inr passed ↦ elim (cases_lt a m) [
    | inl later ↦
        let rest : find p (range_with_len (a + 1) n) ≡ None = rw passed at e in
        find-range_with_len_none p (a + 1) n rest m (omega arith) (omega arith)
    | inr first ↦ let same : m ≡ a = omega arith in rw same passed
  ]
]

-- Numbers and zeros

pub get_or-range_with_len_zero : (n k : ℕ) → k < n → get_or (range_with_len 0 n) k 0 ≡ k
get_or-range_with_len_zero n k lt = omega (arith, get_or-range_with_len 0 n k 0 lt)

-- a list of the default gives it everywhere
pub get_or-replicate_same : {A : Type 0} (n k : ℕ) (d : A) → get_or (replicate n d) k d ≡ d
get_or-replicate_same zero k d = refl
get_or-replicate_same (suc n) zero d = refl
get_or-replicate_same (suc n) (suc k) d = get_or-replicate_same n k d

pub get_or-append_replicate : {A : Type 0} (xs : List A) (n k : ℕ) (d : A)
    → get_or (xs ++ replicate n d) k d ≡ get_or xs k d
get_or-append_replicate [] n k d = get_or-replicate_same n k d
get_or-append_replicate (x ∷ xs) n zero d = refl
get_or-append_replicate (x ∷ xs) n (suc k) d = get_or-append_replicate xs n k d
