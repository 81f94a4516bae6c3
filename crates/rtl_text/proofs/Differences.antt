-- Lists in which no two items are the same.
--
-- One list behind another is such a list where both are and each item of the one differs from each of the other. For lists of keys
-- that were made from items, one list of keys from each, it is enough to know that each key has the name of its item, that names
-- differ, and that the keys of one item differ: by induction along the items, since the keys of later items have other names.
-- The same is said of two such lists of one row of items. Nothing is asked of the order of the items.
use Rattle.std.proofs.Common.{◌≡◌, ◌≢◌, ℕ, Bool, true, false, not, ◌||◌, List, [], ◌∷◌, ◌++◌, map, refl, sym, ap, ap₂, ◌∙◌}
use Rattle.std.specs.Prelude.{nat_eq}
use Rattle.std.specs.List.{flat_map, list_any}
use Rattle.std.specs.Cmp.Lexicographic.{other_text, pointwise, same_text}
use Rattle.std.proofs.lemmas.Bool.{and_from, and_parts, not-true, or_parts}
use Rattle.sanlp.specs.WellFormed.{all_differ}

abbrev pub Each : {X : Type 0} → (X → Type 0) → List X → Type 0
Each P [] = Unit {0}
Each P (x ∷ xs) = P x × Each P xs

abbrev pub Apart : {X : Type 0} → X → List X → Type 0
Apart x ys = Each (λ y. x ≢ y) ys

abbrev pub Differ : {X : Type 0} → List X → Type 0
Differ [] = Unit {0}
Differ (x ∷ xs) = Apart x xs × Differ xs

pub each_append : {X : Type 0} (P : X → Type 0) (xs ys : List X) → Each P xs → Each P ys → Each P (xs ++ ys)
each_append P [] ys p q = q
each_append P (x ∷ xs) ys p q = (p.0, each_append P xs ys p.1 q)

pub each_weaker : {X : Type 0} (P Q : X → Type 0) → ((x : X) → P x → Q x) → (xs : List X) → Each P xs → Each Q xs
each_weaker P Q f [] p = tt
each_weaker P Q f (x ∷ xs) p = (f x p.0, each_weaker P Q f xs p.1)

pub each_map : {X Y : Type 0} (h : X → Y) (P : Y → Type 0) (xs : List X) → Each (λ x. P (h x)) xs → Each P (map h xs)
each_map h P [] p = tt
each_map h P (x ∷ xs) p = (p.0, each_map h P xs p.1)

pub each_of_map : {X Y : Type 0} (h : X → Y) (P : Y → Type 0) (xs : List X) → Each P (map h xs) → Each (λ x. P (h x)) xs
each_of_map h P [] p = tt
each_of_map h P (x ∷ xs) p = (p.0, each_of_map h P xs p.1)

pub differ_append : {X : Type 0} (xs ys : List X) → Differ xs → Differ ys → Each (λ x. Apart x ys) xs → Differ (xs ++ ys)
differ_append [] ys dx dy apart = dy
differ_append (x ∷ xs) ys dx dy apart =
    (each_append (λ y. x ≢ y) xs ys dx.0 apart.0, differ_append xs ys dx.1 dy apart.1)

-- by a function that tells its arguments
pub differ_map : {X Y : Type 0} (h : X → Y) → ((x y : X) → h x ≡ h y → x ≡ y) → (xs : List X) → Differ xs → Differ (map h xs)
differ_map h told [] d = tt
differ_map h told (x ∷ xs) d = (
  each_map h (λ y. h x ≢ y) xs (each_weaker (λ y. x ≢ y) (λ y. h x ≢ h y) (λ y ne e. ne (told x y e)) xs d.0),
  differ_map h told xs d.1,
)

-- Keys by names

module _ {X K N : Type 0} (name : X → N) (name_of : K → N) where
  abbrev HasName : (X → List K) → Type 0
  HasName f = (x : X) → Each (λ k. name_of k ≡ name x) (f x)

  later : (f : X → List K) → HasName f → (n : N) (xs : List X) → Each (λ x. n ≢ name x) xs
      → Each (λ k. n ≢ name_of k) (flat_map f xs)
  later f has n [] ne = tt
  later f has n (x ∷ xs) ne =
      each_append (λ k. n ≢ name_of k) (f x) (flat_map f xs)
      (each_weaker (λ k. name_of k ≡ name x) (λ k. n ≢ name_of k) (λ k is e. ne.0 (e ∙ is)) (f x) (has x))
      (later f has n xs ne.1)

  -- keys of one name, and keys of other names
  apart_names : (n : N) (ks ls : List K) → Each (λ k. name_of k ≡ n) ks → Each (λ l. n ≢ name_of l) ls
      → Each (λ k. Apart k ls) ks
  apart_names n ks ls is ne =
      each_weaker (λ k. name_of k ≡ n) (λ k. Apart k ls)
      (λ k here. each_weaker (λ l. n ≢ name_of l) (λ l. k ≢ l) (λ l other e. other (sym here ∙ ap name_of e)) ls ne)
      ks is

  apart_back : (n : N) (ks ls : List K) → Each (λ k. n ≢ name_of k) ks → Each (λ l. name_of l ≡ n) ls
      → Each (λ k. Apart k ls) ks
  apart_back n ks ls ne is =
      each_weaker (λ k. n ≢ name_of k) (λ k. Apart k ls)
      (λ k other. each_weaker (λ l. name_of l ≡ n) (λ l. k ≢ l) (λ l here e. other (sym (ap name_of e ∙ here))) ls is)
      ks ne

  apart_both : (ks ls ms : List K) → Each (λ k. Apart k ls) ks → Each (λ k. Apart k ms) ks
      → Each (λ k. Apart k (ls ++ ms)) ks
  apart_both [] ls ms p q = tt
  apart_both (k ∷ ks) ls ms p q =
      (each_append (λ l. k ≢ l) ls ms p.0 q.0, apart_both ks ls ms p.1 q.1)

  pub keys_differ : (f : X → List K) → HasName f → ((x : X) → Differ (f x)) → (xs : List X) → Differ (map name xs)
      → Differ (flat_map f xs)
  keys_differ f has own [] names = tt
  keys_differ f has own (x ∷ xs) names =
      differ_append (f x) (flat_map f xs) (own x) (keys_differ f has own xs names.1)
      (apart_names (name x) (f x) (flat_map f xs) (has x)
      (later f has (name x) xs (each_of_map name (λ n. name x ≢ n) xs names.0)))

  pub keys_apart : (f g : X → List K) → HasName f → HasName g → ((x : X) → Each (λ k. Apart k (g x)) (f x))
      → (xs : List X) → Differ (map name xs) → Each (λ k. Apart k (flat_map g xs)) (flat_map f xs)
  keys_apart f g hf hg own [] names = tt
  keys_apart f g hf hg own (x ∷ xs) names =
      let ne = each_of_map name (λ n. name x ≢ n) xs names.0 in
      each_append (λ k. Apart k (g x ++ flat_map g xs)) (f x) (flat_map f xs)
      (apart_both (f x) (g x) (flat_map g xs) (own x)
      (apart_names (name x) (f x) (flat_map g xs) (hf x) (later g hg (name x) xs ne)))
      (apart_both (flat_map f xs) (g x) (flat_map g xs)
      (apart_back (name x) (flat_map f xs) (g x) (later f hf (name x) xs ne) (hg x))
      (keys_apart f g hf hg own xs names.1))

-- As the test tells it

other_texts : (x : List ℕ) (ys : List (List ℕ)) → list_any (pointwise nat_eq x) ys ≡ false → Apart x ys
other_texts x [] none = tt
other_texts x (y ∷ ys) none =
    let parts = or_parts (pointwise nat_eq x y) (list_any (pointwise nat_eq x) ys) none in
    (other_text x y (sym parts.0), other_texts x ys parts.1)

pub differ_from : (xs : List (List ℕ)) → all_differ xs ≡ true → Differ xs
differ_from [] h = tt
differ_from (x ∷ xs) h =
    let parts = and_parts (not (list_any (pointwise nat_eq x) xs)) (all_differ xs) h in
    (other_texts x xs (not-true (list_any (pointwise nat_eq x) xs) parts.0), differ_from xs parts.1)

tested : (x y : List ℕ) → x ≢ y → (b : Bool) → pointwise nat_eq x y ≡ b → pointwise nat_eq x y ≡ false
tested x y ne true e = absurd (ne (same_text x y (sym e)))
tested x y ne false e = e

none_same : (x : List ℕ) (ys : List (List ℕ)) → Apart x ys → list_any (pointwise nat_eq x) ys ≡ false
none_same x [] apart = refl
none_same x (y ∷ ys) apart =
    ap₂ (λ (a b : Bool). a || b) (tested x y apart.0 (pointwise nat_eq x y) refl) (none_same x ys apart.1)

pub differ_to : (xs : List (List ℕ)) → Differ xs → all_differ xs ≡ true
differ_to [] d = refl
differ_to (x ∷ xs) d = and_from _ _ (ap not (none_same x xs d.0)) (differ_to xs d.1)
