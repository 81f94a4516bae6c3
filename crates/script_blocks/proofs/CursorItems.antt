-- What is left at a place of a cursor: the items of its batch that were not given, then those
-- that the walk has left. Giving one item of the batch drops the first of what is left; taking
-- a new batch moves items from the walk into the batch and leaves their order as it was. A new
-- batch is taken as soon as all items of one were given, so where the batch has no next item
-- none is left (`none_filled`), and what comes next is seen without a walk (`peeked`).
use Rattle.std.proofs.Common.{◌≡◌, ◌+◌, ◌<◌, ◌≤◌, ℕ, zero, suc, Bool, Option, List, [], ◌∷◌, ◌++◌, drop, length}
use Rattle.std.proofs.Common.{true, false, refl, sym, ap, ◌∙◌, arith}
use Rattle.std.specs.Prelude.{Some, None, slice_get}
use Rattle.std.proofs.lemmas.List.{drop_all}

dropped_more : {T : Type 0} (n : ℕ) (xs : List T) (x : T) → slice_get xs n ≡ Some x → drop n xs ≡ x ∷ drop (n + 1) xs
dropped_more n [] x is = cc
dropped_more zero (y ∷ xs) x is = cc
dropped_more (suc n) (y ∷ xs) x is =
    let more : suc n + 1 ≡ suc (n + 1) = omega arith in
    dropped_more n xs x is ∙ ap (λ k. x ∷ drop k (y ∷ xs)) (sym more)

none_first : {T : Type 0} (xs : List T) → slice_get xs 0 ≡ None → xs ≡ []
none_first [] is = refl
none_first (x ∷ xs) is = cc

module _ {T : Type 0} (given : ℕ) (batch later : List T) where
  pub given_next : (item : T) → slice_get batch given ≡ Some item
      → drop given batch ++ later ≡ item ∷ (drop (given + 1) batch ++ later)
  given_next item is = ap (λ xs. xs ++ later) (dropped_more given batch item is)

  -- where the next item is in the batch, it is the first of what is left
  pub peeked : (item : Option T) → item ≡ slice_get batch given
      → (slice_get batch given ≡ None → drop given batch ++ later ≡ []) → item ≡ slice_get (drop given batch ++ later) 0
  peeked item is ready = is ∙ first_is (slice_get batch given) refl where
    first_is : (o : Option T) → slice_get batch given ≡ o → slice_get batch given ≡ slice_get (drop given batch ++ later) 0
    first_is None e = e ∙ sym (ap (λ (xs : List T). slice_get xs 0) (ready e))
    first_is (Some x) e = e ∙ sym (ap (λ (xs : List T). slice_get xs 0) (given_next x e))

  pub all_given : length batch ≤ given → drop given batch ++ later ≡ later
  all_given le = ap (λ xs. xs ++ later) (drop_all given batch le)

-- where a batch that was filled from nothing has no item, none is left
pub none_filled : {T : Type 0} (full : Bool) (batch later : List T) → slice_get batch 0 ≡ None
    → (full ≡ true → length batch ≡ 16) → (full ≡ false → later ≡ [])
    → batch ++ later ≡ []
none_filled true batch later none whole done =
    absurd (omega (arith, ap length (none_first batch none), whole refl))
none_filled false batch later none whole done =
    ap (λ xs. xs ++ later) (none_first batch none) ∙ done refl

-- a place whose batch was filled anew
pub filled_left : {T : Type 0} (given : ℕ) (old cleared batch before after : List T) → length old ≤ given
    → cleared ≡ [] → cleared ++ before ≡ batch ++ after
    → batch ++ after ≡ drop given old ++ before
filled_left given old cleared batch before after le none moved =
    sym moved ∙ ap (λ xs. xs ++ before) none ∙ sym (all_given given old before le)

pub not_past : {T : Type 0} (xs : List T) (given : ℕ) → given < length xs → slice_get xs given ≡ None → ⊥
not_past [] given lt none = omega arith
not_past (x ∷ xs) zero lt none = cc
not_past (x ∷ xs) (suc given) lt none = not_past xs given (omega arith) none

-- the next item is given, and what was left behind it is left
pub next_given : {T : Type 0} (given : ℕ) (batch later after : List T) (item : T) → Some item ≡ slice_get batch given
    → after ≡ drop (given + 1) batch ++ later → drop given batch ++ later ≡ item ∷ after
next_given given batch later after item is same =
    given_next given batch later item (sym is) ∙ ap (λ xs. item ∷ xs) (sym same)

pub none_given : {T : Type 0} (given : ℕ) (batch left : List T) → None ≡ slice_get batch given
    → (slice_get batch given ≡ None → left ≡ []) → (left ≡ []) × (left ≡ [])
none_given given batch left is ready = (ready (sym is), ready (sym is))

pub ruleset giving = (filled_left, none_filled, not_past, next_given, none_given)
