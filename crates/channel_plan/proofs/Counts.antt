-- Lists over counted numbers.
use Rattle.std.proofs.Common.{◌≡◌, ◌≢◌, ◌<◌, ◌≤◌, ◌+◌, ℕ, zero, suc, [], ◌∷◌, ◌++◌, Bool, cond, map, set, refl, sym, ap}
use Rattle.std.proofs.Common.{◌∙◌, arith}
use Rattle.std.specs.List.{filter, range_with_len}
use Rattle.std.proofs.lemmas.List.Elements.{filter-append}
use Rattle.sanlp.proofs.Lists.{range_with_len_more, map-range_with_len_same}

pub filter-range_with_len_more : (p : ℕ → Bool) (k : ℕ)
    → filter p (range_with_len 0 (k + 1)) ≡ filter p (range_with_len 0 k) ++ cond (p k) (k ∷ []) []
filter-range_with_len_more p k =
    ap (filter p) (range_with_len_more 0 k k (omega arith)) ∙ filter-append p (range_with_len 0 k) (k ∷ [])

-- two tests that agree at these numbers
pub same_filter_from : (p q : ℕ → Bool) (a m : ℕ) → ((k : ℕ) → a ≤ k → k < a + m → p k ≡ q k)
    → filter p (range_with_len a m) ≡ filter q (range_with_len a m)
same_filter_from p q a zero same = refl
same_filter_from p q a (suc m) same =
    ap (λ b. cond b (a ∷ filter p (range_with_len (a + 1) m)) (filter p (range_with_len (a + 1) m)))
    (same a (omega arith) (omega arith))
    ∙ ap (λ xs. cond (q a) (a ∷ xs) xs) (same_filter_from p q (a + 1) m (λ k h l. same k (omega arith) (omega arith)))

-- a function that changes at i alone
pub set_mapped : {X : Type 0} (f g : ℕ → X) (i : ℕ) (x : X) → g i ≡ x → ((k : ℕ) → k ≢ i → f k ≡ g k)
    → (a m j : ℕ) → a + j ≡ i → set (map f (range_with_len a m)) j x ≡ map g (range_with_len a m)
set_mapped f g i x here other a zero j e = refl
set_mapped f g i x here other a (suc m) zero e =
    let same : i ≡ a = omega arith in
    ap (λ y. y ∷ map f (range_with_len (a + 1) m)) (sym here ∙ ap g same)
    ∙ ap (λ xs. g a ∷ xs) (map-range_with_len_same f g (a + 1) m (λ k h l. other k (λ is. omega arith)))
set_mapped f g i x here other a (suc m) (suc j) e =
    ap (λ y. y ∷ set (map f (range_with_len (a + 1) m)) j x) (other a (λ is. omega arith))
    ∙ ap (λ xs. g a ∷ xs) (set_mapped f g i x here other (a + 1) m j (omega arith))
