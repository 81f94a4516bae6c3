-- Lists that are made an item at a time.
use Rattle.std.proofs.Common.{◌≡◌, ◌≤◌, ◌+◌, ◌-◌, ℕ, List, [], ◌∷◌, ◌++◌, map}
use Rattle.std.proofs.Common.{sym, ap, ◌∙◌, arith, append_assoc}
use Rattle.std.specs.List.{range_with_len}
use Rattle.std.proofs.lemmas.List.FromFn.{map-range_with_len_more}

-- one number more
pub counted_from : {X : Type 0} (f : ℕ → X) (a k : ℕ) → a ≤ k
    → map f (range_with_len a (k + 1 - a)) ≡ map f (range_with_len a (k - a)) ++ f k ∷ []
counted_from f a k le =
    let more : k + 1 - a ≡ k - a + 1 = omega arith in
    let there : a + (k - a) ≡ k = omega arith in
    ap (λ m. map f (range_with_len a m)) more ∙ map-range_with_len_more f a (k - a) k there

pub counted_more : {X : Type 0} (f : ℕ → X) (first before after : List X) (a k : ℕ) (x : X) → a ≤ k → x ≡ f k
    → before ≡ first ++ map f (range_with_len a (k - a)) → after ≡ before ++ x ∷ []
    → after ≡ first ++ map f (range_with_len a (k + 1 - a))
counted_more f first before after a k x le is was e =
    e ∙ ap (λ xs. xs ++ x ∷ []) was
    ∙ append_assoc first (map f (range_with_len a (k - a))) (x ∷ [])
    ∙ ap (λ y. first ++ (map f (range_with_len a (k - a)) ++ y ∷ [])) is
    ∙ ap (λ xs. first ++ xs) (sym (counted_from f a k le))

pub counted_all : {X : Type 0} (f : ℕ → X) (first before : List X) (a k b : ℕ)
    → before ≡ first ++ map f (range_with_len a (k - a)) → k - a ≡ b - a
    → before ≡ first ++ map f (range_with_len a (b - a))
counted_all f first before a k b was e = was ∙ ap (λ m. first ++ map f (range_with_len a m)) e
