-- Joined lists of which one part alone has items.
use Rattle.std.proofs.Common.{◌≡◌, ℕ, zero, suc, ◌+◌, ◌<◌, ◌≤◌, List, [], ◌++◌, refl, ap, ◌∙◌, inl, inr, arith}
use Rattle.std.specs.List.{flat_map, range_with_len}
use Rattle.std.proofs.lemmas.Bool.{cases_eq}
use Rattle.std.proofs.lemmas.List.{append-nil}
use Rattle.std.proofs.lemmas.List.Concat.{flat_map-cons}

-- One part alone has items

none_joined : {X : Type 0} (f : ℕ → List X) (k : ℕ) → ((j : ℕ) → (j ≡ k → ⊥) → f j ≡ []) → (a m : ℕ) → k < a
    → flat_map f (range_with_len a m) ≡ []
none_joined f k other a zero lt = refl
none_joined f k other a (suc m) lt =
    flat_map-cons f a (range_with_len (a + 1) m)
    ∙ ap (λ xs. xs ++ flat_map f (range_with_len (a + 1) m)) (other a (λ e. omega arith))
    ∙ none_joined f k other (a + 1) m (omega arith)

pub one_joined : {X : Type 0} (f : ℕ → List X) (k : ℕ) → ((j : ℕ) → (j ≡ k → ⊥) → f j ≡ []) → (a m : ℕ) → a ≤ k
    → k < a + m → flat_map f (range_with_len a m) ≡ f k
one_joined f k other a zero le lt = absurd (omega arith)
one_joined f k other a (suc m) le lt =
    elim (cases_eq a k) [
      | inl same ↦
          flat_map-cons f a (range_with_len (a + 1) m)
          ∙ ap (λ xs. f a ++ xs) (none_joined f k other (a + 1) m (omega arith)) ∙ append-nil (f a) ∙ ap f same
      | inr ne ↦
          flat_map-cons f a (range_with_len (a + 1) m)
          ∙ ap (λ xs. xs ++ flat_map f (range_with_len (a + 1) m)) (other a ne)
          ∙ one_joined f k other (a + 1) m (omega arith) (omega arith)
    ]
