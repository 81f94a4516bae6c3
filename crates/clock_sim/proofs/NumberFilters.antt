-- Numbers that pass a test.
use Rattle.std.proofs.Common.{◌≡◌, ℕ, zero, suc, ◌+◌, ◌<◌, ◌≤◌, Bool, true, false, [], length}
use Rattle.std.proofs.Common.{ap, sym, ◌∙◌, refl, inl, inr, arith}
use Rattle.std.specs.List.{filter, range_with_len}
use Rattle.std.proofs.lemmas.Bool.{both_ways, cases_Bool, false_from_ne_true}
use Rattle.std.proofs.lemmas.List.FromFn.{length-range_with_len}
use Rattle.std.proofs.lemmas.List.Sums.{count_by-le-length, length-filter}

-- two tests agree where each passes what the other does
pub same_Bool : (a b : Bool) → (a ≡ true → b ≡ true) → (b ≡ true → a ≡ true) → a ≡ b
same_Bool a b there back =
    elim (cases_Bool a) [
      | inl on ↦ on ∙ sym (there on)
      | inr off ↦ off ∙ sym (false_from_ne_true b (λ on. both_ways a off (back on)))
    ]

-- where a number of a range passes, the range has some that do
pub some_passes : (test : ℕ → Bool) (m a p : ℕ) → a ≤ p → p < a + m → test p ≡ true
    → 0 < length (filter test (range_with_len a m))
some_passes test zero a p low high on = absurd (omega arith)
some_passes test (suc m) a p low high on =
    elim (cases_Bool (test a)) [
      | inl here ↦ rw here (omega arith)
      | inr off ↦
          let other : p ≡ a → ⊥ = λ same. both_ways (test a) off (ap test (sym same) ∙ on) in
          let above : a + 1 ≤ p = omega arith in
          let below : p < a + 1 + m = omega arith in
          rw off (some_passes test m (a + 1) p above below on)
    ]

-- where none passes, the range has none
pub none_passes : (test : ℕ → Bool) → ((p : ℕ) → test p ≡ false) → (m a : ℕ) → filter test (range_with_len a m) ≡ []
none_passes test off zero a = refl
none_passes test off (suc m) a = rw (off a) (none_passes test off m (a + 1))

-- no more pass than there are
pub passing_short : (test : ℕ → Bool) (m : ℕ) → length (filter test (range_with_len 0 m)) ≤ m
passing_short test m =
    omega (
      arith,
      length-filter test (range_with_len 0 m),
      count_by-le-length test (range_with_len 0 m),
      length-range_with_len 0 m,
    )
