-- Numbers that pass a test.
use Rattle.std.proofs.Common.{◌≡◌, ℕ, ◌+◌, Bool, true, false, cond, [], ◌∷◌, ◌++◌, ap, ◌∙◌}
use Rattle.std.proofs.Common.{arith, append-nil}
use Rattle.std.specs.List.{filter, range_with_len}
use Rattle.std.proofs.lemmas.List.Elements.{filter-append}
use Rattle.sanlp.proofs.Lists.{range_with_len_more}

-- one number more
more : (test : ℕ → Bool) (n : ℕ)
    → filter test (range_with_len 0 (n + 1)) ≡ filter test (range_with_len 0 n) ++ filter test (n ∷ [])
more test n =
    ap (filter test) (range_with_len_more 0 n n (omega arith)) ∙ filter-append test (range_with_len 0 n) (n ∷ [])

pub passing_more : (test : ℕ → Bool) (n : ℕ) → test n ≡ true
    → filter test (range_with_len 0 (n + 1)) ≡ filter test (range_with_len 0 n) ++ n ∷ []
passing_more test n passes = more test n ∙ ap (λ b. filter test (range_with_len 0 n) ++ cond b (n ∷ []) []) passes

pub passing_same : (test : ℕ → Bool) (n : ℕ) → test n ≡ false
    → filter test (range_with_len 0 (n + 1)) ≡ filter test (range_with_len 0 n)
passing_same test n fails =
    more test n ∙ ap (λ b. filter test (range_with_len 0 n) ++ cond b (n ∷ []) []) fails ∙ append-nil _
