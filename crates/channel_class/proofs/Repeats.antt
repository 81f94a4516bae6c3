-- A list and its permutation repeat alike.
use Rattle.std.proofs.Common.{◌≡◌, ℕ, ◌+◌, ◌<◌, ◌≤◌, true, false, cond, List, [], ◌∷◌, count_by, refl, sym, ap, ◌∙◌}
use Rattle.std.proofs.Common.{inl, inr, arith, eqb-true, eq-eqb, ◌==◌}
use Rattle.std.specs.List.{list_any}
use Rattle.std.specs.List.Sorted.{IsPermutation}
use Rattle.std.proofs.lemmas.Bool.{cond-true, cond-false, cases_Bool, or_left, or_right}
use Rattle.std.proofs.lemmas.List.Sorted.{sum_by-IsPermutation, IsPermutation-sym}
use Rattle.std.proofs.lemmas.List.Sums.{sum_by-cons}
use Rattle.channel_class.specs.Classes.{has_repeat}

count_cons : (m x : ℕ) (xs : List ℕ) → count_by (λ n. m == n) (x ∷ xs) ≡ cond (m == x) 1 0 + count_by (λ n. m == n) xs
count_cons m x xs = sum_by-cons (λ n. cond (m == n) 1 0) x xs

count_yes : (m x : ℕ) (xs : List ℕ) → (m == x) ≡ true → count_by (λ n. m == n) (x ∷ xs) ≡ 1 + count_by (λ n. m == n) xs
count_yes m x xs hit = count_cons m x xs ∙ ap (λ c. c + count_by (λ n. m == n) xs) (cond-true (m == x) 1 0 hit)

pub count_no : (m x : ℕ) (xs : List ℕ) → (m == x) ≡ false → count_by (λ n. m == n) (x ∷ xs) ≡ 0 + count_by (λ n. m == n) xs
count_no m x xs miss = count_cons m x xs ∙ ap (λ c. c + count_by (λ n. m == n) xs) (cond-false (m == x) 1 0 miss)

count_not_less : (m x : ℕ) (xs : List ℕ) → count_by (λ n. m == n) xs ≤ count_by (λ n. m == n) (x ∷ xs)
count_not_less m x xs =
    elim (cases_Bool
    (m == x)) [ inl hit ↦ omega (arith, count_yes m x xs hit) | inr miss ↦ omega (arith, count_no m x xs miss) ]

pub any_counts : (m : ℕ) (xs : List ℕ) → list_any (λ n. m == n) xs ≡ true → 0 < count_by (λ n. m == n) xs
any_counts m [] h = cc
any_counts m (x ∷ xs) h =
    elim (cases_Bool (m == x)) [
      | inl hit ↦ omega (arith, count_yes m x xs hit)
      | inr miss ↦
          let rest : list_any (λ n. m == n) xs ≡ true = rw miss at h in
          omega (arith, count_no m x xs miss, any_counts m xs rest)
    ]

counts_any : (m : ℕ) (xs : List ℕ) → 0 < count_by (λ n. m == n) xs → list_any (λ n. m == n) xs ≡ true
counts_any m [] h = absurd (omega arith)
counts_any m (x ∷ xs) h =
    elim (cases_Bool (m == x)) [
      | inl hit ↦ or_left (m == x) (list_any (λ n. m == n) xs) hit
      | inr miss ↦ or_right (m == x) (list_any (λ n. m == n) xs) (counts_any m xs (omega (arith, count_no m x xs miss)))
    ]

-- a list repeats exactly where it has some number more than once
pub repeat_counts : (xs : List ℕ) → has_repeat xs ≡ true → (m : ℕ) × (1 < count_by (λ n. m == n) xs)
repeat_counts [] h = cc
repeat_counts (x ∷ xs) h =
    elim (cases_Bool (list_any (λ n. x == n) xs)) [
      | inl again ↦ (x, omega (arith, count_yes x x xs (eq-eqb x x refl), any_counts x xs again))
      | inr single ↦
          let rest : has_repeat xs ≡ true = rw single at h in
          let more = repeat_counts xs rest in
          (more.0, omega (arith, more.1, count_not_less more.0 x xs))
    ]

pub counts_repeat : (m : ℕ) (xs : List ℕ) → 1 < count_by (λ n. m == n) xs → has_repeat xs ≡ true
counts_repeat m [] h = absurd (omega arith)
counts_repeat m (x ∷ xs) h =
    elim (cases_Bool (m == x)) [
      | inl hit ↦
          let same : m ≡ x = eqb-true m x hit in
          let again : list_any (λ n. m == n) xs ≡ true = counts_any m xs (omega (arith, count_yes m x xs hit)) in
          or_left (list_any (λ n. x == n) xs) (has_repeat xs) (rw same at again)
      | inr miss ↦
          or_right (list_any (λ n. x == n) xs) (has_repeat xs)
          (counts_repeat m xs (omega (arith, count_no m x xs miss)))
    ]

carried : (xs ys : List ℕ) → IsPermutation xs ys → has_repeat ys ≡ true → has_repeat xs ≡ true
carried xs ys moved h =
    let more = repeat_counts ys h in
    counts_repeat more.0 xs (omega (arith, more.1, sum_by-IsPermutation (λ n. cond (more.0 == n) 1 0) xs ys moved))

pub same_repeats : (xs ys : List ℕ) → IsPermutation xs ys → has_repeat ys ≡ has_repeat xs
same_repeats xs ys moved =
    elim (cases_Bool (has_repeat ys)) [
      | inl hit ↦ hit ∙ sym (carried xs ys moved hit)
      | inr miss ↦
          elim (cases_Bool (has_repeat xs)) [
            | inl hit ↦ let back = carried ys xs (IsPermutation-sym xs ys moved) hit in cc
            | inr single ↦ miss ∙ sym single
          ]
    ]
