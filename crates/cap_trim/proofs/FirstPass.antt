-- The first number of a range that passes a test.
--
-- By induction on how many numbers are left: the first of them passes, and is the one that is found, or the search
-- goes on behind it (`find_here`, `find_later`). So what is found lies in the range and passes (`find_is`), and
-- each number before it fails (`find_least`); and all pass, or one fails that can be named (`one_fails`). Nothing
-- is said of a number behind the first.
use Rattle.std.proofs.Common.{◌≡◌, ℕ, zero, suc, ◌+◌, ◌-◌, ◌<◌, ◌≤◌, Bool, true, false, cond, Some}
use Rattle.std.proofs.Common.{sym, ap, ◌∙◌, subst, refl, inl, inr, arith}
use Rattle.std.proofs.lemmas.Bool.{and_from, and_parts, cases_Bool, cases_eq, cases_lt}
use Rattle.std.specs.List.{find, list_all, range_with_len}
use Rattle.std.specs.Prelude.{◌&&◌}

pub find_here : (test : ℕ → Bool) (a m : ℕ) → test a ≡ true → find test (range_with_len a (suc m)) ≡ Some a
find_here test a m on = ap (λ b. cond b (Some a) (find test (range_with_len (a + 1) m))) on

pub find_later : (test : ℕ → Bool) (a m : ℕ) → test a ≡ false
    → find test (range_with_len a (suc m)) ≡ find test (range_with_len (a + 1) m)
find_later test a m off = ap (λ b. cond b (Some a) (find test (range_with_len (a + 1) m))) off

-- over what is left of the numbers below m
pub found_here : (test : ℕ → Bool) (a m : ℕ) → a < m → test a ≡ true
    → find test (range_with_len a (m - a)) ≡ Some a
found_here test a m lt on =
    let left : m - a ≡ suc (m - (a + 1)) = omega arith in
    ap (λ i. find test (range_with_len a i)) left ∙ find_here test a (m - (a + 1)) on

pub found_later : (test : ℕ → Bool) (a m : ℕ) → a < m → test a ≡ false
    → find test (range_with_len a (m - a)) ≡ find test (range_with_len (a + 1) (m - (a + 1)))
found_later test a m lt off =
    let left : m - a ≡ suc (m - (a + 1)) = omega arith in
    ap (λ i. find test (range_with_len a i)) left ∙ find_later test a (m - (a + 1)) off

above : (a q : ℕ) → a ≤ q → (q ≡ a → ⊥) → a + 1 ≤ q
above a q low other = elim (cases_lt a q) [ inl lt ↦ omega arith | inr ge ↦ absurd (other (omega arith)) ]

-- the one that is found is there, and passes
pub find_is : (test : ℕ → Bool) (m a p : ℕ) → find test (range_with_len a m) ≡ Some p
    → (a ≤ p) × (p < a + m) × (test p ≡ true)
find_is test zero a p is = cc
find_is test (suc m) a p is =
    elim (cases_Bool (test a)) [
      | inl on ↦
          let found : Some a ≡ Some p = sym (find_here test a m on) ∙ is in
          let same : a ≡ p = cc in
          (omega arith, omega arith, subst (λ q. test q ≡ true) same on)
      | inr off ↦
          let later = find_is test m (a + 1) p (sym (find_later test a m off) ∙ is) in
          (omega (arith, later.0), omega (arith, later.1), later.2)
    ]

-- and none before it passes
pub find_least : (test : ℕ → Bool) (m a p q : ℕ) → find test (range_with_len a m) ≡ Some p → a ≤ q → q < p
    → test q ≡ false
find_least test zero a p q is low lt = cc
find_least test (suc m) a p q is low lt =
    elim (cases_Bool (test a)) [
      | inl on ↦
          let found : Some a ≡ Some p = sym (find_here test a m on) ∙ is in
          let same : a ≡ p = cc in
          absurd (omega arith)
      | inr off ↦
          elim (cases_eq q a) [
            | inl same ↦ subst (λ r. test r ≡ false) (sym same) off
            | inr other ↦ find_least test m (a + 1) p q (sym (find_later test a m off) ∙ is) (above a q low other) lt
          ]
    ]

-- each number of a range passes exactly where all do
pub all_pass : (test : ℕ → Bool) (m a q : ℕ) → list_all test (range_with_len a m) ≡ true → a ≤ q → q < a + m
    → test q ≡ true
all_pass test zero a q is low lt = absurd (omega arith)
all_pass test (suc m) a q is low lt =
    let parts = and_parts (test a) (list_all test (range_with_len (a + 1) m)) is in
    elim (cases_eq q a) [
      | inl same ↦ subst (λ r. test r ≡ true) (sym same) parts.0
      | inr other ↦ all_pass test m (a + 1) q parts.1 (above a q low other) (omega arith)
    ]

pub all_from : (test : ℕ → Bool) (m a : ℕ) → ((q : ℕ) → a ≤ q → q < a + m → test q ≡ true)
    → list_all test (range_with_len a m) ≡ true
all_from test zero a each = refl
all_from test (suc m) a each =
    and_from (test a) (list_all test (range_with_len (a + 1) m)) (each a (omega arith) (omega arith))
    (all_from test m (a + 1) (λ q low lt. each q (omega arith) (omega arith)))

-- where not each passes, one fails
pub one_fails : (test : ℕ → Bool) (m a : ℕ) → list_all test (range_with_len a m) ≡ false
    → (q : ℕ) × (a ≤ q) × (q < a + m) × (test q ≡ false)
one_fails test zero a is = cc
one_fails test (suc m) a is =
    elim (cases_Bool (test a)) [
      | inl on ↦
          let rest : list_all test (range_with_len (a + 1) m) ≡ false =
          sym (ap (λ b. b && list_all test (range_with_len (a + 1) m)) on) ∙ is in
          let later = one_fails test m (a + 1) rest in
          (later.0, omega (arith, later.1), omega (arith, later.2), later.3)
      | inr off ↦ (a, omega arith, omega arith, off)
    ]
