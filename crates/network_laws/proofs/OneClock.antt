-- One clock, as positions go: the processes that pass a test step once each, in ascending order.
--
-- A range of numbers is gone through from below. Each number that passes the test advances its own process, and no other
-- number of the range does (`positions_moved`, `positions_kept`). Where each that passes is enabled at the clock's
-- beginning it still is when its turn comes, since a process that may go on at a cut may do so at each later cut that
-- leaves it where it is; so the clock is a run (`clock_runs`). Nothing is said of what the fires give.
use Rattle.std.proofs.Common.{◌≡◌, ◌⊎◌, ℕ, zero, suc, ◌+◌, ◌<◌, ◌≤◌, Bool, true, false, cond}
use Rattle.std.proofs.Common.{ap, sym, ◌∙◌, refl, inl, inr, arith}
use Rattle.std.specs.List.{filter, range_with_len}
use Rattle.std.proofs.lemmas.Bool.{cases_Bool, cases_eq}
use Rattle.net_core.specs.Cuts.{Cut, IsCutRun, advanced, cut_after, enabled_at}
use Rattle.net_core.specs.Machine.{Net}
use Rattle.net_core.specs.Shape.{IsWired}
use Rattle.net_core.proofs.CutOrder.{advanced_here, advanced_there, enabled_stays_at}
use Rattle.witness_plan.proofs.AlongCuts.{le-advanced}

-- a process outside the range stays where it is
pub positions_kept : (test : ℕ → Bool) (m a : ℕ) (k : Cut) (p : ℕ) → (p < a) ⊎ (a + m ≤ p)
    → cut_after k (filter test (range_with_len a m)) p ≡ k p
positions_kept test zero a k p out = refl
positions_kept test (suc m) a k p out =
    let other : p ≡ a → ⊥ =
    elim out [ inl lt ↦ λ same. omega arith | inr le ↦ λ same. omega arith ] in
    let later : (p < a + 1) ⊎ (a + 1 + m ≤ p) =
    elim out [ inl lt ↦ inl (omega arith) | inr le ↦ inr (omega arith) ] in
    elim (cases_Bool (test a)) [
      | inl on ↦
          rw on (positions_kept test m (a + 1) (advanced k a) p later ∙ advanced_there k a p other)
      | inr off ↦ rw off (positions_kept test m (a + 1) k p later)
    ]

-- a process of the range advances where it passes
pub positions_moved : (test : ℕ → Bool) (m a : ℕ) (k : Cut) (p : ℕ) → a ≤ p → p < a + m
    → cut_after k (filter test (range_with_len a m)) p ≡ k p + cond (test p) 1 0
positions_moved test zero a k p low high = absurd (omega arith)
positions_moved test (suc m) a k p low high =
    elim (cases_eq p a) [
      | inl same ↦
          let below : p < a + 1 = omega arith in
          elim (cases_Bool (test a)) [
            | inl on ↦
                let passes : test p ≡ true = ap test same ∙ on in
                rw (on, passes)
                (omega (
                  arith,
                  positions_kept test m (a + 1) (advanced k a) p (inl below),
                  advanced_here k a p same,
                ))
            | inr off ↦
                let fails : test p ≡ false = ap test same ∙ off in
                rw (off, fails) (omega (arith, positions_kept test m (a + 1) k p (inl below)))
          ]
      | inr other ↦
          let above : a + 1 ≤ p = omega arith in
          let inside : p < a + 1 + m = omega arith in
          elim (cases_Bool (test a)) [
            | inl on ↦
                rw on
                (positions_moved test m (a + 1) (advanced k a) p above inside
                ∙ ap (λ x. x + cond (test p) 1 0) (advanced_there k a p other))
            | inr off ↦ rw off (positions_moved test m (a + 1) k p above inside)
          ]
    ]

-- those that pass are enabled in turn
pub clock_runs : (n : Net) → IsWired n → (test : ℕ → Bool) (m a : ℕ) (k : Cut)
    → ((q : ℕ) → a ≤ q → test q ≡ true → enabled_at n k q ≡ true)
    → IsCutRun n k (filter test (range_with_len a m))
clock_runs n wired test zero a k are = tt
clock_runs n wired test (suc m) a k are =
    elim (cases_Bool (test a)) [
      | inl on ↦
          rw on (
            are a (omega arith) on,
            clock_runs n wired test m (a + 1) (advanced k a)
                (λ q low on'.
                (let other : q ≡ a → ⊥ = λ same. omega arith in
                enabled_stays_at n wired k (advanced k a) q (le-advanced k a) (sym (advanced_there k a q other))
                (are q (omega arith) on'))),
          )
      | inr off ↦ rw off (clock_runs n wired test m (a + 1) k (λ q low on'. are q (omega arith) on'))
    ]
