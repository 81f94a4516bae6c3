-- After some clocks of the clocked run: the next clock, and the end.
use Rattle.std.proofs.Common.{◌≡◌, ℕ, ◌+◌, ◌<◌, ◌≤◌, List, length, ap, sym, ◌∙◌, inl, inr, arith, add-one}
use Rattle.std.proofs.lemmas.Bool.{cases_lt}
use Rattle.net_core.specs.Machine.{Net, State, Rule, start, after}
use Rattle.clock_sim.specs.Clocks.{ClockedRunEnds, after_clocks, clocked_run, clocks, enabled_processes}
use Rattle.clock_sim.proofs.ClockRuns.{after_append, none_from_stuck}

module _ {T : Type 0} (n : Net) (rule : Rule T) (ends : ClockedRunEnds n rule) (k : ℕ) (s : State T) (list : List ℕ)
    (passed : s ≡ after_clocks n rule k) (listed : list ≡ enabled_processes n s) where
  -- the events of the processes that are listed are the next clock
  pub clock_more : (s' : State T) → s' ≡ after n rule s list → s' ≡ after_clocks n rule (k + 1)
  clock_more s' stepped =
      stepped ∙ ap (λ l. after n rule s l) listed
      ∙ ap (λ (t : State T). after n rule t (enabled_processes n t)) passed
      ∙ sym (after_append n rule (clocked_run n rule k) (enabled_processes n (after_clocks n rule k)) (start n))
      ∙ ap (after_clocks n rule) (sym (add-one k))

  length_listed : length list ≡ length (enabled_processes n (after_clocks n rule k))
  length_listed = ap length (listed ∙ ap (λ (t : State T). enabled_processes n t) passed)

  -- where some are listed, there is a clock to come
  pub clock_left : k ≤ clocks n → 0 < length list → k < clocks n
  clock_left few some =
      elim (cases_lt k (clocks n)) [
        | inl lt ↦ lt
        | inr all ↦
            let last : k ≡ clocks n = omega arith in
            let none : length (enabled_processes n (after_clocks n rule k)) ≡ 0 =
            ap (λ j. length (enabled_processes n (after_clocks n rule j))) last
            ∙ ap length (none_from_stuck n (after_clocks n rule (clocks n)) ends.stuck) in
            absurd (omega (arith, length_listed))
      ]
