-- The clocked run of the ports is at no clock behind that of the scripts.
--
-- By induction on the clocks all that have come there have come here. An event that comes there at the next clock
-- is the first of its process that hasn't come there, and it may come at their cut. If it hasn't come here either,
-- it may come here, since all before the cut have (`may_from_cut`); so it comes at this clock too. How much sooner
-- the ports come isn't a matter of this file.
use Rattle.std.proofs.Common.{◌≡◌, ℕ, zero, suc, ◌+◌, ◌<◌, ◌≤◌, Bool, true, cond, length}
use Rattle.std.proofs.Common.{ap, sym, subst, ◌∙◌, refl, inl, inr, arith}
use Rattle.std.specs.List.{filter, range_with_len}
use Rattle.std.proofs.lemmas.Bool.{cases_Bool, cases_eq, cases_lt, cond-true, cond-false}
use Rattle.net_core.specs.Cuts.{Cut, advanced, cut_after, enabled_at, opening, positions}
use Rattle.net_core.specs.Machine.{Net, Rule, enabled, start, IsRun}
use Rattle.net_core.specs.Orders.{StaysEnabled}
use Rattle.net_core.specs.Shape.{IsWired}
use Rattle.net_core.proofs.CutOrder.{advanced_here, advanced_there}
use Rattle.net_core.proofs.Positions.{cut_inside, enabled_as_cut, run_counted, run_cut, run_ends}
use Rattle.net_core.proofs.Positions as positions
use Rattle.net_core.proofs.TwoSteps.{enabled_stays}
use Rattle.clock_sim.specs.Clocks.{after_clocks, clocked_run, enabled_processes}
use Rattle.clock_sim.proofs.ClockRuns.{after_append, clock_run, clocks_run}
use Rattle.port_runs.specs.Ports.{IsPortRun, PortState, port_after, port_start}
use Rattle.port_runs.proofs.PortCounts.{PortCounted, port_counted, start_counted}
use Rattle.port_runs.proofs.PortEnds.{may_from_cut}
use Rattle.port_runs.proofs.PortSteps.{coming}
use Rattle.port_clocks.specs.PortClocks.{after_port_clocks, clocked_port_run, events_of_clock}
use Rattle.port_clocks.proofs.OneClock as ports
use Rattle.port_clocks.proofs.PortParts.{come_grows, port_after_append, port_run_append}

-- One clock of the scripts advances a process by at most one, and only where it passes

few_below : (test : ℕ → Bool) (m a : ℕ) (cut : Cut) (p : ℕ) → p < a
    → cut_after cut (filter test (range_with_len a m)) p ≤ cut p
few_below test zero a cut p lt = omega arith
few_below test (suc m) a cut p lt =
    elim (cases_Bool (test a)) [
      | inl on ↦
          let other : p ≡ a → ⊥ = λ same. omega arith in
          rw on
          (omega (arith, few_below test m (a + 1) (advanced cut a) p (omega arith), advanced_there cut a p other))
      | inr off ↦ rw off (few_below test m (a + 1) cut p (omega arith))
    ]

few_here : (test : ℕ → Bool) (m a : ℕ) (cut : Cut) (p : ℕ)
    → cut_after cut (filter test (range_with_len a m)) p ≤ cut p + cond (test p) 1 0
few_here test zero a cut p = omega arith
few_here test (suc m) a cut p =
    elim (cases_Bool (test a)) [
      | inl on ↦
          elim (cases_eq p a) [
            | inl same ↦
                let passes : cond {A = ℕ} (test p) 1 0 ≡ 1 = ap (λ i. cond {A = ℕ} (test i) 1 0) same ∙ rw on refl in
                rw on
                (omega (
                  arith,
                  few_below test m (a + 1) (advanced cut a) p (omega arith),
                  advanced_here cut a p same,
                  passes,
                ))
            | inr d ↦
                rw on (omega (arith, few_here test m (a + 1) (advanced cut a) p, advanced_there cut a p d))
          ]
      | inr off ↦ rw off (few_here test m (a + 1) cut p)
    ]

module _ {T : Type 0} (n : Net) (rule : Rule T) (wired : IsWired n) where
  stays : StaysEnabled n rule
  stays s p q d on = enabled_stays n rule wired s p q d on

  -- The ports

  pub clocked_ports : (k : ℕ) → IsPortRun n rule (port_start n) (clocked_port_run n rule k)
  clocked_ports zero = tt
  clocked_ports (suc k) =
      port_run_append n rule (clocked_port_run n rule k) (events_of_clock n rule (after_port_clocks n rule k))
      (port_start n) (clocked_ports k) (ports.clock_run n rule wired (after_port_clocks n rule k))

  pub counted_after : (k : ℕ) → PortCounted n (after_port_clocks n rule k)
  counted_after k =
      port_counted n rule wired (clocked_port_run n rule k) (port_start n) (start_counted n) (clocked_ports k)

  pub next_clock : (k : ℕ)
      → after_port_clocks n rule (suc k)
      ≡ port_after n rule (after_port_clocks n rule k) (events_of_clock n rule (after_port_clocks n rule k))
  next_clock k =
      port_after_append n rule (clocked_port_run n rule k) (events_of_clock n rule (after_port_clocks n rule k))
      (port_start n)

  -- The scripts

  abbrev place : ℕ → Cut
  place k = positions (after_clocks n rule k)

  scripts_run : (k : ℕ) → IsRun n rule (start n) (clocked_run n rule k)
  scripts_run k = clocks_run n rule stays k

  place_inside : (k p : ℕ) → place k p ≤ length (n.script p)
  place_inside k p =
      let run = clocked_run n rule k in
      let cuts = run_cut n rule wired run (start n) (positions.start_counted n) (scripts_run k) in
      omega (
        arith,
        ap (λ (c : Cut). c p) (run_ends n rule run (start n) (scripts_run k)),
        cut_inside n run opening cuts (λ q. omega arith) p,
      )

  place_few : (k p : ℕ) → place (suc k) p ≤ place k p + cond (enabled n (after_clocks n rule k) p) 1 0
  place_few k p =
      let s = after_clocks n rule k in
      let clock = enabled_processes n s in
      let whole : place (suc k) p ≡ cut_after (place k) clock p =
      ap (λ t. positions t p) (after_append n rule (clocked_run n rule k) clock (start n))
      ∙ ap (λ (c : Cut). c p) (run_ends n rule clock s (clock_run n rule stays s)) in
      omega (arith, whole, few_here (enabled n s) n.processes 0 (place k) p)

  enabled_there : (k p : ℕ) → enabled n (after_clocks n rule k) p ≡ enabled_at n (place k) p
  enabled_there k p =
      enabled_as_cut n (after_clocks n rule k)
      (run_counted n rule wired (clocked_run n rule k) (start n) (positions.start_counted n) (scripts_run k)) p

  -- where all that have come there have come here, what comes there at the next clock comes here as well
  comes_too : (k p : ℕ) → ((q j : ℕ) → j < place k q → (after_port_clocks n rule k).has_come q j ≡ true)
      → enabled n (after_clocks n rule k) p ≡ true
      → (port_after n rule (after_port_clocks n rule k) (events_of_clock n rule
      (after_port_clocks n rule k))).has_come p
      (place k p)
      ≡ true
  comes_too k p before on =
      let s = after_port_clocks n rule k in
      elim (cases_Bool (s.has_come p (place k p))) [
        | inl came ↦ come_grows n rule (events_of_clock n rule s) s p (place k p) came
        | inr new ↦
            ports.clock_comes n rule wired s p (place k p)
            (coming n s p (place k p)
            (may_from_cut n wired s (counted_after k) (place k) (place_inside k) before p new
            (sym (enabled_there k p) ∙ on)))
      ]

  pub never_behind : (k p j : ℕ) → j < place k p → (after_port_clocks n rule k).has_come p j ≡ true
  never_behind zero p j lt = absurd (omega arith)
  never_behind (suc k) p j lt =
      let s = after_port_clocks n rule k in
      let clock = events_of_clock n rule s in
      subst (λ (t : PortState T). t.has_come p j ≡ true) (sym (next_clock k))
      (elim (cases_lt j (place k p)) [
        | inl low ↦ come_grows n rule clock s p j (never_behind k p j low)
        | inr high ↦
            elim (cases_Bool (enabled n (after_clocks n rule k) p)) [
              | inl on ↦
                  let one : cond {A = ℕ} (enabled n (after_clocks n rule k) p) 1 0 ≡ 1 =
                  cond-true {A = ℕ} (enabled n (after_clocks n rule k) p) 1 0 on in
                  let same : j ≡ place k p = omega (arith, lt, high, place_few k p, one) in
                  subst (λ i. (port_after n rule s clock).has_come p i ≡ true) (sym same)
                  (comes_too k p (never_behind k) on)
              | inr off ↦
                  let none : cond {A = ℕ} (enabled n (after_clocks n rule k) p) 1 0 ≡ 0 =
                  cond-false {A = ℕ} (enabled n (after_clocks n rule k) p) 1 0 off in
                  absurd (omega (arith, lt, high, place_few k p, none))
            ]
      ])
