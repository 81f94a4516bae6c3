-- The clocked run of the ports ends all, within the clocks of that of the scripts.
--
-- At the clock at which the run of the scripts has ended all have come here (NotBehind), so no event comes any
-- more: the first such clock is no later (`few_clocks`). There nothing may come, and every run goes on until all
-- have come, so all have. Which events come is the same whatever fires give (`same_clocks`), so the clocks are
-- counted over tags.
use Rattle.std.proofs.Common.{◌≡◌, ℕ, zero, suc, ◌+◌, ◌<◌, ◌≤◌, true, false, not, List, [], ◌∷◌, ◌++◌, length}
use Rattle.std.proofs.Common.{ap, sym, ◌∙◌, refl, inl, inr, arith}
use Rattle.std.specs.List.{range_with_len}
use Rattle.std.proofs.lemmas.Bool.{both_ways, cases_lt, eq-eqb, eqb-false, eqb-true}
use Rattle.std.proofs.lemmas.List.FromFn.{length-range_with_len}
use Rattle.std.proofs.lemmas.List.Sums.{fails_before_first, passes_at_first, prefix_len-le-length}
use Rattle.net_core.specs.Machine.{Net, Rule}
use Rattle.net_core.specs.Rules.{tags}
use Rattle.net_core.specs.Shape.{IsWired, events_below}
use Rattle.clock_sim.specs.Clocks.{ClockedRunEnds, clocks}
use Rattle.port_runs.specs.Ports.{AllHaveCome, EventPlace, PortsEndAlways, port_reached, port_start}
use Rattle.port_clocks.specs.PortClocks.{PortClocksEnd, after_port_clocks, clocked_port_run, events_of_clock}
use Rattle.port_clocks.specs.PortClocks.{is_still_after, port_clocks}
use Rattle.port_clocks.proofs.NotBehind.{clocked_ports, counted_after, never_behind}
use Rattle.port_clocks.proofs.OneClock.{none_comes, nothing_may, same_clock, same_come}
use Rattle.plain_data.proofs.Lists.{get_or-range_with_len_zero}

module _ {T U : Type 0} (n : Net) (rule : Rule T) (other : Rule U) (wired : IsWired n) where
  same_after : (k : ℕ) → clocked_port_run n rule k ≡ clocked_port_run n other k
      → events_of_clock n rule (after_port_clocks n rule k) ≡ events_of_clock n other (after_port_clocks n other k)
  same_after k same =
      same_clock n rule other wired (after_port_clocks n rule k) (after_port_clocks n other k)
      (counted_after n rule wired k) (counted_after n other wired k)
      (same_come n rule other (clocked_port_run n rule k) (port_start n) (port_start n) refl
      ∙ ap (λ (run : List EventPlace). (port_reached n other run).has_come) same)

  same_clocks : (k : ℕ) → clocked_port_run n rule k ≡ clocked_port_run n other k
  same_clocks zero = refl
  same_clocks (suc k) =
      ap (λ (run : List EventPlace). run ++ events_of_clock n rule (after_port_clocks n rule k)) (same_clocks k)
      ∙ ap (λ (run : List EventPlace). clocked_port_run n other k ++ run) (same_after k (same_clocks k))

  pub same_events : (k : ℕ)
      → events_of_clock n rule (after_port_clocks n rule k) ≡ events_of_clock n other (after_port_clocks n other k)
  same_events k = same_after k (same_clocks k)

module _ (n : Net) (wired : IsWired n) (scripts : ClockedRunEnds n tags) where
  -- where the run of the scripts has ended all have come
  all_come : AllHaveCome n (after_port_clocks n tags (clocks n))
  all_come p k lt = never_behind n tags wired (clocks n) p k (omega (arith, lt, scripts.ends.1 p))

  still_there : is_still_after n (clocks n) ≡ true
  still_there =
      let none = none_comes n tags wired (after_port_clocks n tags (clocks n)) all_come in
      eq-eqb (length (events_of_clock n tags (after_port_clocks n tags (clocks n)))) 0 (ap length none)

  short : port_clocks n ≤ events_below n n.processes
  unfolding port_clocks
  short =
      let numbers = range_with_len 0 (events_below n n.processes) in
      omega (
        arith,
        prefix_len-le-length (λ k. not (is_still_after n k)) numbers,
        length-range_with_len 0 (events_below n n.processes),
      )

  -- before the last clock some event comes
  goes_on : (k : ℕ) → k < port_clocks n → is_still_after n k ≡ false
  unfolding port_clocks
  goes_on k lt =
      let many = events_below n n.processes in
      let small : k < many = omega (arith, lt, short) in
      ap (is_still_after n) (sym (get_or-range_with_len_zero many k small))
      ∙ fails_before_first (is_still_after n) (range_with_len 0 many) k 0 lt

  pub few_clocks : port_clocks n ≤ clocks n
  few_clocks =
      elim (cases_lt (clocks n) (port_clocks n)) [
        | inl lt ↦ absurd (both_ways (is_still_after n (clocks n)) (goes_on (clocks n) lt) still_there)
        | inr le ↦ le
      ]

  still_at_last : is_still_after n (port_clocks n) ≡ true
  unfolding port_clocks
  still_at_last =
      let many = events_below n n.processes in
      elim (cases_lt (port_clocks n) many) [
        | inl lt ↦
            let within : port_clocks n < length (range_with_len 0 many) =
            omega (arith, lt, length-range_with_len 0 many) in
            ap (is_still_after n) (sym (get_or-range_with_len_zero many (port_clocks n) lt))
            ∙ passes_at_first (is_still_after n) (range_with_len 0 many) 0 within
        | inr all ↦
            let same : port_clocks n ≡ clocks n = omega (arith, all, few_clocks, scripts.few) in
            ap (is_still_after n) same ∙ still_there
      ]

  -- the law of the clocked run
  pub port_clocks_end : {T : Type 0} (rule : Rule T) → PortsEndAlways n rule → PortClocksEnd n rule
  port_clocks_end {T} rule always =
      let last = after_port_clocks n rule (port_clocks n) in
      let many : (k : ℕ)
      → length (events_of_clock n rule (after_port_clocks n rule k))
      ≡ length (events_of_clock n tags (after_port_clocks n tags k)) =
      λ k. ap length (same_events n rule tags wired k) in
      let none : length (events_of_clock n rule last) ≡ 0 =
      many (port_clocks n)
      ∙ eqb-true (length (events_of_clock n tags (after_port_clocks n tags (port_clocks n)))) 0 still_at_last in
      let still : events_of_clock n rule last ≡ [] = empty (events_of_clock n rule last) none in
      record {
        run = clocked_ports n rule wired;
        events = λ k lt.
            let some : length (events_of_clock n tags (after_port_clocks n tags k)) ≡ 0 → ⊥ =
            eqb-false (length (events_of_clock n tags (after_port_clocks n tags k))) 0 (goes_on k lt) in
            omega (arith, many k);
        still = still;
        ends = elim (always.goes_on (clocked_port_run n rule (port_clocks n)) (clocked_ports n rule wired
            (port_clocks n))) [
              | inl all ↦ all
              | inr on ↦ absurd (nothing_may n rule wired last still on.0 on.1)
            ];
        ahead = never_behind n rule wired;
        few = few_clocks;
      }
    where
      empty : {X : Type 0} (xs : List X) → length xs ≡ 0 → xs ≡ []
      empty [] e = refl
      empty (x ∷ xs) e = absurd (omega arith)
