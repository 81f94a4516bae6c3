-- The clocked run is nowhere behind an execution in which processes are held back, and greater capacities are never slower.
--
-- At every clock each process of the execution is at most where the clocked run has it. For a process that is behind, one
-- event can't bring it past. A process that is equally far and may go on in the execution may go on in the clocked run
-- too, since all others are as far there or farther, and what may come at a cut may come at each later cut that leaves its
-- process where it is (`place_behind`, by induction on the clocks). With greater capacities a clocked run is an execution in
-- which just those are held back that the lesser ones hold back. Nothing is said of executions in which an event is enabled
-- by another one of the same clock.
use Rattle.std.proofs.Common.{◌≡◌, ℕ, zero, suc, ◌<◌, ◌≤◌, Bool, true, false, ◌&&◌, cond, List, ◌++◌}
use Rattle.std.proofs.Common.{length, ap, sym, subst, ◌∙◌, refl, inl, inr, arith}
use Rattle.std.specs.List.{range_with_len}
use Rattle.std.proofs.lemmas.Bool.{cases_Bool, cases_lt}
use Rattle.std.proofs.lemmas.List.Elements.{filter_agree}
use Rattle.std.proofs.lemmas.Option.{slice_get_past}
use Rattle.net_core.specs.Cuts.{Cut, IsCutRun, can_come_at, cut_after, enabled_at, opening, positions}
use Rattle.net_core.specs.Machine.{Net, Rule, enabled, start, HasEnded, IsRun, IsStuck}
use Rattle.net_core.specs.Orders.{EndsAll, reached}
use Rattle.net_core.specs.Shape.{IsWired}
use Rattle.net_core.proofs.CutOrder.{enabled_stays_at}
use Rattle.net_core.proofs.TwoSteps.{enabled_stays}
use Rattle.net_core.proofs.Positions.{cut_inside, run_cut, start_counted}
use Rattle.process_derive.proofs.Sums.{one_if-le}
use Rattle.witness_plan.proofs.OtherCapacities.{wired_at}
use Rattle.cap_trim.specs.Capacities.{with_room}
use Rattle.clock_sim.specs.Clocks.{ClockedRunEnds, after_clocks, clocked_run, clocks}
use Rattle.clock_sim.proofs.ClockRuns.{clocks_run, none_from_stuck}
use Rattle.network_laws.specs.Stalls.{run_with_stalls, steps_of_clock}
use Rattle.cap_trim.proofs.MoreRoom.{enabled_roomier, ends_roomier, run_roomier}
use Rattle.network_laws.proofs.RunsWithStalls.{always, clocked_is_stalled, enabled_there, place, place_few, place_moved}
use Rattle.network_laws.proofs.RunsWithStalls.{reached_at, reached_enabled, stalled_cuts}

-- The clocked run itself

module _ {T : Type 0} (n : Net) (rule : Rule T) (wired : IsWired n) where
  pub clocked_is_run : (k : ℕ) → IsRun n rule (start n) (clocked_run n rule k)
  clocked_is_run = clocks_run n rule (λ s p q other on. enabled_stays n rule wired s p q other on)

  pub clocked_cuts : (k : ℕ) → IsCutRun n opening (clocked_run n rule k)
  clocked_cuts k = run_cut n rule wired (clocked_run n rule k) (start n) (start_counted n) (clocked_is_run k)

  -- where it stands after so many clocks
  pub clocked_at : (k p : ℕ) → positions (after_clocks n rule k) p ≡ place n rule wired always k p
  clocked_at k p =
      ap (λ (run : List ℕ). positions (reached n rule run) p) (clocked_is_stalled n rule k)
      ∙ ap (λ (c : Cut). c p)
      (reached_at n rule wired (run_with_stalls n rule always k) (stalled_cuts n rule wired always k))

-- An execution in which processes are held back

module _ {T : Type 0} (n : Net) (rule : Rule T) (wired : IsWired n) (may : ℕ → ℕ → Bool) where
  -- where the execution and the clocked run stand at the beginning of a clock
  abbrev held : ℕ → Cut
  held k = place n rule wired may k

  abbrev free : ℕ → Cut
  free k = place n rule wired always k

  -- a process that is equally far goes on where it goes on in the execution
  goes_on_too : (k p : ℕ) → ((q : ℕ) → held k q ≤ free k q) → held k p ≡ free k p
      → cond {A = ℕ} (may k p && enabled_at n (held k) p) 1 0 ≤ cond (enabled_at n (free k) p) 1 0
  goes_on_too k p behind same =
      elim (cases_Bool (enabled_at n (held k) p)) [
        | inl on ↦
            rw (on, enabled_stays_at n wired (held k) (free k) p behind same on) (one_if-le (may k p && true))
        | inr off ↦ rw off (omega (arith, with_false (may k p)))
      ]
    where
      with_false : (b : Bool) → cond {A = ℕ} (b && false) 1 0 ≡ 0
      with_false true = refl
      with_false false = refl

  pub place_behind : (k p : ℕ) → held k p ≤ free k p
  place_behind zero p = omega arith
  place_behind (suc k) p =
      let one = place_moved n rule wired may k p in
      let all = place_moved n rule wired always k p in
      elim (cases_lt (held k p) (free k p)) [
        | inl lt ↦ omega (arith, one, all, one_if-le (may k p && enabled_at n (held k) p))
        | inr ge ↦
            let same : held k p ≡ free k p = omega (arith, place_behind k p) in
            omega (arith, one, all, same, goes_on_too k p (place_behind k) same)
      ]

  -- the states stand at these positions
  held_at : (k p : ℕ) → positions (reached n rule (run_with_stalls n rule may k)) p ≡ held k p
  held_at k p = ap (λ (c : Cut). c p) (reached_at n rule wired (run_with_stalls n rule may k) (stalled_cuts n rule wired may k))

  pub never_ahead : (k p : ℕ) → positions (reached n rule (run_with_stalls n rule may k)) p ≤ positions (after_clocks n rule k) p
  never_ahead k p = omega (arith, held_at k p, clocked_at n rule wired k p, place_behind k p)

  -- where every script is at its end, nobody may go on
  stuck_at_end : (k : ℕ) → ((p : ℕ) → free k p ≡ length (n.script p)) → IsStuck n (after_clocks n rule k)
  stuck_at_end k ended p =
      ap (λ (run : List ℕ). enabled n (reached n rule run) p) (clocked_is_stalled n rule k)
      ∙ enabled_there n rule wired always k p
      ∙ ap (can_come_at n (free k)) (slice_get_past (n.script p) (free k p) (omega (arith, ended p)))

  pub clocks_least : ClockedRunEnds n rule → (k : ℕ) → HasEnded n (reached n rule (run_with_stalls n rule may k))
      → clocks n ≤ k
  clocks_least ends k ended =
      elim (cases_lt k (clocks n)) [
        | inl early ↦
            let all : (p : ℕ) → free k p ≡ length (n.script p) =
            λ p. (let inside =
            cut_inside n (run_with_stalls n rule always k) opening (stalled_cuts n rule wired always k)
            (λ q. omega arith) p in
            let there : positions (reached n rule (run_with_stalls n rule may k)) p ≡ length (n.script p) = ended p in
            omega (arith, place_behind k p, held_at k p, there, inside)) in
            let none = none_from_stuck n (after_clocks n rule k) (stuck_at_end k all) in
            absurd (omega (arith, ends.events k early, ap length none))
        | inr late ↦ omega arith
      ]

  -- each script is as long as there are clocks at most
  pub script_short : ClockedRunEnds n rule → (p : ℕ) → length (n.script p) ≤ clocks n
  script_short ends p =
      let there : positions (after_clocks n rule (clocks n)) p ≡ length (n.script p) = ends.ends.1 p in
      omega (arith, there, clocked_at n rule wired (clocks n) p, place_few n rule wired always (clocks n) p)

-- Greater capacities

module _ {T : Type 0} (n : Net) (rule : Rule T) (capacities : ℕ → ℕ) (wired : IsWired n)
    (more : (c : ℕ) → c < n.channels → n.capacity c ≤ capacities c) where
  abbrev greater : Net
  greater = with_room n capacities

  greater_wired : IsWired greater
  greater_wired = wired_at n capacities wired

  -- those are held back that the lesser capacities hold back
  abbrev as_before : ℕ → ℕ → Bool
  as_before k p = enabled n (after_clocks n rule k) p

  cuts_there : (k : ℕ) → IsCutRun greater opening (clocked_run n rule k)
  cuts_there k = run_roomier n wired capacities more (clocked_run n rule k) opening (clocked_cuts n rule wired k)

  enabled_there_too : (k p : ℕ) → as_before k p ≡ true
      → enabled greater (reached greater rule (clocked_run n rule k)) p ≡ true
  enabled_there_too k p on =
      let run = clocked_run n rule k in
      reached_enabled greater rule greater_wired run (cuts_there k) p
      ∙ enabled_roomier n wired capacities more (cut_after opening run) p
      (sym (reached_enabled n rule wired run (clocked_cuts n rule wired k) p) ∙ on)

  pub same_run : (k : ℕ) → run_with_stalls greater rule as_before k ≡ clocked_run n rule k
  same_run zero = refl
  same_run (suc k) =
      ap (λ (run : List ℕ). run ++ steps_of_clock greater (as_before k) (reached greater rule run)) (same_run k)
      ∙ ap (λ (clock : List ℕ). clocked_run n rule k ++ clock)
      (filter_agree (λ p. as_before k p && enabled greater (reached greater rule (clocked_run n rule k)) p)
      (enabled n (after_clocks n rule k)) agree (range_with_len 0 n.processes))
    where
      agree : (p : ℕ) → (as_before k p && enabled greater (reached greater rule (clocked_run n rule k)) p) ≡ as_before k p
      agree p =
          elim (cases_Bool (as_before k p)) [
            | inl on ↦ rw (on, enabled_there_too k p on) refl
            | inr off ↦ rw off refl
          ]

  -- at every clock each process has come at least as far
  pub never_behind : (k p : ℕ) → positions (after_clocks n rule k) p ≤ positions (after_clocks greater rule k) p
  never_behind k p =
      let run = clocked_run n rule k in
      let here = reached_at n rule wired run (clocked_cuts n rule wired k) in
      let there = reached_at greater rule greater_wired run (cuts_there k) in
      omega (
        arith,
        ap (λ (c : Cut). c p) here,
        ap (λ (c : Cut). c p) there,
        ap (λ (r : List ℕ). positions (reached greater rule r) p) (same_run k),
        never_ahead greater rule greater_wired as_before k p,
      )

  pub all_ends : ClockedRunEnds n rule → EndsAll greater rule (clocked_run n rule (clocks n))
  all_ends ends = ends_roomier n wired capacities more rule (clocked_run n rule (clocks n)) ends.ends

  pub never_slower : ClockedRunEnds n rule → ClockedRunEnds greater rule → clocks greater ≤ clocks n
  never_slower ends more_ends =
      clocks_least greater rule greater_wired as_before more_ends (clocks n)
      (subst (λ (run : List ℕ). HasEnded greater (reached greater rule run)) (sym (same_run (clocks n)))
      (all_ends ends).1)
