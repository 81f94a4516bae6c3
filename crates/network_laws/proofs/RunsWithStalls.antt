-- An execution in which processes are held back is a run, and its positions go on clock by clock.
--
-- The clocks before are a run by induction, so the state at a clock's beginning goes as its cut does: which processes are
-- enabled there is a matter of the cut. Those that step are enabled, so the clock is a run as well (`stalled_cuts`). At
-- each clock a process goes on by one exactly where it may step and is enabled (`place_moved`); so it is at most as many
-- events on as there were clocks. With nobody held back this is the clocked run (`clocked_is_stalled`). That all end in
-- time isn't a matter of this file.
use Rattle.std.proofs.Common.{◌≡◌, ℕ, zero, suc, ◌+◌, ◌≤◌, Bool, true, false, ◌&&◌, cond, List, ◌++◌}
use Rattle.std.proofs.Common.{length, ap, sym, ◌∙◌, refl, inl, inr, arith}
use Rattle.std.specs.List.{filter, range_with_len}
use Rattle.std.proofs.lemmas.Bool.{and_parts, cases_lt}
use Rattle.std.proofs.lemmas.Option.{slice_get_past}
use Rattle.net_core.specs.Cuts.{Cut, IsCutRun, can_come_at, cut_after, enabled_at, opening, positions}
use Rattle.net_core.specs.Machine.{Net, Rule, start, enabled, IsRun}
use Rattle.net_core.specs.Orders.{reached}
use Rattle.net_core.specs.Shape.{IsWired}
use Rattle.net_core.proofs.Positions.{cut_run, enabled_as_cut, run_counted, run_ends, start_counted}
use Rattle.clock_sim.specs.Clocks.{clocked_run, enabled_processes}
use Rattle.network_laws.specs.Stalls.{run_with_stalls, steps_of_clock}
use Rattle.net_core.proofs.CutOrder.{cut_after-append}
use Rattle.witness_plan.proofs.AlongCuts.{IsCutRun-append}
use Rattle.network_laws.proofs.OneClock.{clock_runs, positions_kept, positions_moved}

-- a process that isn't there may never go on
pub none_past : (n : Net) → IsWired n → (k : Cut) (p : ℕ) → n.processes ≤ p → enabled_at n k p ≡ false
none_past n wired k p past =
    let nothing : length (n.script p) ≡ 0 = ap length (wired.bounded p past) in
    ap (can_come_at n k) (slice_get_past (n.script p) (k p) (omega arith))

-- nobody is held back
abbrev pub always : ℕ → ℕ → Bool
always k p = true

pub clocked_is_stalled : {T : Type 0} (n : Net) (rule : Rule T) (k : ℕ)
    → clocked_run n rule k ≡ run_with_stalls n rule always k
clocked_is_stalled n rule zero = refl
clocked_is_stalled n rule (suc k) =
    ap (λ (run : List ℕ). run ++ enabled_processes n (reached n rule run)) (clocked_is_stalled n rule k)

module _ {T : Type 0} (n : Net) (rule : Rule T) (wired : IsWired n) where
  -- the state after a run on cuts is enabled as its cut is
  pub reached_run : (run : List ℕ) → IsCutRun n opening run → IsRun n rule (start n) run
  reached_run run is = cut_run n rule wired run (start n) (start_counted n) is

  pub reached_at : (run : List ℕ) → IsCutRun n opening run → positions (reached n rule run) ≡ cut_after opening run
  reached_at run is = run_ends n rule run (start n) (reached_run run is)

  pub reached_enabled : (run : List ℕ) → IsCutRun n opening run → (p : ℕ)
      → enabled n (reached n rule run) p ≡ enabled_at n (cut_after opening run) p
  reached_enabled run is p =
      enabled_as_cut n (reached n rule run) (run_counted n rule wired run (start n) (start_counted n) (reached_run run is))
      p
      ∙ ap (λ (k : Cut). enabled_at n k p) (reached_at run is)

  module _ (may : ℕ → ℕ → Bool) where
    abbrev pub run_to : ℕ → List ℕ
    run_to k = run_with_stalls n rule may k

    abbrev pub clock_at : ℕ → List ℕ
    clock_at k = steps_of_clock n (may k) (reached n rule (run_to k))

    abbrev pub place : ℕ → Cut
    place k = cut_after opening (run_to k)

    -- what steps at the next clock is a run
    clock_is_run : (k : ℕ) → IsCutRun n opening (run_to k) → IsCutRun n (place k) (clock_at k)
    clock_is_run k is =
        clock_runs n wired (λ p. may k p && enabled n (reached n rule (run_to k)) p) n.processes 0 (place k)
        (λ q low on. sym (reached_enabled (run_to k) is q)
        ∙ (and_parts (may k q) (enabled n (reached n rule (run_to k)) q) on).1)

    pub stalled_cuts : (k : ℕ) → IsCutRun n opening (run_to k)
    stalled_cuts zero = tt
    stalled_cuts (suc k) =
        IsCutRun-append n (run_to k) (clock_at k) opening (stalled_cuts k) (clock_is_run k (stalled_cuts k))

    pub stalled_runs : (k : ℕ) → IsRun n rule (start n) (run_to k)
    stalled_runs k = reached_run (run_to k) (stalled_cuts k)

    pub enabled_there : (k p : ℕ) → enabled n (reached n rule (run_to k)) p ≡ enabled_at n (place k) p
    enabled_there k p = reached_enabled (run_to k) (stalled_cuts k) p

    pub place_next : (k : ℕ) → place (suc k) ≡ cut_after (place k) (clock_at k)
    place_next k = cut_after-append opening (run_to k) (clock_at k)

    -- one clock advances the processes that may step and are enabled
    pub place_moved : (k p : ℕ) → place (suc k) p ≡ place k p + cond (may k p && enabled_at n (place k) p) 1 0
    place_moved k p =
        let test : ℕ → Bool = λ q. may k q && enabled n (reached n rule (run_to k)) q in
        let first : place (suc k) p ≡ cut_after (place k) (filter test (range_with_len 0 n.processes)) p =
        ap (λ (c : Cut). c p) (place_next k) in
        elim (cases_lt p n.processes) [
          | inl lt ↦
              first ∙ positions_moved test n.processes 0 (place k) p (omega arith) (omega arith)
              ∙ ap (λ b. place k p + cond (may k p && b) 1 0) (enabled_there k p)
          | inr past ↦
              let still : cond {A = ℕ} (may k p && enabled_at n (place k) p) 1 0 ≡ 0 =
              rw (none_past n wired (place k) p past) (never (may k p)) in
              omega (arith, first, positions_kept test n.processes 0 (place k) p (inr (omega (arith, past))), still)
        ]
      where
        never : (b : Bool) → cond {A = ℕ} (b && false) 1 0 ≡ 0
        never true = refl
        never false = refl

    -- nobody makes more than one event a clock
    pub place_few : (k p : ℕ) → place k p ≤ k
    place_few zero p = omega arith
    place_few (suc k) p = omega (arith, place_moved k p, place_few k p, most (may k p && enabled_at n (place k) p))
      where
        most : (b : Bool) → cond {A = ℕ} b 1 0 ≤ 1
        most true = omega arith
        most false = omega arith
