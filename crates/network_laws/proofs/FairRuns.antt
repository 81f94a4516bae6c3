-- An execution in which no process is held back for ever ends all.
--
-- Where not all have ended, some process is enabled. Until it steps it stays enabled, and after some clocks it may step;
-- by then that process or another one has stepped (`steps_by`). So the events that are left have become fewer, and there
-- are only as many as the scripts have (`ends_in_time`, by induction on those that are left). How many clocks it takes
-- isn't bounded: that is up to who holds back.
use Rattle.std.proofs.Common.{◌≡◌, ◌⊎◌, ℕ, zero, suc, ◌+◌, ◌<◌, ◌≤◌, Bool, true, ◌&&◌, List, [], ◌∷◌, ◌++◌}
use Rattle.std.proofs.Common.{length, ap, sym, ◌∙◌, refl, inl, inr, arith, length-append, append-nil}
use Rattle.std.proofs.lemmas.Bool.{both_ways, cases_eq, cases_lt}
use Rattle.std.proofs.lemmas.List.{drop_all}
use Rattle.net_core.specs.Cuts.{Cut, IsCutRun, advanced, cut_after, enabled_at, opening}
use Rattle.net_core.specs.Machine.{Net, Rule, enabled, HasEnded}
use Rattle.net_core.specs.Orders.{EndsAll, EndsAlways, reached}
use Rattle.net_core.specs.Shape.{IsWired}
use Rattle.net_core.proofs.Positions.{enabled_inside}
use Rattle.witness_plan.proofs.Downward.{events_left, left_less}
use Rattle.clock_sim.proofs.NumberFilters.{some_passes}
use Rattle.network_laws.specs.Stalls.{IsFair, run_with_stalls}
use Rattle.network_laws.proofs.RunsWithStalls.{clock_at, enabled_there, none_past, place, stalled_cuts, stalled_runs}

-- a process that may go on is there
there_when_enabled : (n : Net) → IsWired n → (k : Cut) (p : ℕ) → enabled_at n k p ≡ true → p < n.processes
there_when_enabled n wired k p on =
    elim (cases_lt p n.processes) [
      | inl lt ↦ lt
      | inr past ↦ absurd (both_ways (enabled_at n k p) (none_past n wired k p past) on)
    ]

-- each event of a run leaves one less
pub left_run : (n : Net) → IsWired n → (run : List ℕ) (k : Cut) → IsCutRun n k run
    → events_left n k n.processes ≡ length run + events_left n (cut_after k run) n.processes
left_run n wired [] k is = omega arith
left_run n wired (p ∷ run) k is =
    omega (
      arith,
      left_less n k p n.processes (there_when_enabled n wired k p is.0) (enabled_inside n k p is.0),
      left_run n wired run (advanced k p) is.1,
    )

module _ {T : Type 0} (n : Net) (rule : Rule T) (wired : IsWired n) (may : ℕ → ℕ → Bool) where
  abbrev run_to : ℕ → List ℕ
  run_to k = run_with_stalls n rule may k

  abbrev at : ℕ → Cut
  at k = place n rule wired may k

  left_at : (k : ℕ) → events_left n opening n.processes ≡ length (run_to k) + events_left n (at k) n.processes
  left_at k = left_run n wired (run_to k) opening (stalled_cuts n rule wired may k)

  longer : (k : ℕ) → length (run_to (suc k)) ≡ length (run_to k) + length (clock_at n rule wired may k)
  longer k = length-append (run_to k) (clock_at n rule wired may k)

  -- at a later clock either more has happened, or nothing
  pub still_or_longer : (k j : ℕ) → k ≤ j → (length (run_to k) < length (run_to j)) ⊎ (run_to j ≡ run_to k)
  still_or_longer k zero le = let same : 0 ≡ k = omega arith in inr (ap run_to same)
  still_or_longer k (suc j) le =
      elim (cases_lt k (suc j)) [
        | inr ge ↦ let same : suc j ≡ k = omega arith in inr (ap run_to same)
        | inl lt ↦
            let clock = clock_at n rule wired may j in
            elim (still_or_longer k j (omega arith)) [
              | inl more ↦ inl (omega (arith, more, longer j))
              | inr same ↦
                  elim (cases_eq (length clock) 0) [
                    | inl none ↦
                        inr (ap (λ (l : List ℕ). run_to j ++ l) (drop_all 0 clock (omega (arith, none))) ∙ append-nil (run_to j) ∙ same)
                    | inr some ↦ inl (omega (arith, some, longer j, ap length same))
                  ]
            ]
      ]

  -- where a process is enabled at clock k and may step at clock j, an event has come by then
  pub steps_by : (k j p : ℕ) → k ≤ j → enabled_at n (at k) p ≡ true → may j p ≡ true
      → length (run_to k) < length (run_to (suc j))
  steps_by k j p le on lets =
      elim (still_or_longer k j le) [
        | inl more ↦ omega (arith, more, longer j)
        | inr same ↦
            let here : enabled n (reached n rule (run_to j)) p ≡ true =
            enabled_there n rule wired may j p
            ∙ ap (λ (run : List ℕ). enabled_at n (cut_after opening run) p) same ∙ on in
            let both : (may j p && enabled n (reached n rule (run_to j)) p) ≡ true = rw (lets, here) refl in
            let lt = there_when_enabled n wired (at k) p on in
            let some =
            some_passes (λ q. may j q && enabled n (reached n rule (run_to j)) q) n.processes 0 p (omega arith)
            (omega (arith, lt)) both in
            omega (arith, some, longer j, ap length same)
      ]

  module _ (ends : EndsAlways n rule) (fair : IsFair n rule may) where
    pub ends_in_time : (many k : ℕ) → events_left n (at k) n.processes ≤ many
        → (j : ℕ) × HasEnded n (reached n rule (run_to j))
    ends_in_time zero k few =
        elim (ends.goes_on (run_to k) (stalled_runs n rule wired may k)) [
          | inl ended ↦ (k, ended)
          | inr found ↦
              let p : ℕ = found.0 in
              let on : enabled_at n (at k) p ≡ true = sym (enabled_there n rule wired may k p) ∙ found.1 in
              absurd (omega (
                arith,
                few,
                left_less n (at k) p n.processes (there_when_enabled n wired (at k) p on)
                    (enabled_inside n (at k) p on),
              ))
        ]
    ends_in_time (suc many) k few =
        elim (ends.goes_on (run_to k) (stalled_runs n rule wired may k)) [
          | inl ended ↦ (k, ended)
          | inr found ↦
              let p : ℕ = found.0 in
              let on : enabled_at n (at k) p ≡ true = sym (enabled_there n rule wired may k p) ∙ found.1 in
              let when = fair k p found.1 in
              let j : ℕ = when.0 in
              let later = steps_by k j p when.1 on when.2 in
              let fewer : events_left n (at (suc j)) n.processes ≤ many =
              omega (arith, few, later, left_at k, left_at (suc j)) in
              ends_in_time many (suc j) fewer
        ]

    pub fair_ends : (k : ℕ) × EndsAll n rule (run_to k)
    fair_ends =
        let last = ends_in_time (events_left n opening n.processes) 0 (omega arith) in
        (last.0, (stalled_runs n rule wired may last.0, last.1))
