-- A design of which nodes are held back stands for the run in which processes are held back at the same clocks.
--
-- `design_clocks` says so of a run by a definition of its own, which is the one here (`same_run`). So a node is at its
-- script's end where its process has ended. Where all nodes are, no process is enabled, and a state of a network that
-- ends always in which none is enabled has ended; then the sinks have kept the arrays, and these were given out.
use Rattle.std.proofs.Common.{◌≡◌, ℕ, zero, suc, ◌-◌, ◌≤◌, ℤ, Bool, false, None, List, ◌++◌, length, refl, sym, ap}
use Rattle.std.proofs.Common.{◌∙◌, inl, inr, arith}
use Rattle.std.specs.List.{filter, range_with_len}
use Rattle.std.proofs.lemmas.Bool.{both_ways}
use Rattle.std.proofs.lemmas.Option.{slice_get_past}
use mathlib.Core.Path.{fun_ext}
use Rattle.sanlp.specs.declared.nest.Inputs.{Inputs}
use Rattle.sanlp.specs.declared.nest.Nest.{Nest}
use Rattle.sanlp.specs.Meaning.{arrays}
use Rattle.sanlp.specs.WellFormed.{output_numbers}
use Rattle.net_core.specs.declared.network.Network.{Network}
use Rattle.net_core.specs.Machine.{Net, Rule, net_of, start, next, can_come, enabled, HasEnded, IsRun}
use Rattle.net_core.specs.Orders.{EndsAlways, reached}
use Rattle.net_core.specs.Rules.{values}
use Rattle.net_core.specs.Shape.{IsWired}
use Rattle.net_core.specs.Sound.{IsSound, sink_lists_from}
use Rattle.design_clocks.specs.Registers.{Controls, Design, after_stalls, event_at}
use Rattle.design_clocks.specs.Clocked.{GiveScripts, design_of, results_of}
use Rattle.design_clocks.proofs.Clocked.{fires_by_run, run_of, stands_for_run}
use Rattle.design_clocks.proofs.Edges.{event_alike, who_steps}
use Rattle.network_laws.specs.Stalls.{run_with_stalls}

same_run : {T : Type 0} (n : Net) (rule : Rule T) (may : ℕ → ℕ → Bool) (k : ℕ)
    → run_of n rule may k ≡ run_with_stalls n rule may k
same_run n rule may zero = refl
same_run n rule may (suc k) =
    ap (λ (run : List ℕ).
    run ++ filter (who_steps n (may k) (reached n rule run)) (range_with_len 0 n.processes))
    (same_run n rule may k)

module _ {T : Type 0} (n : Net) (controls : Controls) (rule : Rule T) (wired : IsWired n)
    (give : GiveScripts n controls) (may : ℕ → ℕ → Bool) (k : ℕ) where
  pub stalled_design : after_stalls n controls rule may k
      ≡ design_of controls (reached n rule (run_with_stalls n rule may k))
  stalled_design =
      stands_for_run n controls rule wired give may k
      ∙ ap (λ (run : List ℕ). design_of controls (reached n rule run)) (same_run n rule may k)

  stalled_event : (p : ℕ)
      → event_at controls (after_stalls n controls rule may k) p
      ≡ next n (reached n rule (run_with_stalls n rule may k)) p
  stalled_event p =
      ap (λ (d : Design T). event_at controls d p) stalled_design
      ∙ event_alike n controls give rule (reached n rule (run_with_stalls n rule may k)) p

  pub done_where_ended : HasEnded n (reached n rule (run_with_stalls n rule may k)) → (p : ℕ)
      → event_at controls (after_stalls n controls rule may k) p ≡ None
  done_where_ended ended p =
      let l = (reached n rule (run_with_stalls n rule may k)).local p in
      let there : l.position ≡ length (n.script p) = ended p in
      let past : length (n.script p) ≤ l.position = omega arith in
      stalled_event p ∙ slice_get_past (n.script p) l.position past

  pub ended_where_done : EndsAlways n rule → IsRun n rule (start n) (run_with_stalls n rule may k)
      → ((p : ℕ) → event_at controls (after_stalls n controls rule may k) p ≡ None)
      → HasEnded n (reached n rule (run_with_stalls n rule may k))
  ended_where_done ends is done =
      let s = reached n rule (run_with_stalls n rule may k) in
      elim (ends.goes_on (run_with_stalls n rule may k) is) [
        | inl ended ↦ ended
        | inr on ↦
            let off : enabled n s on.0 ≡ false = ap (can_come n s) (sym (stalled_event on.0) ∙ done on.0) in
            absurd (both_ways (enabled n s on.0) off on.1)
      ]

pub stalled_arrays : (nest : Nest) (network : Network) (sound : IsSound nest network) (controls : Controls)
    → GiveScripts (net_of network) controls → (d : Inputs) (may : ℕ → ℕ → Bool) (k : ℕ)
    → IsRun (net_of network) (values nest d) (start (net_of network)) (run_with_stalls (net_of network) (values nest d) may k)
    → ((p : ℕ) → event_at controls (after_stalls (net_of network) controls (values nest d) may k) p ≡ None)
    → results_of nest (net_of network) controls (values nest d) may k ≡ arrays nest d
stalled_arrays nest network sound controls give d may k is done =
    let n = net_of network in
    let rule = values nest d in
    let wired = sound.fits.shaped.wired in
    let first = length nest.statements - length (output_numbers nest.arrays) in
    let ended = ended_where_done n controls rule wired give may k (sound.ends d) is done in
    ap (λ (kept : ℕ → List ℤ). sink_lists_from kept first nest.arrays)
    (fun_ext (fires_by_run n controls rule wired give may k))
    ∙ ap (λ (run : List ℕ). sink_lists_from (λ p. ((reached n rule run).local p).kept) first nest.arrays)
    (same_run n rule may k)
    ∙ sound.arrays d (run_with_stalls n rule may k) (is, ended)
