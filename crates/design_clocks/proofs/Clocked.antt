-- The design stands for the clocked run, edge by edge and clock by clock, so it stops where that one does.
--
-- The invariant is that after so many edges the design is the one that stands for the state after so many clocks.
-- A reset gives that of the start, and an edge leads on by `edge_alike`, as the clock's events made one after the
-- other come to the same as made at once (`clock_at_once`); so it is where processes and their nodes are held back
-- at the same clocks (`stands_for_run`), of which the clocked run is the case of none. All else is read off the
-- machine's state: which nodes step, who has ended, how long the queues are. From the clocked run's end on no
-- process is enabled, so each further clock is empty (`stay`). Nothing is said of a network that sticks before its
-- end.
use Rattle.std.proofs.Common.{◌≡◌, ℕ, zero, suc, ◌+◌, ◌-◌, ◌<◌, ◌≤◌, ℤ, Bool, true, false, cond, Option, Some, None, List, [], ◌∷◌}
use Rattle.std.proofs.Common.{◌++◌, length, take, slice_get, count_by, option_to_list, refl, sym, ap, subst, ◌∙◌, inl, inr, arith}
use Rattle.std.specs.List.{filter, range_with_len}
use Rattle.std.proofs.lemmas.Bool.{and_parts, both_ways, cases_Bool, cases_lt}
use Rattle.std.proofs.lemmas.Option.{slice_get_past}
use mathlib.Core.Path.{fun_ext}
use Rattle.sanlp.specs.declared.nest.Nest.{Nest}
use Rattle.sanlp.specs.WellFormed.{output_numbers}
use Rattle.net_core.specs.declared.network.Event.{Event}
use Rattle.net_core.specs.declared.network.Event.TheVariants.{Get, Fire, Put}
use Rattle.net_core.specs.Machine.{Net, State, Rule, start, next, can_come, enabled, front, last_of, after, IsRun}
use Rattle.net_core.specs.Orders.{EndsAlways, reached}
use Rattle.net_core.specs.Shape.{is_fire, is_put, IsWired}
use Rattle.net_core.specs.Sound.{sink_lists, sink_lists_from}
use Rattle.net_core.proofs.Positions.{put_fired, run_counted, start_counted}
use Rattle.clock_sim.specs.Clocks.{ClockedRunEnds, after_clocks, clocked_run, clocks, enabled_processes}
use Rattle.clock_sim.proofs.ClockRuns.{after_append, none_from_stuck}
use Rattle.design_clocks.specs.Registers.{Controls, Design, after_edges, after_stalls, edge, event_at, event_if, fire_at}
use Rattle.design_clocks.specs.Registers.{fires_of, token_for, offers, steps, steps_at, no_stalls}
use Rattle.design_clocks.specs.Clocked.{GiveScripts, RunsByClock, TakesClocks, design_of, results_of}
use Rattle.design_clocks.proofs.Edges.{edge_alike, event_alike, fire_alike, who_steps}
use Rattle.design_clocks.proofs.OneClock.{clock_at_once, does, made, moved}

-- the processes that step in the first so many clocks, where process p may step at clock k if `may k p`
abbrev pub run_of : {T : Type 0} → Net → Rule T → (ℕ → ℕ → Bool) → ℕ → List ℕ
run_of n rule may zero = []
run_of n rule may (suc k) =
    run_of n rule may k
    ++ filter (who_steps n (may k) (reached n rule (run_of n rule may k))) (range_with_len 0 n.processes)

-- where nobody is held back this is the clocked run
run_without_stalls : {T : Type 0} (n : Net) (rule : Rule T) (k : ℕ) → run_of n rule no_stalls k ≡ clocked_run n rule k
run_without_stalls n rule zero = refl
run_without_stalls n rule (suc k) =
    ap (λ (run : List ℕ). run ++ enabled_processes n (reached n rule run)) (run_without_stalls n rule k)

module _ {T : Type 0} (n : Net) (controls : Controls) (rule : Rule T) (wired : IsWired n)
    (give : GiveScripts n controls) (may : ℕ → ℕ → Bool) where
  abbrev state_at : ℕ → State T
  state_at k = reached n rule (run_of n rule may k)

  after_clock : (k : ℕ)
      → moved n rule (state_at k) (made n (state_at k) (who_steps n (may k) (state_at k))) ≡ state_at (suc k)
  after_clock k =
      let on = who_steps n (may k) (state_at k) in
      sym (after_append n rule (run_of n rule may k) (filter on (range_with_len 0 n.processes)) (start n)
      ∙ clock_at_once n rule wired (state_at k) on (λ p both. (and_parts _ _ both).1))

  -- so it is where nodes are held back
  pub stands_for_run : (k : ℕ) → after_stalls n controls rule may k ≡ design_of controls (state_at k)
  stands_for_run zero = refl
  stands_for_run (suc k) =
      ap (edge n controls rule (may k)) (stands_for_run k) ∙ edge_alike n controls give rule (may k) (state_at k)
      ∙ ap (λ (s : State T). design_of controls s) (after_clock k)

  pub fires_by_run : (k p : ℕ) → fires_of n controls rule may p k ≡ ((state_at k).local p).kept
  fires_by_run zero p = refl
  fires_by_run (suc k) p =
      let d = after_stalls n controls rule may k in
      ap (λ (l : List T). l ++ option_to_list (fire_at rule d p (event_if controls (may k) d p))) (fires_by_run k p)
      ∙ ap (λ (d : Design T).
      ((state_at k).local p).kept ++ option_to_list (fire_at rule d p (event_if controls (may k) d p)))
      (stands_for_run k)
      ∙ fire_alike n controls give rule (may k) (state_at k) p
      ∙ ap (λ (t : State T). (t.local p).kept) (after_clock k)

module _ {T : Type 0} (n : Net) (controls : Controls) (rule : Rule T) (wired : IsWired n)
    (give : GiveScripts n controls) where
  pub stands_for : (k : ℕ) → after_edges n controls rule k ≡ design_of controls (after_clocks n rule k)
  stands_for k =
      stands_for_run n controls rule wired give no_stalls k
      ∙ ap (λ (run : List ℕ). design_of controls (reached n rule run)) (run_without_stalls n rule k)

  pub fires_alike : (k p : ℕ) → fires_of n controls rule no_stalls p k ≡ ((after_clocks n rule k).local p).kept
  fires_alike k p =
      fires_by_run n controls rule wired give no_stalls k p
      ∙ ap (λ (run : List ℕ). ((reached n rule run).local p).kept) (run_without_stalls n rule k)

  -- what a node reads, and whether it steps
  pub event_after : (k p : ℕ) → event_at controls (after_edges n controls rule k) p ≡ next n (after_clocks n rule k) p
  event_after k p =
      ap (λ (d : Design T). event_at controls d p) (stands_for k)
      ∙ event_alike n controls give rule (after_clocks n rule k) p

  steps_alike : (s : State T) (o : Option Event) → steps_at n (design_of controls s) o ≡ can_come n s o
  steps_alike s None = refl
  steps_alike s (Some (Get c slot)) = refl
  steps_alike s (Some (Fire refs)) = refl
  steps_alike s (Some (Put c)) = refl

  pub steps_after : (k p : ℕ) → steps n controls (after_edges n controls rule k) p ≡ enabled n (after_clocks n rule k) p
  steps_after k p =
      ap (λ (d : Design T). steps n controls d p) (stands_for k)
      ∙ ap (steps_at n (design_of controls (after_clocks n rule k)))
      (event_alike n controls give rule (after_clocks n rule k) p)
      ∙ steps_alike (after_clocks n rule k) (next n (after_clocks n rule k) p)

-- What is offered is there

pub some_last : {T : Type 0} (kept : List T) → 0 < length kept → (x : T) × (front (last_of kept) ≡ Some x)
some_last [] some = absurd (omega arith)
some_last (x ∷ []) some = (x, refl)
some_last (x ∷ (y ∷ kept)) some = some_last (y ∷ kept) (omega arith)

-- a process that stands at a Put has fired
has_fired : (n : Net) (wired : IsWired n) (p k c : ℕ) (o : Option Event) → slice_get (n.script p) k ≡ o
    → does (is_put c) o ≡ true → 0 < count_by is_fire (take k (n.script p))
has_fired n wired p k c None is puts = absurd (cc)
has_fired n wired p k c (Some e) is puts = put_fired n wired p k c e is puts

module _ {T : Type 0} (n : Net) (controls : Controls) (rule : Rule T) (wired : IsWired n)
    (give : GiveScripts n controls) (runs : (k : ℕ) → IsRun n rule (start n) (clocked_run n rule k)) where
  is_defined : (k c : ℕ) → offers n (event_at controls (after_edges n controls rule k)) c ≡ true
      → (x : T) × (token_for n (after_edges n controls rule k) c ≡ Some x)
  is_defined k c puts =
      let s = after_clocks n rule k in
      let p = n.writer c in
      let counted = run_counted n rule wired (clocked_run n rule k) (start n) (start_counted n) (runs k) in
      let stands = ap (does (is_put c)) (sym (event_after n controls rule wired give k p)) ∙ puts in
      let fired = has_fired n wired p (s.local p).position c (next n s p) refl stands in
      let last = some_last (s.local p).kept (omega (arith, counted.kept p)) in
      (last.0, ap (λ (d : Design T). token_for n d c) (stands_for n controls rule wired give k) ∙ last.1)

  pub runs_by_clock : RunsByClock n controls rule
  runs_by_clock = record {
    design = stands_for n controls rule wired give;
    fires = fires_alike n controls rule wired give;
    defined = is_defined;
  }

-- The end

-- where some number passes a test there is one
one_passes : (test : ℕ → Bool) (xs : List ℕ) → 0 < length (filter test xs) → (p : ℕ) × (test p ≡ true)
one_passes test [] some = absurd (omega arith)
one_passes test (x ∷ xs) some =
    elim (cases_Bool (test x)) [
      | inl on ↦ (x, on)
      | inr off ↦
          one_passes test xs
          (subst (λ (b : Bool). 0 < length (cond b (x ∷ filter test xs) (filter test xs))) off some)
    ]

module _ {T : Type 0} (n : Net) (controls : Controls) (rule : Rule T) (wired : IsWired n)
    (give : GiveScripts n controls) (ends : ClockedRunEnds n rule) (always : EndsAlways n rule) where
  -- from the end on all stays as it is
  stay : (j : ℕ) → after_clocks n rule (clocks n + j) ≡ after_clocks n rule (clocks n)
  stay zero = let sum : clocks n + 0 ≡ clocks n = omega arith in ap (after_clocks n rule) sum
  stay (suc j) =
      let sum : clocks n + suc j ≡ suc (clocks n + j) = omega arith in
      ap (after_clocks n rule) sum
      ∙ after_append n rule (clocked_run n rule (clocks n + j))
      (enabled_processes n (after_clocks n rule (clocks n + j))) (start n)
      ∙ ap (λ (s : State T). after n rule s (enabled_processes n s)) (stay j)
      ∙ ap (after n rule (after_clocks n rule (clocks n)))
      (none_from_stuck n (after_clocks n rule (clocks n)) ends.stuck)

  stays : (k : ℕ) → clocks n ≤ k → after_clocks n rule k ≡ after_clocks n rule (clocks n)
  stays k late =
      let sum : k ≡ clocks n + (k - clocks n) = omega arith in ap (after_clocks n rule) sum ∙ stay (k - clocks n)

  -- a process that is enabled before the end
  pub one_goes_on : (k : ℕ) → k < clocks n → (p : ℕ) × (enabled n (after_clocks n rule k) p ≡ true)
  one_goes_on k early =
      one_passes (enabled n (after_clocks n rule k)) (range_with_len 0 n.processes) (ends.events k early)

  none_steps : (k : ℕ) → clocks n ≤ k → (p : ℕ) → steps n controls (after_edges n controls rule k) p ≡ false
  none_steps k late p =
      steps_after n controls rule wired give k p
      ∙ ap (λ (s : State T). enabled n s p) (stays k late)
      ∙ ends.stuck p

  late_where_none_steps : (k : ℕ) → ((p : ℕ) → steps n controls (after_edges n controls rule k) p ≡ false)
      → clocks n ≤ k
  late_where_none_steps k none =
      elim (cases_lt k (clocks n)) [
        | inl early ↦
            let on = one_goes_on k early in
            let off = sym (steps_after n controls rule wired give k on.0) ∙ none on.0 in
            absurd (both_ways (enabled n (after_clocks n rule k) on.0) off on.1)
        | inr late ↦ late
      ]

  all_done : (k : ℕ) → clocks n ≤ k → (p : ℕ) → event_at controls (after_edges n controls rule k) p ≡ None
  all_done k late p =
      let l = (after_clocks n rule (clocks n)).local p in
      let ended : l.position ≡ length (n.script p) = ends.ends.1 p in
      let past : length (n.script p) ≤ l.position = omega arith in
      event_after n controls rule wired give k p
      ∙ ap (λ (s : State T). next n s p) (stays k late)
      ∙ slice_get_past (n.script p) l.position past

  late_where_done : (k : ℕ) → ((p : ℕ) → event_at controls (after_edges n controls rule k) p ≡ None) → clocks n ≤ k
  late_where_done k done =
      elim (cases_lt k (clocks n)) [
        | inl early ↦
            let on = one_goes_on k early in
            let s = after_clocks n rule k in
            let none = sym (event_after n controls rule wired give k on.0) ∙ done on.0 in
            let off : enabled n s on.0 ≡ false = ap (can_come n s) none in
            absurd (both_ways (enabled n s on.0) off on.1)
        | inr late ↦ late
      ]

  pub takes_clocks : TakesClocks n controls rule
  takes_clocks = record {
    stands = λ k. (none_steps k, late_where_none_steps k);
    done = λ k. (all_done k, late_where_done k);
    still = λ k late.
        stands_for n controls rule wired give k
        ∙ ap (λ (s : State T). design_of controls s) (stays k late)
        ∙ sym (stands_for n controls rule wired give (clocks n));
    fits = λ k c.
        subst (λ (length : ℕ). length ≤ n.capacity c)
        (sym (ap (λ (d : Design T). length (d.fifo c)) (stands_for n controls rule wired give k)))
        (always.fits (clocked_run n rule k) (ends.run k) c);
  }

-- what the sinks give out is what they keep
pub outputs_alike : (nest : Nest) (n : Net) (controls : Controls) (rule : Rule ℤ) → IsWired n → GiveScripts n controls
    → (k : ℕ) → results_of nest n controls rule no_stalls k ≡ sink_lists nest (after_clocks n rule k)
outputs_alike nest n controls rule wired give k =
    ap (λ (kept : ℕ → List ℤ).
    sink_lists_from kept (length nest.statements - length (output_numbers nest.arrays)) nest.arrays)
    (fun_ext (fires_alike n controls rule wired give k))
