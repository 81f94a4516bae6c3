-- Every order of events: where one run ends all, each run does.
--
-- Let one full run be given, and any other run, which leads to the cut c. What the full run does past c is a run from
-- c on (CutOrder), and it ends where both end, which is at every script's end. So the other run is never stuck and can
-- go on until all have ended, and each run that ends all has as many events. That no queue passes its capacity holds
-- step by step. A legal cut is reached by the part of the full run before it. Two runs that can't go on can't pass
-- each other, so they stand alike. No run is rearranged step by step, and nothing is claimed of fairness or of time.
use Rattle.std.proofs.Common.{◌≡◌, ◌⊎◌, ℕ, zero, suc, ◌+◌, ◌<◌, ◌≤◌, min, max, true, false, eqb, Option, Some, None}
use Rattle.std.proofs.Common.{List, [], ◌∷◌, length, refl, sym, ap, ◌∙◌, subst, inl, inr, arith, ltb-true, eqb-true}
use Rattle.std.proofs.Common.{length-append}
use Rattle.std.proofs.lemmas.Bool.{cases_eq, cases_lt, cases_Bool}
use Rattle.net_core.specs.declared.network.Event.{Event}
use Rattle.net_core.specs.declared.network.Event.TheVariants.{Get, Fire, Put}
use Rattle.net_core.specs.Machine.{Net, State, Rule, start, next, can_come, enabled, last_of, queue_after, after_event}
use Rattle.net_core.specs.Machine.{step, after, IsRun, HasEnded, IsStuck}
use Rattle.net_core.specs.Shape.{IsWired, events_below}
use Rattle.net_core.specs.Cuts.{Cut, opening, enabled_at, advanced, cut_after, IsCutRun, IsLegal, positions}
use Rattle.net_core.specs.Orders.{EndsAll, EndsAlways, StopsAlike}
use Rattle.net_core.proofs.CutOrder.{advanced_here, advanced_there, beyond, within, beyond_runs, beyond_ends}
use Rattle.net_core.proofs.CutOrder.{within_runs, within_ends, no_further}
use Rattle.net_core.proofs.TwoSteps.{shrinks}
use Rattle.net_core.proofs.Positions.{run_cut, cut_run, run_counted, run_ends, start_counted, enabled_inside}
use Rattle.net_core.proofs.Positions.{cut_inside, enabled_as_cut, last_short}

-- the sum of a cut's first positions
sum_below : Cut → ℕ → ℕ
sum_below k zero = 0
sum_below k (suc p) = sum_below k p + k p

sum_past : (k : Cut) (p m : ℕ) → m ≤ p → sum_below (advanced k p) m ≡ sum_below k m
unfolding sum_below
sum_past k p zero le = refl
sum_past k p (suc m) le =
    let other : m ≡ p → ⊥ = λ e. omega arith in
    omega (arith, sum_past k p m (omega arith), advanced_there k p m other)

sum_advanced : (k : Cut) (p m : ℕ) → p < m → sum_below (advanced k p) m ≡ suc (sum_below k m)
unfolding sum_below
sum_advanced k p zero lt = absurd (omega arith)
sum_advanced k p (suc m) lt =
    elim (cases_eq m p) [
      | inl e ↦ omega (arith, sum_past k p m (omega arith), advanced_here k p m e)
      | inr d ↦
          let low : p < m = cases_below p m lt d in
          omega (arith, sum_advanced k p m low, advanced_there k p m d)
    ]
  where
    cases_below : (p m : ℕ) → p < suc m → (m ≡ p → ⊥) → p < m
    cases_below p m lt d = elim (cases_lt p m) [ inl l ↦ l | inr g ↦ absurd (d (omega arith)) ]

-- a run is as long as its positions moved
run_length : (n : Net) → IsWired n → (ps : List ℕ) (k : Cut) → IsCutRun n k ps
    → sum_below (cut_after k ps) n.processes ≡ sum_below k n.processes + length ps
run_length n wired [] k run = omega arith
run_length n wired (p ∷ ps) k run =
    elim (cases_lt p n.processes) [
      | inl lt ↦ omega (arith, run_length n wired ps (advanced k p) run.1, sum_advanced k p n.processes lt)
      | inr le ↦
          let none : length (n.script p) ≡ 0 = ap length (wired.bounded p le) in
          absurd (omega (arith, enabled_inside n k p run.0))
    ]

sum_ends : (n : Net) (k : Cut) → ((p : ℕ) → k p ≡ length (n.script p)) → (m : ℕ) → sum_below k m ≡ events_below n m
unfolding sum_below
sum_ends n k h zero = refl
sum_ends n k h (suc m) = omega (arith, sum_ends n k h m, h m)

sum_within : (n : Net) (k : Cut) → ((p : ℕ) → k p ≤ length (n.script p)) → (m : ℕ) → sum_below k m ≤ events_below n m
unfolding sum_below
sum_within n k h zero = omega arith
sum_within n k h (suc m) = omega (arith, sum_within n k h m, h m)

sum_zero : (m : ℕ) → sum_below opening m ≡ 0
unfolding sum_below
sum_zero zero = refl
sum_zero (suc m) = omega (arith, sum_zero m)

fits_event : {T : Type 0} (n : Net) (s : State T) (kept : List T) (e : Event) → can_come n s (Some e) ≡ true → (c : ℕ)
    → length (s.queue c) ≤ n.capacity c → length (queue_after kept e c (s.queue c)) ≤ n.capacity c
fits_event n s kept (Get d slot) m c le =
    omega (arith, shrinks kept (Get d slot) c (s.queue c) (λ t. cc))
fits_event n s kept (Fire refs) m c le = le
fits_event n s kept (Put d) m c le =
    elim (cases_Bool (eqb c d)) [
      | inl t ↦
          let here : c ≡ d = eqb-true c d t in
          let room : length (s.queue c) < n.capacity c = rw here (ltb-true _ _ m) in
          rw t (omega (arith, length-append (s.queue c) (last_of kept), last_short kept))
      | inr f ↦ rw f le
    ]

fits_make : {T : Type 0} (n : Net) (rule : Rule T) (s : State T) (p : ℕ) (o : Option Event) → can_come n s o ≡ true
    → (c : ℕ) → length (s.queue c) ≤ n.capacity c → length ((after_event rule s p o).queue c) ≤ n.capacity c
fits_make n rule s p None m c le = le
fits_make n rule s p (Some e) m c le = fits_event n s (s.local p).kept e m c le

fits_run : {T : Type 0} (n : Net) (rule : Rule T) (ps : List ℕ) (s : State T) → IsRun n rule s ps → (c : ℕ)
    → length (s.queue c) ≤ n.capacity c → length ((after n rule s ps).queue c) ≤ n.capacity c
fits_run n rule [] s run c le = le
fits_run n rule (p ∷ ps) s run c le =
    fits_run n rule ps (step n rule s p) run.1 c (fits_make n rule s p (next n s p) run.0 c le)

-- from where a run leads, what the full run does past it is a run that ends all
ends : {T : Type 0} (n : Net) (rule : Rule T) (wired : IsWired n) (all : List ℕ) → IsRun n rule (start n) all
    → HasEnded n (after n rule (start n) all) → (ps : List ℕ) → IsRun n rule (start n) ps
    → (qs : List ℕ) × IsRun n rule (after n rule (start n) ps) qs
    × HasEnded n (after n rule (after n rule (start n) ps) qs)
ends n rule wired all run ended ps pre =
    let s = after n rule (start n) ps in
    let c : Cut = positions s in
    let qs = beyond opening c all in
    let top : (q : ℕ) → c q ≡ max 0 (c q) = λ q. omega arith in
    let counted = run_counted n rule wired ps (start n) (start_counted n) pre in
    let cut = beyond_runs n wired all opening c c top (run_cut n rule wired all (start n) (start_counted n) run) in
    let goes_on : IsRun n rule s qs = cut_run n rule wired qs s counted cut in
    let inside : (q : ℕ) → c q ≤ length (n.script q) =
    λ q. subst (λ k. k q ≤ length (n.script q)) (sym (run_ends n rule ps (start n) pre))
    (cut_inside n ps opening (run_cut n rule wired ps (start n) (start_counted n) pre) (λ r. omega arith) q) in
    let full : (q : ℕ) → cut_after opening all q ≡ length (n.script q) =
    λ q. sym (ap (λ k. k q) (run_ends n rule all (start n) run)) ∙ ended q in (
      qs,
      goes_on,
      λ q.
          let there = ap (λ k. k q) (run_ends n rule qs s goes_on) ∙ beyond_ends all opening c c top q in
          omega (arith, inside q, full q),
    )

cuts : {T : Type 0} (n : Net) (rule : Rule T) (wired : IsWired n) (all : List ℕ) → IsRun n rule (start n) all
    → HasEnded n (after n rule (start n) all) → (k : Cut) → IsLegal n k
    → (ps : List ℕ) × IsRun n rule (start n) ps × ((p : ℕ) → positions (after n rule (start n) ps) p ≡ k p)
cuts n rule wired all run ended k legal =
    let ps = within opening k all in
    let bottom : (q : ℕ) → opening q ≡ min 0 (k q) = λ q. omega arith in
    let cut =
    within_runs n wired all opening k opening legal bottom (run_cut n rule wired all (start n) (start_counted n) run) in
    let goes_there : IsRun n rule (start n) ps = cut_run n rule wired ps (start n) (start_counted n) cut in
    let full : (q : ℕ) → cut_after opening all q ≡ length (n.script q) =
    λ q. sym (ap (λ c. c q) (run_ends n rule all (start n) run)) ∙ ended q in (
      ps,
      goes_there,
      λ q.
          let there =
          ap (λ c. c q) (run_ends n rule ps (start n) goes_there) ∙ within_ends all opening k opening bottom q in
          omega (arith, legal.inside q, full q),
    )

goes_on_or_ended : {T : Type 0} (n : Net) (rule : Rule T) (s : State T) (qs : List ℕ) → IsRun n rule s qs
    → HasEnded n (after n rule s qs) → HasEnded n s ⊎ ((p : ℕ) × (enabled n s p ≡ true))
goes_on_or_ended n rule s [] run ended = inl ended
goes_on_or_ended n rule s (p ∷ qs) run ended = inr (p, run.0)

run_events : {T : Type 0} (n : Net) (rule : Rule T) (wired : IsWired n) (ps : List ℕ) → IsRun n rule (start n) ps
    → HasEnded n (after n rule (start n) ps) → length ps ≡ events_below n n.processes
run_events n rule wired ps run ended =
    let full : (q : ℕ) → cut_after opening ps q ≡ length (n.script q) =
    λ q. sym (ap (λ c. c q) (run_ends n rule ps (start n) run)) ∙ ended q in
    omega (
      arith,
      run_length n wired ps opening (run_cut n rule wired ps (start n) (start_counted n) run),
      sum_ends n (cut_after opening ps) full n.processes,
      sum_zero n.processes,
    )

-- no run has more events than the scripts
pub run_short : {T : Type 0} (n : Net) (rule : Rule T) → IsWired n → (ps : List ℕ) → IsRun n rule (start n) ps
    → length ps ≤ events_below n n.processes
run_short n rule wired ps run =
    let cut = run_cut n rule wired ps (start n) (start_counted n) run in
    let inside : (q : ℕ) → cut_after opening ps q ≤ length (n.script q) =
    λ q. cut_inside n ps opening cut (λ r. omega arith) q in
    omega (
      arith,
      run_length n wired ps opening cut,
      sum_within n (cut_after opening ps) inside n.processes,
      sum_zero n.processes,
    )

-- the law on orders: one run that ends all tells of every run
pub ends_always : {T : Type 0} (n : Net) (rule : Rule T) → IsWired n → (all : List ℕ) → IsRun n rule (start n) all
    → HasEnded n (after n rule (start n) all) → EndsAlways n rule
ends_always n rule wired all run ended =
    record {
      goes_on = λ ps pre.
          let e = ends n rule wired all run ended ps pre in
          goes_on_or_ended n rule (after n rule (start n) ps) e.0 e.1 e.2;
      ends = λ ps pre. ends n rule wired all run ended ps pre;
      fits = λ ps pre c. fits_run n rule ps (start n) pre c (omega arith);
      events = λ ps whole. run_events n rule wired ps whole.0 whole.1;
      cuts = λ k legal. cuts n rule wired all run ended k legal;
    }

-- a run is one whatever its fires give, and it leads to the same positions
pub same_run : {T U : Type 0} (n : Net) (rule : Rule T) (other : Rule U) → IsWired n → (run : List ℕ)
    → IsRun n rule (start n) run → IsRun n other (start n) run
same_run n rule other wired run is =
    cut_run n other wired run (start n) (start_counted n) (run_cut n rule wired run (start n) (start_counted n) is)

pub same_positions : {T U : Type 0} (n : Net) (rule : Rule T) (other : Rule U) → IsWired n → (run : List ℕ)
    → IsRun n rule (start n) run → (p : ℕ)
    → positions (after n other (start n) run) p ≡ positions (after n rule (start n) run) p
same_positions n rule other wired run is p =
    ap (λ k. k p) (run_ends n other run (start n) (same_run n rule other wired run is))
    ∙ sym (ap (λ k. k p) (run_ends n rule run (start n) is))

pub same_ends : {T U : Type 0} (n : Net) (rule : Rule T) (other : Rule U) → IsWired n → (run : List ℕ)
    → EndsAll n rule run → EndsAll n other run
same_ends n rule other wired run whole =
    (same_run n rule other wired run whole.0, λ p. same_positions n rule other wired run whole.0 p ∙ whole.1 p)

stuck_below : {T : Type 0} (n : Net) (rule : Rule T) (wired : IsWired n) (ps qs : List ℕ) → IsRun n rule (start n) ps
    → IsRun n rule (start n) qs → IsStuck n (after n rule (start n) qs) → (p : ℕ)
    → positions (after n rule (start n) ps) p ≤ positions (after n rule (start n) qs) p
stuck_below n rule wired ps qs run run' stuck p =
    let t = after n rule (start n) qs in
    let counted = run_counted n rule wired qs (start n) (start_counted n) run' in
    let shut : (q : ℕ) → enabled_at n (positions t) q ≡ false = λ q. sym (enabled_as_cut n t counted q) ∙ stuck q in
    let low =
    no_further n wired ps opening (positions t) (λ q. omega arith) shut
    (run_cut n rule wired ps (start n) (start_counted n) run) p in
    subst (λ k. k p ≤ positions t p) (sym (run_ends n rule ps (start n) run)) low

-- two runs that can't go on stand at the same positions
pub stops_alike : {T : Type 0} (n : Net) (rule : Rule T) → IsWired n → StopsAlike n rule
stops_alike n rule wired ps qs run run' stuck stuck' p =
    let low = stuck_below n rule wired ps qs run run' stuck' p in
    let high = stuck_below n rule wired qs ps run' run stuck p in
    omega arith
