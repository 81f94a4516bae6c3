-- The machine's positions go as the cuts do: the queues hold what was put and not got.
--
-- The invariant is `IsCounted`: on each channel the queue's length and the Gets before the reader's position are
-- together the Puts before the writer's, and each process has kept one value for each of its fires. It holds at the
-- start, and each enabled step keeps it: a Get takes one of at least one, a Put appends exactly one value, since no
-- Put stands before the first fire. So whether a process may go on is a matter of the positions alone, and runs of the
-- machine are runs on cuts, both ways (`run_cut`, `cut_run`). It says nothing of what the values are: that is PlaceValues.
use Rattle.std.proofs.Common.{◌≡◌, ℕ, suc, ◌+◌, ◌<◌, ◌≤◌, true, false, cond, eqb, Option, Some, None, List, [], ◌∷◌}
use Rattle.std.proofs.Common.{length, take, slice_get, count_by, refl, sym, ap, ◌∙◌, subst, inl, inr, arith, ltb-true}
use Rattle.std.proofs.Common.{lt-ltb, eqb-true, length-append, length-drop}
use Rattle.std.proofs.lemmas.Bool.{cases_eq, cases_lt, le-ltb, cases_Bool}
use Rattle.std.proofs.lemmas.Option.{slice_get_past}
use mathlib.Core.Path.{fun_ext}
use Rattle.net_core.specs.declared.network.Event.{Event}
use Rattle.net_core.specs.declared.network.Event.TheVariants.{Get, Fire, Put}
use Rattle.net_core.specs.Machine.{Net, Local, State, Rule, start, next, can_come, enabled, last_of, local_after}
use Rattle.net_core.specs.Machine.{queue_after, after_event, step, after, IsRun}
use Rattle.net_core.specs.Shape.{is_get, is_put, is_fire, IsWired}
use Rattle.net_core.specs.Cuts.{Cut, gets_at, puts_at, can_come_at, enabled_at, advanced, cut_after, IsCutRun}
use Rattle.net_core.specs.Cuts.{positions, IsCounted}
use Rattle.net_core.proofs.EventCounts.{count_next, replaced_same, replaced_other}
use Rattle.net_core.proofs.CutOrder.{advanced_here, advanced_there}
use Rattle.net_core.proofs.TwoSteps.{get_reader, put_writer}

pub gets_advanced : (n : Net) (wired : IsWired n) (k : Cut) (p : ℕ) (e : Event) (c : ℕ)
    → slice_get (n.script p) (k p) ≡ Some e → gets_at n (advanced k p) c ≡ gets_at n k c + cond (is_get c e) 1 0
gets_advanced n wired k p e c is =
    elim (cases_eq (n.reader c) p) [
      | inl r ↦
          let b : advanced k p (n.reader c) ≡ suc (k (n.reader c)) = advanced_here k p (n.reader c) r in
          let is' : slice_get (n.script (n.reader c)) (k (n.reader c)) ≡ Some e = rw r is in
          rw b (count_next (is_get c) (n.script (n.reader c)) (k (n.reader c)) e is')
      | inr d ↦
          let b : advanced k p (n.reader c) ≡ k (n.reader c) = advanced_there k p (n.reader c) d in
          elim (cases_Bool (is_get c e)) [
            | inl t ↦ absurd (d (get_reader n wired p (k p) c e is t))
            | inr f ↦ rw (b, f) (omega arith)
          ]
    ]

pub puts_advanced : (n : Net) (wired : IsWired n) (k : Cut) (p : ℕ) (e : Event) (c : ℕ)
    → slice_get (n.script p) (k p) ≡ Some e → puts_at n (advanced k p) c ≡ puts_at n k c + cond (is_put c e) 1 0
puts_advanced n wired k p e c is =
    elim (cases_eq (n.writer c) p) [
      | inl r ↦
          let b : advanced k p (n.writer c) ≡ suc (k (n.writer c)) = advanced_here k p (n.writer c) r in
          let is' : slice_get (n.script (n.writer c)) (k (n.writer c)) ≡ Some e = rw r is in
          rw b (count_next (is_put c) (n.script (n.writer c)) (k (n.writer c)) e is')
      | inr d ↦
          let b : advanced k p (n.writer c) ≡ k (n.writer c) = advanced_there k p (n.writer c) d in
          elim (cases_Bool (is_put c e)) [
            | inl t ↦ absurd (d (put_writer n wired p (k p) c e is t))
            | inr f ↦ rw (b, f) (omega arith)
          ]
    ]

pub local_after_position : {T : Type 0} (rule : Rule T) (p : ℕ) (l : Local T) (queue : ℕ → List T) (e : Event)
    → (local_after rule p l queue e).position ≡ suc l.position
local_after_position rule p l queue (Get c slot) = refl
local_after_position rule p l queue (Fire refs) = refl
local_after_position rule p l queue (Put c) = refl

-- one step moves one position by one
pub positions_after : {T : Type 0} (rule : Rule T) (s : State T) (p : ℕ) (e : Event)
    → positions (after_event rule s p (Some e)) ≡ advanced (positions s) p
positions_after rule s p e = fun_ext at_q
  where
    at_q : (q : ℕ) → positions (after_event rule s p (Some e)) q ≡ advanced (positions s) p q
    at_q q =
        elim (cases_eq q p) [
          | inl is ↦
              ap (λ l. l.position) (replaced_same s.local p (local_after rule p (s.local p) s.queue e) q is)
              ∙ local_after_position rule p (s.local p) s.queue e
              ∙ sym (replaced_same (positions s) p (suc (s.local p).position) q is)
          | inr d ↦
              ap (λ l. l.position) (replaced_other s.local p (local_after rule p (s.local p) s.queue e) q d)
              ∙ sym (advanced_there (positions s) p q d)
        ]

-- an event that may come is one that the cut allows, and the other way round
can_come_as_cut : {T : Type 0} (n : Net) (s : State T) → IsCounted n s → (o : Option Event)
    → can_come n s o ≡ can_come_at n (positions s) o
can_come_as_cut n s h None = refl
can_come_as_cut n s h (Some (Get c slot)) =
    elim (cases_lt 0 (length (s.queue c))) [
      | inl lt ↦ lt-ltb _ _ lt ∙ sym (lt-ltb _ _ (omega (arith, h.queues c)))
      | inr le ↦ le-ltb _ _ le ∙ sym (le-ltb _ _ (omega (arith, h.queues c)))
    ]
can_come_as_cut n s h (Some (Fire refs)) = refl
can_come_as_cut n s h (Some (Put c)) =
    elim (cases_lt (length (s.queue c)) (n.capacity c)) [
      | inl lt ↦ lt-ltb _ _ lt ∙ sym (lt-ltb _ _ (omega (arith, h.queues c)))
      | inr le ↦ le-ltb _ _ le ∙ sym (le-ltb _ _ (omega (arith, h.queues c)))
    ]

pub enabled_as_cut : {T : Type 0} (n : Net) (s : State T) → IsCounted n s → (p : ℕ)
    → enabled n s p ≡ enabled_at n (positions s) p
enabled_as_cut n s h p = can_come_as_cut n s h (next n s p)

last_one : {T : Type 0} (xs : List T) → 0 < length xs → length (last_of xs) ≡ 1
last_one [] h = absurd (omega arith)
last_one (x ∷ []) h = refl
last_one (x ∷ (y ∷ ys)) h = last_one (y ∷ ys) (omega arith)

pub last_short : {T : Type 0} (xs : List T) → length (last_of xs) ≤ 1
last_short [] = omega arith
last_short (x ∷ []) = omega arith
last_short (x ∷ (y ∷ ys)) = last_short (y ∷ ys)

-- how an event changes the length of a queue
pub length_queue_after : {T : Type 0} (n : Net) (s : State T) (kept : List T) (e : Event) (c : ℕ)
    → can_come n s (Some e) ≡ true → (is_put c e ≡ true → 0 < length kept)
    → length (queue_after kept e c (s.queue c)) + cond (is_get c e) 1 0 ≡ length (s.queue c) + cond (is_put c e) 1 0
length_queue_after n s kept (Get d slot) c h some =
    elim (cases_Bool (eqb c d)) [
      | inl t ↦
          let here : c ≡ d = eqb-true c d t in
          let had : 0 < length (s.queue c) = rw here (ltb-true _ _ h) in
          rw t (omega (arith, length-drop 1 (s.queue c)))
      | inr f ↦ rw f refl
    ]
length_queue_after n s kept (Fire refs) c h some = refl
length_queue_after n s kept (Put d) c h some =
    elim (cases_Bool (eqb c d)) [
      | inl t ↦ rw t (omega (arith, length-append (s.queue c) (last_of kept), last_one kept (some t)))
      | inr f ↦ rw f refl
    ]

pub local_after_kept : {T : Type 0} (rule : Rule T) (p : ℕ) (l : Local T) (queue : ℕ → List T) (e : Event)
    → length (local_after rule p l queue e).kept ≡ length l.kept + cond (is_fire e) 1 0
local_after_kept rule p l queue (Get c slot) = omega arith
local_after_kept rule p l queue (Fire refs) = length-append l.kept (rule p (length l.kept) refs l.slots ∷ [])
local_after_kept rule p l queue (Put c) = omega arith

pub put_fired : (n : Net) (wired : IsWired n) (p k c : ℕ) (e : Event) → slice_get (n.script p) k ≡ Some e
    → is_put c e ≡ true → 0 < count_by is_fire (take k (n.script p))
put_fired n wired p k c (Get ch slot) is t = cc
put_fired n wired p k c (Fire refs) is t = cc
put_fired n wired p k c (Put ch) is t = wired.put_fired p k ch is

counted_queue : {T : Type 0} (n : Net) (rule : Rule T) (wired : IsWired n) (s : State T) (p : ℕ) (e : Event)
    → IsCounted n s → next n s p ≡ Some e → can_come n s (Some e) ≡ true → (c : ℕ)
    → length ((after_event rule s p (Some e)).queue c) + gets_at n (positions (after_event rule s p (Some e))) c
    ≡ puts_at n (positions (after_event rule s p (Some e))) c
counted_queue n rule wired s p e h is may_e c =
    let g = ap (λ k. gets_at n k c) (positions_after rule s p e) ∙ gets_advanced n wired (positions s) p e c is in
    let u = ap (λ k. puts_at n k c) (positions_after rule s p e) ∙ puts_advanced n wired (positions s) p e c is in
    let len = length_queue_after n s (s.local p).kept e c may_e (λ t. rw (h.kept p) (put_fired n wired p _ c e is t)) in
    let before = h.queues c in
    omega arith

counted_kept : {T : Type 0} (n : Net) (rule : Rule T) (s : State T) (p : ℕ) (e : Event) → IsCounted n s
    → next n s p ≡ Some e → (q : ℕ)
    → length ((after_event rule s p (Some e)).local q).kept
    ≡ count_by is_fire (take ((after_event rule s p (Some e)).local q).position (n.script q))
counted_kept n rule s p e h is q =
    let x = local_after rule p (s.local p) s.queue e in
    elim (cases_eq q p) [
      | inl same ↦
          let l : (after_event rule s p (Some e)).local q ≡ x = replaced_same s.local p x q same in
          let long : length x.kept ≡ count_by is_fire (take x.position (n.script p)) =
          rw (local_after_position rule p (s.local p) s.queue e)
          (
          local_after_kept rule p (s.local p) s.queue e ∙ ap (λ a. a + cond (is_fire e) 1 0) (h.kept p)
          ∙ sym (count_next is_fire (n.script p) (s.local p).position e is)
          ) in
          rw (l, same) long
      | inr d ↦ let l : (after_event rule s p (Some e)).local q ≡ s.local q =
          replaced_other s.local p x q d in rw l (h.kept q)
    ]

pub counted_step : {T : Type 0} (n : Net) (rule : Rule T) (wired : IsWired n) (s : State T) (p : ℕ) → IsCounted n s
    → (o : Option Event) → next n s p ≡ o → can_come n s o ≡ true → IsCounted n (after_event rule s p o)
counted_step n rule wired s p h None is m = h
counted_step n rule wired s p h (Some e) is m =
    record { queues = counted_queue n rule wired s p e h is m; kept = counted_kept n rule s p e h is }

pub counted_after_step : {T : Type 0} (n : Net) (rule : Rule T) (wired : IsWired n) (s : State T) (p : ℕ)
    → IsCounted n s → enabled n s p ≡ true → IsCounted n (step n rule s p)
counted_after_step n rule wired s p h m = counted_step n rule wired s p h (next n s p) refl m

positions_of : {T : Type 0} (n : Net) (rule : Rule T) (s : State T) (p : ℕ) (o : Option Event) → can_come n s o ≡ true
    → positions (after_event rule s p o) ≡ advanced (positions s) p
positions_of n rule s p None m = cc
positions_of n rule s p (Some e) m = positions_after rule s p e

pub positions_step : {T : Type 0} (n : Net) (rule : Rule T) (s : State T) (p : ℕ) → enabled n s p ≡ true
    → positions (step n rule s p) ≡ advanced (positions s) p
positions_step n rule s p m = positions_of n rule s p (next n s p) m

pub run_cut : {T : Type 0} (n : Net) (rule : Rule T) (wired : IsWired n) (ps : List ℕ) (s : State T) → IsCounted n s
    → IsRun n rule s ps → IsCutRun n (positions s) ps
run_cut n rule wired [] s h run = tt
run_cut n rule wired (p ∷ ps) s h run =
    let rest = run_cut n rule wired ps (step n rule s p) (counted_after_step n rule wired s p h run.0) run.1 in (
      sym (enabled_as_cut n s h p) ∙ run.0,
      subst (λ k. IsCutRun n k ps) (positions_step n rule s p run.0) rest,
    )

pub cut_run : {T : Type 0} (n : Net) (rule : Rule T) (wired : IsWired n) (ps : List ℕ) (s : State T) → IsCounted n s
    → IsCutRun n (positions s) ps → IsRun n rule s ps
cut_run n rule wired [] s h run = tt
cut_run n rule wired (p ∷ ps) s h run =
    let on : enabled n s p ≡ true = enabled_as_cut n s h p ∙ run.0 in
    let rest : IsCutRun n (positions (step n rule s p)) ps =
    subst (λ k. IsCutRun n k ps) (sym (positions_step n rule s p on)) run.1 in
    (on, cut_run n rule wired ps (step n rule s p) (counted_after_step n rule wired s p h on) rest)

pub run_counted : {T : Type 0} (n : Net) (rule : Rule T) (wired : IsWired n) (ps : List ℕ) (s : State T) → IsCounted n s
    → IsRun n rule s ps → IsCounted n (after n rule s ps)
run_counted n rule wired [] s h run = h
run_counted n rule wired (p ∷ ps) s h run =
    run_counted n rule wired ps (step n rule s p) (counted_after_step n rule wired s p h run.0) run.1

pub run_ends : {T : Type 0} (n : Net) (rule : Rule T) (ps : List ℕ) (s : State T) → IsRun n rule s ps
    → positions (after n rule s ps) ≡ cut_after (positions s) ps
run_ends n rule [] s run = refl
run_ends n rule (p ∷ ps) s run =
    run_ends n rule ps (step n rule s p) run.1 ∙ ap (λ k. cut_after k ps) (positions_step n rule s p run.0)

pub start_counted : {T : Type 0} (n : Net) → IsCounted {T = T} n (start n)
start_counted n = record { queues = λ c. refl; kept = λ p. refl }

-- no position passes its script's end
pub enabled_inside : (n : Net) (k : Cut) (p : ℕ) → enabled_at n k p ≡ true → k p < length (n.script p)
enabled_inside n k p g =
    elim (cases_lt (k p) (length (n.script p))) [
      | inl lt ↦ lt
      | inr le ↦
          let past : slice_get (n.script p) (k p) ≡ None = slice_get_past (n.script p) (k p) le in
          let shut : enabled_at n k p ≡ false = rw past refl in
          cc
    ]

pub cut_inside : (n : Net) (ps : List ℕ) (k : Cut) → IsCutRun n k ps → ((q : ℕ) → k q ≤ length (n.script q)) → (q : ℕ)
    → cut_after k ps q ≤ length (n.script q)
cut_inside n [] k run le q = le q
cut_inside n (p ∷ ps) k run le q = cut_inside n ps (advanced k p) run.1 below q
  where
    below : (r : ℕ) → advanced k p r ≤ length (n.script r)
    below r =
        elim (cases_eq r p) [
          | inl e ↦
              let lt : k r < length (n.script r) = rw e (enabled_inside n k p run.0) in
              omega (arith, advanced_here k p r e)
          | inr d ↦ omega (arith, advanced_there k p r d, le r)
        ]
