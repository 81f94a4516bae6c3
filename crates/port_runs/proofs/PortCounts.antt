-- Along a run of the ports each queue holds as many tokens as were put and not got.
--
-- The invariant is `PortCounted`: dependent events have come in order, each queue's length is its Puts less its
-- Gets, and each process has kept one value for each of its fires. A Get takes one of at least one, and a Put
-- appends exactly one value, since a Put comes behind a fire. So which events may come is a matter of those that
-- have come, whatever fires give (`same_may`).
use Rattle.std.proofs.Common.{◌≡◌, ℕ, ◌+◌, ◌<◌, ◌≤◌, Bool, true, not, ◌&&◌, cond, eqb, Option, Some, None}
use Rattle.std.proofs.Common.{List, [], ◌∷◌, length, ap, sym, ◌∙◌, refl, inl, inr}
use Rattle.std.proofs.Common.{arith, length-append, ltb-true, eqb-true, nat_lt}
use Rattle.std.proofs.lemmas.Bool.{cases_Bool, cases_eq}
use Rattle.net_core.specs.declared.network.Event.{Event}
use Rattle.net_core.specs.declared.network.Event.TheVariants.{Get, Fire, Put}
use Rattle.net_core.specs.Machine.{Net, Local, Rule, State, can_come, last_of, local_after, queue_after}
use Rattle.net_core.specs.Shape.{is_fire, is_get, is_put, IsWired}
use Rattle.net_core.proofs.EventCounts.{replaced_same, replaced_other}
use Rattle.net_core.proofs.Positions.{last_short, length_queue_after, local_after_kept, put_fired}
use Rattle.net_core.proofs.TwoSteps.{shrinks}
use Rattle.port_runs.specs.Ports.{IsPortRun, EventPlace, PortState, is_due, may_come, port_after}
use Rattle.port_runs.specs.Ports.{port_start, port_step}
use Rattle.port_runs.specs.PortNames.{come_count, gets_so_far, event_count, puts_so_far}
use Rattle.port_runs.proofs.ComeCounts.{count_zero}
use Rattle.port_runs.proofs.PortSteps.{Coming, IsOrdered, coming, fires_here, gets_more, made_more, made_same, ordered_step}
use Rattle.port_runs.proofs.PortSteps.{puts_more, run_after}

pub record PortCounted {T : Type 0} (n : Net) (s : PortState T) : Type 0 where
  pub ordered : IsOrdered n s.has_come
  pub queues : (c : ℕ) → length (s.run.queue c) + gets_so_far n s c ≡ puts_so_far n s c
  pub kept : (p : ℕ) → length (s.run.local p).kept ≡ event_count n s is_fire p

pub start_counted : {T : Type 0} (n : Net) → PortCounted {T = T} n (port_start n)
start_counted n = record {
  ordered = λ p k j e f ise isf lt dep on. absurd (cc);
  queues = λ c.
      let gets = count_zero (is_get c) (n.script (n.reader c)) (length (n.script (n.reader c))) in
      let puts = count_zero (is_put c) (n.script (n.writer c)) (length (n.script (n.writer c))) in
      omega arith;
  kept = λ p. sym (count_zero is_fire (n.script p) (length (n.script p)));
}

module _ {T : Type 0} (n : Net) (rule : Rule T) (wired : IsWired n) (s : PortState T) (p k : ℕ) (c : Coming n s p k)
    (h : PortCounted n s) where
  abbrev next : PortState T
  next = port_step n rule s (p, k)

  -- a process has fired before it puts
  pub fired_before : (ch : ℕ) → is_put ch c.event ≡ true → 0 < length (s.run.local p).kept
  fired_before ch t =
      omega (arith, h.kept p, fires_here n s p k h.ordered c, put_fired n wired p k ch c.event c.is t)

  counted_queue : (ch : ℕ) → length (next.run.queue ch) + gets_so_far n next ch ≡ puts_so_far n next ch
  counted_queue ch =
      omega (
        arith,
        ap (λ (t : State T). length (t.queue ch)) (run_after n rule s p k c),
        length_queue_after n s.run (s.run.local p).kept c.event ch c.can (fired_before ch),
        gets_more n rule s p k c wired ch,
        puts_more n rule s p k c wired ch,
        h.queues ch,
      )

  -- the part of process q after the event
  pub local_here : (q : ℕ) → q ≡ p → next.run.local q ≡ local_after rule p (s.run.local p) s.run.queue c.event
  local_here q same =
      ap (λ (t : State T). t.local q) (run_after n rule s p k c)
      ∙ replaced_same s.run.local p (local_after rule p (s.run.local p) s.run.queue c.event) q same

  pub local_there : (q : ℕ) → (q ≡ p → ⊥) → next.run.local q ≡ s.run.local q
  local_there q d =
      ap (λ (t : State T). t.local q) (run_after n rule s p k c)
      ∙ replaced_other s.run.local p (local_after rule p (s.run.local p) s.run.queue c.event) q d

  counted_kept : (q : ℕ) → length (next.run.local q).kept ≡ event_count n next is_fire q
  counted_kept q =
      elim (cases_eq q p) [
        | inl same ↦
            let here : length (next.run.local q).kept ≡ length (s.run.local p).kept + cond (is_fire c.event) 1 0 =
            ap (λ (l : Local T). length l.kept) (local_here q same)
            ∙ local_after_kept rule p (s.run.local p) s.run.queue c.event in
            let count : event_count n next is_fire q ≡ event_count n next is_fire p =
            ap (event_count n next is_fire) same in
            omega (arith, here, count, made_more n rule s p k c is_fire, h.kept p)
        | inr d ↦
            ap (λ (l : Local T). length l.kept) (local_there q d) ∙ h.kept q
            ∙ sym (made_same n rule s p k c is_fire q d)
      ]

  pub counted_step : PortCounted n next
  counted_step = record {
    ordered = ordered_step n s p k h.ordered c;
    queues = counted_queue;
    kept = counted_kept;
  }

  -- no queue passes its channel's capacity
  fits_event : (e : Event) → can_come n s.run (Some e) ≡ true → (ch : ℕ) → length (s.run.queue ch) ≤ n.capacity ch
      → length (queue_after (s.run.local p).kept e ch (s.run.queue ch)) ≤ n.capacity ch
  fits_event (Get d slot) m ch le =
      omega (arith, shrinks (s.run.local p).kept (Get d slot) ch (s.run.queue ch) (λ t. cc))
  fits_event (Fire refs) m ch le = le
  fits_event (Put d) m ch le =
      elim (cases_Bool (eqb ch d)) [
        | inl t ↦
            let here : ch ≡ d = eqb-true ch d t in
            let room : length (s.run.queue ch) < n.capacity ch = rw here (ltb-true _ _ m) in
            rw t (omega (
              arith,
              length-append (s.run.queue ch) (last_of (s.run.local p).kept),
              last_short
                  (s.run.local p).kept,
            ))
        | inr f ↦ rw f le
      ]

  pub fits_step : (ch : ℕ) → length (s.run.queue ch) ≤ n.capacity ch → length (next.run.queue ch) ≤ n.capacity ch
  fits_step ch le =
      omega (
        arith,
        ap (λ (t : State T). length (t.queue ch))
            (run_after n rule s p k c),
        fits_event c.event c.can ch le,
      )

-- Runs

pub port_counted : {T : Type 0} (n : Net) (rule : Rule T) → IsWired n → (run : List EventPlace) (s : PortState T)
    → PortCounted n s
    → IsPortRun n rule s run → PortCounted n (port_after n rule s run)
port_counted n rule wired [] s h is = h
port_counted n rule wired (at ∷ run) s h is =
    port_counted n rule wired run (port_step n rule s at)
    (counted_step n rule wired s at.0 at.1 (coming n s at.0 at.1 is.0) h) is.1

pub port_fits : {T : Type 0} (n : Net) (rule : Rule T) → IsWired n → (run : List EventPlace) (s : PortState T)
    → PortCounted n s
    → IsPortRun n rule s run → (c : ℕ) → length (s.run.queue c) ≤ n.capacity c
    → length ((port_after n rule s run).run.queue c) ≤ n.capacity c
port_fits n rule wired [] s h is c le = le
port_fits n rule wired (at ∷ run) s h is c le =
    let here = coming n s at.0 at.1 is.0 in
    port_fits n rule wired run (port_step n rule s at) (counted_step n rule wired s at.0 at.1 here h) is.1 c
    (fits_step n rule wired s at.0 at.1 here h c le)

-- Where the same events have come the same may come

module _ {T U : Type 0} (n : Net) (s : PortState T) (t : PortState U) (h : PortCounted n s) (g : PortCounted n t)
    (same : s.has_come ≡ t.has_come) where
  same_length : (c : ℕ) → length (s.run.queue c) ≡ length (t.run.queue c)
  same_length c =
      let gets : gets_so_far n s c ≡ gets_so_far n t c =
      ap (λ (come : ℕ → ℕ → Bool).
      come_count (is_get c) (come (n.reader c)) (n.script (n.reader c)) (length (n.script (n.reader c)))) same in
      let puts : puts_so_far n s c ≡ puts_so_far n t c =
      ap (λ (come : ℕ → ℕ → Bool).
      come_count (is_put c) (come (n.writer c)) (n.script (n.writer c)) (length (n.script (n.writer c)))) same in
      omega (arith, h.queues c, g.queues c, gets, puts)

  pub same_can : (o : Option Event) → can_come n s.run o ≡ can_come n t.run o
  same_can None = refl
  same_can (Some (Get c slot)) = ap (nat_lt 0) (same_length c)
  same_can (Some (Fire refs)) = refl
  same_can (Some (Put c)) = ap (λ m. nat_lt m (n.capacity c)) (same_length c)

  pub same_may : (at : EventPlace) (o : Option Event) → may_come n s at o ≡ may_come n t at o
  same_may at None = refl
  same_may at (Some e) =
      ap (λ (come : ℕ → ℕ → Bool).
      not (come at.0 at.1) && (is_due (n.script at.0) (come at.0) e at.1 && can_come n s.run (Some e))) same
      ∙ ap (λ b. not (t.has_come at.0 at.1) && (is_due (n.script at.0) (t.has_come at.0) e at.1 && b)) (same_can
      (Some e))
