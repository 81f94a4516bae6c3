-- What the enabled processes do in a clock one after the other is what they do all at once.
--
-- The state in which the enabled processes below a number have made their events is given outright, each of these
-- events by the state at the clock's beginning (`moved` at `made_below`). A process that hasn't yet made its event
-- finds its own part as it was, and a token that it gets is still the front of its channel: only the channel's
-- writer can have changed it, behind. So its step leads to the state given for the next number (`step_on`), and a
-- process that isn't enabled changes nothing. By induction over the numbers that are left (`in_clock`); it holds
-- from every state, reached or not.
use Rattle.std.proofs.Common.{◌≡◌, ℕ, zero, suc, ◌+◌, ◌<◌, ◌≤◌, Bool, true, false, cond, eqb, nat_lt, Option, Some, None}
use Rattle.std.proofs.Common.{List, [], ◌∷◌, ◌++◌, length, drop, slice_get, if◌then◌else◌, refl, sym, ap, ap₂, ◌∙◌, inl, inr}
use Rattle.std.proofs.Common.{arith, append-nil, eqb-true, ltb-true, lt-ltb}
use Rattle.std.specs.List.{filter, range_with_len}
use Rattle.std.specs.Option.{option_map_or}
use Rattle.std.proofs.lemmas.Bool.{cases_Bool, cases_eq, cases_lt, le-ltb}
use mathlib.Core.Path.{fun_ext}
use Rattle.net_core.specs.declared.network.Event.{Event}
use Rattle.net_core.specs.declared.network.Event.TheVariants.{Get, Fire, Put}
use Rattle.net_core.specs.Machine.{Net, Local, State, Rule, next, can_come, enabled, front, last_of, after_get}
use Rattle.net_core.specs.Machine.{local_after, queue_after, after_event, step, after}
use Rattle.net_core.specs.Shape.{is_get, is_put, IsWired}
use Rattle.net_core.proofs.EventCounts.{replaced_same, replaced_other}
use Rattle.net_core.proofs.TwoSteps.{drop_append, front_append}

none_either : (o : Option Event) (b : Bool) → o ≡ None → (if b then o else None) ≡ None
none_either o true none = none
none_either o false none = refl

-- The state after events that are all made at once

abbrev pub local_moved : {T : Type 0} → Rule T → State T → ℕ → Option Event → Local T
local_moved rule s p None = s.local p
local_moved rule s p (Some e) = local_after rule p (s.local p) s.queue e

-- whether there is an event, and one that passes a test
abbrev pub does : (Event → Bool) → Option Event → Bool
does test o = option_map_or test o false

abbrev pub queue_moved : {T : Type 0} → List T → List T → Bool → Bool → List T
queue_moved queue kept got put = (if got then drop 1 queue else queue) ++ (if put then last_of kept else [])

abbrev pub queue_by : {T : Type 0} → Net → State T → (ℕ → Option Event) → ℕ → List T
queue_by n s events c =
    queue_moved (s.queue c) (s.local (n.writer c)).kept (does (is_get c) (events (n.reader c)))
    (does (is_put c) (events (n.writer c)))

abbrev pub moved : {T : Type 0} → Net → Rule T → State T → (ℕ → Option Event) → State T
moved n rule s events = record {
  local = λ p. local_moved rule s p (events p);
  queue = λ c. queue_by n s events c;
}

-- the event that a process makes where this test says who steps, and the same for the processes below a number
abbrev pub made : {T : Type 0} → Net → State T → (ℕ → Bool) → ℕ → Option Event
made n s on p = if on p then next n s p else None

abbrev made_below : {T : Type 0} → Net → State T → (ℕ → Bool) → ℕ → ℕ → Option Event
made_below n s on a p = if nat_lt p a then made n s on p else None

module _ {T : Type 0} (n : Net) (s : State T) (on : ℕ → Bool) where
  none_yet : (a p : ℕ) → p ≡ a → made_below n s on a p ≡ None
  none_yet a p here =
      let low : a ≤ p = omega arith in ap (λ (b : Bool). if b then made n s on p else None) (le-ltb p a low)

  made_now : (a p : ℕ) → p ≡ a → made_below n s on (a + 1) p ≡ made n s on a
  made_now a p here =
      let low : p < a + 1 = omega arith in
      ap (λ (b : Bool). if b then made n s on p else None) (lt-ltb p (a + 1) low) ∙ ap (made n s on) here

  same_below : (a p : ℕ) → (p ≡ a → ⊥) → made_below n s on (a + 1) p ≡ made_below n s on a p
  same_below a p other =
      elim (cases_lt p a) [
        | inl lt ↦
            let more : p < a + 1 = omega arith in
            ap (λ (b : Bool). if b then made n s on p else None) (lt-ltb p (a + 1) more ∙ sym (lt-ltb p a lt))
        | inr le ↦
            let past : a + 1 ≤ p = omega arith in
            ap (λ (b : Bool). if b then made n s on p else None) (le-ltb p (a + 1) past ∙ sym (le-ltb p a le))
      ]

  does_yet : (test : Event → Bool) (a p : ℕ) → p ≡ a → does test (made_below n s on a p) ≡ false
  does_yet test a p here = ap (does test) (none_yet a p here)

  does_now : (test : Event → Bool) (a p : ℕ) (e : Event) → made n s on a ≡ Some e → p ≡ a
      → does test (made_below n s on (a + 1) p) ≡ test e
  does_now test a p e is here = ap (does test) (made_now a p here ∙ is)

  does_same : (test : Event → Bool) (a p : ℕ) (e : Event) → made n s on a ≡ Some e → test e ≡ false
      → does test (made_below n s on a p) ≡ does test (made_below n s on (a + 1) p)
  does_same test a p e is off =
      elim (cases_eq p a) [
        | inl here ↦ does_yet test a p here ∙ sym (does_now test a p e is here ∙ off)
        | inr other ↦ ap (does test) (sym (same_below a p other))
      ]

  -- a channel that the event neither gets from nor puts to
  both_same : (a c : ℕ) (e : Event) → made n s on a ≡ Some e → is_get c e ≡ false → is_put c e ≡ false
      → queue_by n s (made_below n s on a) c ≡ queue_by n s (made_below n s on (a + 1)) c
  both_same a c e is no_get no_put =
      ap₂ (queue_moved (s.queue c) (s.local (n.writer c)).kept) (does_same (is_get c) a (n.reader c) e is no_get)
      (does_same (is_put c) a (n.writer c) e is no_put)

  -- the channel that a Get gets from
  get_here : (a c : ℕ) (e : Event) → made n s on a ≡ Some e → is_get c e ≡ true → is_put c e ≡ false → n.reader c ≡ a
      → 0 < length (s.queue c)
      → drop 1 (queue_by n s (made_below n s on a) c) ≡ queue_by n s (made_below n s on (a + 1)) c
  get_here a c e is got no_put reads some =
      let q = s.queue c in
      let kept = (s.local (n.writer c)).kept in
      let put = does (is_put c) (made_below n s on a (n.writer c)) in
      ap (λ (b : Bool). drop 1 (queue_moved q kept b put)) (does_yet (is_get c) a (n.reader c) reads)
      ∙ drop_append q (if put then last_of kept else []) some
      ∙ ap₂ (queue_moved q kept) (sym (does_now (is_get c) a (n.reader c) e is reads ∙ got))
      (does_same (is_put c) a (n.writer c) e is no_put)

  -- the channel that a Put puts to
  put_here : (a c : ℕ) (e : Event) → made n s on a ≡ Some e → is_get c e ≡ false → is_put c e ≡ true → n.writer c ≡ a
      → queue_by n s (made_below n s on a) c ++ last_of (s.local a).kept
      ≡ queue_by n s (made_below n s on (a + 1)) c
  put_here a c e is no_get put writes =
      let q = s.queue c in
      let kept = (s.local (n.writer c)).kept in
      let got = does (is_get c) (made_below n s on a (n.reader c)) in
      let left = if got then drop 1 q else q in
      ap (λ (b : Bool). queue_moved q kept got b ++ last_of (s.local a).kept)
      (does_yet (is_put c) a (n.writer c) writes)
      ∙ ap (λ (l : List T). l ++ last_of (s.local a).kept) (append-nil left)
      ∙ ap (λ (p : ℕ). left ++ last_of (s.local p).kept) (sym writes)
      ∙ ap₂ (queue_moved q kept) (does_same (is_get c) a (n.reader c) e is no_get)
      (sym (does_now (is_put c) a (n.writer c) e is writes ∙ put))

module _ {T : Type 0} (n : Net) (wired : IsWired n) (s : State T) (on : ℕ → Bool) (a : ℕ) where
  queue_step : (e : Event) → next n s a ≡ Some e → can_come n s (Some e) ≡ true → made n s on a ≡ Some e → (c : ℕ)
      → queue_after (s.local a).kept e c (queue_by n s (made_below n s on a) c)
      ≡ queue_by n s (made_below n s on (a + 1)) c
  queue_step (Fire refs) is may makes c = both_same n s on a c (Fire refs) makes refl refl
  queue_step (Get d slot) is may makes c =
      let q = queue_by n s (made_below n s on a) c in
      elim (cases_Bool (eqb c d)) [
        | inl here ↦
            let same : c ≡ d = eqb-true c d here in
            let reads : n.reader c ≡ a = ap n.reader same ∙ wired.get_reader a (s.local a).position d slot is in
            let some : 0 < length (s.queue c) = rw same (ltb-true _ _ may) in
            ap (λ (b : Bool). if b then drop 1 q else q) here
            ∙ get_here n s on a c (Get d slot) makes here refl reads some
        | inr other ↦
            ap (λ (b : Bool). if b then drop 1 q else q) other
            ∙ both_same n s on a c (Get d slot) makes other refl
      ]
  queue_step (Put d) is may makes c =
      let q = queue_by n s (made_below n s on a) c in
      let last = last_of (s.local a).kept in
      elim (cases_Bool (eqb c d)) [
        | inl here ↦
            let same : c ≡ d = eqb-true c d here in
            let writes : n.writer c ≡ a = ap n.writer same ∙ wired.put_writer a (s.local a).position d is in
            ap (λ (b : Bool). if b then q ++ last else q) here
            ∙ put_here n s on a c (Put d) makes refl here writes
        | inr other ↦
            ap (λ (b : Bool). if b then q ++ last else q) other
            ∙ both_same n s on a c (Put d) makes refl other
      ]

  -- the token that a Get takes is the front that was there at the clock's beginning
  front_same : (c : ℕ) → n.reader c ≡ a → 0 < length (s.queue c)
      → front (queue_by n s (made_below n s on a) c) ≡ front (s.queue c)
  front_same c reads some =
      let kept = (s.local (n.writer c)).kept in
      let put = does (is_put c) (made_below n s on a (n.writer c)) in
      ap (λ (b : Bool). front (queue_moved (s.queue c) kept b put)) (does_yet n s on (is_get c) a (n.reader c) reads)
      ∙ front_append (s.queue c) (if put then last_of kept else []) some

  local_same : (rule : Rule T) (e : Event) → next n s a ≡ Some e → can_come n s (Some e) ≡ true
      → local_after rule a (s.local a) (λ c. queue_by n s (made_below n s on a) c) e
      ≡ local_after rule a (s.local a) s.queue e
  local_same rule (Get c slot) is may =
      ap (after_get (s.local a) slot)
      (front_same c (wired.get_reader a (s.local a).position c slot is) (ltb-true _ _ may))
  local_same rule (Fire refs) is may = refl
  local_same rule (Put c) is may = refl

module _ {T : Type 0} (n : Net) (rule : Rule T) (wired : IsWired n) (s : State T) (on : ℕ → Bool) (a : ℕ) where
  -- the process's own part is as it was
  unmoved : local_moved rule s a (made_below n s on a a) ≡ s.local a
  unmoved = ap (local_moved rule s a) (none_yet n s on a a refl)

  local_step : (e : Event) → next n s a ≡ Some e → can_come n s (Some e) ≡ true → made n s on a ≡ Some e → (p : ℕ)
      → (after_event rule (moved n rule s (made_below n s on a)) a (Some e)).local p
      ≡ local_moved rule s p (made_below n s on (a + 1) p)
  local_step e is may makes p =
      let queue = (moved n rule s (made_below n s on a)).queue in
      let others = (moved n rule s (made_below n s on a)).local in
      let x = local_after rule a (local_moved rule s a (made_below n s on a a)) queue e in
      elim (cases_eq p a) [
        | inl here ↦
            replaced_same others a x p here
            ∙ ap (λ (l : Local T). local_after rule a l queue e) unmoved
            ∙ local_same n wired s on a rule e is may
            ∙ ap (λ (q : ℕ). local_moved rule s q (Some e)) (sym here)
            ∙ ap (local_moved rule s p) (sym (made_now n s on a p here ∙ makes))
        | inr other ↦
            replaced_other others a x p other ∙ ap (local_moved rule s p) (sym (same_below n s on a p other))
      ]

  queues_step : (e : Event) → next n s a ≡ Some e → can_come n s (Some e) ≡ true → made n s on a ≡ Some e → (c : ℕ)
      → (after_event rule (moved n rule s (made_below n s on a)) a (Some e)).queue c
      ≡ queue_by n s (made_below n s on (a + 1)) c
  queues_step e is may makes c =
      ap (λ (l : Local T). queue_after l.kept e c (queue_by n s (made_below n s on a) c)) unmoved
      ∙ queue_step n wired s on a e is may makes c

  step_by : (o : Option Event) → next n s a ≡ o → can_come n s o ≡ true → made n s on a ≡ o
      → after_event rule (moved n rule s (made_below n s on a)) a o ≡ moved n rule s (made_below n s on (a + 1))
  step_by None is may makes = cc
  step_by (Some e) is may makes =
      let locals = fun_ext (local_step e is may makes) in
      let queues = fun_ext (queues_step e is may makes) in
      λ i. record { local = locals i; queue = queues i }

  step_on : enabled n s a ≡ true → on a ≡ true
      → step n rule (moved n rule s (made_below n s on a)) a ≡ moved n rule s (made_below n s on (a + 1))
  step_on may steps =
      ap (λ (l : Local T).
      after_event rule (moved n rule s (made_below n s on a)) a (slice_get (n.script a) l.position)) unmoved
      ∙ step_by (next n s a) refl may (ap (λ (b : Bool). if b then next n s a else None) steps)

  step_off : on a ≡ false → moved n rule s (made_below n s on a) ≡ moved n rule s (made_below n s on (a + 1))
  step_off off = ap (moved n rule s) (fun_ext same)
    where
      same : (p : ℕ) → made_below n s on a p ≡ made_below n s on (a + 1) p
      same p =
          elim (cases_eq p a) [
            | inl here ↦
                none_yet n s on a p here
                ∙ sym (made_now n s on a p here ∙ ap (λ (b : Bool). if b then next n s a else None) off)
            | inr other ↦ sym (same_below n s on a p other)
          ]

module _ {T : Type 0} (n : Net) (rule : Rule T) (wired : IsWired n) (s : State T) (on : ℕ → Bool)
    (can : (p : ℕ) → on p ≡ true → enabled n s p ≡ true) where
  in_clock : (m a : ℕ)
      → after n rule (moved n rule s (made_below n s on a)) (filter on (range_with_len a m))
      ≡ moved n rule s (made_below n s on (a + m))
  in_clock zero a = let same : a ≡ a + 0 = omega arith in ap (λ (b : ℕ). moved n rule s (made_below n s on b)) same
  in_clock (suc m) a =
      let rest = filter on (range_with_len (a + 1) m) in
      let t = moved n rule s (made_below n s on a) in
      let sum : a + 1 + m ≡ a + suc m = omega arith in
      let later = in_clock m (a + 1) ∙ ap (λ (b : ℕ). moved n rule s (made_below n s on b)) sum in
      elim (cases_Bool (on a)) [
        | inl steps ↦
            ap (λ (b : Bool). after n rule t (cond b (a ∷ rest) rest)) steps
            ∙ ap (λ (u : State T). after n rule u rest) (step_on n rule wired s on a (can a steps) steps) ∙ later
        | inr off ↦
            ap (λ (b : Bool). after n rule t (cond b (a ∷ rest) rest)) off
            ∙ ap (λ (u : State T). after n rule u rest) (step_off n rule wired s on a off) ∙ later
      ]

  none_below : (p : ℕ) → made_below n s on 0 p ≡ None
  none_below p =
      let low : 0 ≤ p = omega arith in ap (λ (b : Bool). if b then made n s on p else None) (le-ltb p 0 low)

  none_moved : moved n rule s (λ p. None) ≡ s
  none_moved =
      let queues = fun_ext (λ c. append-nil (s.queue c)) in λ i. record { local = s.local; queue = queues i }

  all_below : (p : ℕ) → made_below n s on n.processes p ≡ made n s on p
  all_below p =
      elim (cases_lt p n.processes) [
        | inl lt ↦ ap (λ (b : Bool). if b then made n s on p else None) (lt-ltb p n.processes lt)
        | inr past ↦
            let no_event : next n s p ≡ None =
            ap (λ (script : List Event). slice_get script (s.local p).position) (wired.bounded p past) in
            ap (λ (b : Bool). if b then made n s on p else None) (le-ltb p n.processes past)
            ∙ sym (none_either (next n s p) (on p) no_event)
      ]

  -- processes that can step do so one after the other as all at once
  pub clock_at_once : after n rule s (filter on (range_with_len 0 n.processes)) ≡ moved n rule s (made n s on)
  clock_at_once =
      let sum : 0 + n.processes ≡ n.processes = omega arith in
      ap (λ (t : State T). after n rule t (filter on (range_with_len 0 n.processes)))
      (sym (ap (moved n rule s) (fun_ext none_below) ∙ none_moved))
      ∙ in_clock n.processes 0
      ∙ ap (λ (a : ℕ). moved n rule s (made_below n s on a)) sum
      ∙ ap (moved n rule s) (fun_ext all_below)
