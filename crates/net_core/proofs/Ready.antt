-- What an enabled event finds in a state of the network, and that the state after it is one too.
--
-- The invariant is `IsFor`: what is kept and what waits in the queues is counted by the positions in the scripts, and
-- the room is for all that may ever be there. So an event that can come finds its room made, and no number passes
-- 2^32, since the scripts together are shorter than that. It is inductive: an event moves one position, and changes
-- one process and one queue by what the counts say (`for_after`). That some event can come isn't shown here.
use Rattle.std.proofs.Common.{◌≡◌, ℕ, zero, suc, ◌+◌, ◌^◌, ◌<◌, ◌≤◌, Bool, true, Some, List, length, take}
use Rattle.std.proofs.Common.{drop, slice_get, count_by, refl, sym, ap, ◌∙◌, subst, inl, inr, arith, add-one, ltb-true}
use Rattle.std.proofs.Common.{eq-eqb, length-set, take_all}
use Rattle.std.proofs.lemmas.Bool.{cases_eq, cases_lt}
use Rattle.std.proofs.lemmas.List.{drop-drop, length-take}
use Rattle.std.proofs.lemmas.List.Sums.{count_by-le-length}
use Rattle.std.proofs.lemmas.Option.{slice_get_within}
use Rattle.net_core.specs.declared.refs.Ref.{Ref}
use Rattle.net_core.specs.declared.network.Event.{Event}
use Rattle.net_core.specs.declared.network.Event.TheVariants.{Get, Fire, Put}
use Rattle.net_core.specs.Machine.{Net, Local, State, Rule, next, can_come, enabled, local_after, after_event, replaced}
use Rattle.net_core.specs.Machine.{step}
use Rattle.net_core.specs.Shape.{is_put, is_fire, IsWired, FitsNumbers, events_below, put_count}
use Rattle.net_core.specs.Cuts.{puts_at, positions}
use Rattle.net_core.specs.Held.{Held, IsFor, HasPassed, IsReached}
use Rattle.net_core.proofs.EventCounts.{count_past, replaced_same, replaced_other}
use Rattle.net_core.proofs.Positions.{local_after_position, counted_step}

-- the whole of a script is the most that is counted
pub count_all : {X : Type 0} (q : X → Bool) (xs : List X) (i : ℕ) (e : X) → slice_get xs i ≡ Some e → q e ≡ true
    → count_by q (take i xs) < count_by q xs
count_all q xs i e h t =
    let all : take (length xs) xs ≡ xs = take_all (length xs) xs (omega arith) in
    subst (λ ys. count_by q (take i xs) < count_by q ys) all
    (count_past q xs i (length xs) e h t (slice_get_within xs i e h))

count_short : {X : Type 0} (q : X → Bool) (xs : List X) (i : ℕ) → count_by q (take i xs) ≤ length xs
count_short q xs i = omega (arith, count_by-le-length q (take i xs), length-take i xs)

-- what is left after one event more
pub drop_next : {X : Type 0} (k : ℕ) (xs : List X) → drop 1 (drop k xs) ≡ drop (suc k) xs
drop_next k xs = drop-drop 1 k xs ∙ ap (λ j. drop j xs) (add-one k)

pub length-script-le : (n : Net) (p m : ℕ) → p < m → length (n.script p) ≤ events_below n m
length-script-le n p zero lt = absurd (omega arith)
length-script-le n p (suc m) lt =
    elim (cases_eq p m) [
      | inl e ↦ let same : length (n.script p) ≡ length (n.script m) = ap (λ q. length (n.script q)) e in omega arith
      | inr d ↦ omega (arith, length-script-le n p m (omega arith))
    ]

-- each script has fewer than 2 ^ 32 events
pub script_short : (n : Net) → IsWired n → FitsNumbers n → (p : ℕ) → length (n.script p) < 2 ^ 32
script_short n wired numbers p =
    elim (cases_lt p n.processes) [
      | inl lt ↦ omega (arith, length-script-le n p n.processes lt, numbers.events)
      | inr le ↦ let none : length (n.script p) ≡ 0 = ap length (wired.bounded p le) in omega arith
    ]

-- a process with an event is there
pub process_there : (n : Net) → IsWired n → (p k : ℕ) (e : Event) → slice_get (n.script p) k ≡ Some e → p < n.processes
process_there n wired p k e is =
    elim (cases_lt p n.processes) [
      | inl lt ↦ lt
      | inr le ↦
          let none : length (n.script p) ≡ 0 = ap length (wired.bounded p le) in
          absurd (omega (arith, slice_get_within (n.script p) k e is))
    ]

pub can_come_next : {T : Type 0} (n : Net) (s : State T) (p : ℕ) (e : Event) → next n s p ≡ Some e
    → enabled n s p ≡ true → can_come n s (Some e) ≡ true
can_come_next n s p e is m = ap (can_come n s) (sym is) ∙ m

pub after_event_step : {T : Type 0} (n : Net) (rule : Rule T) (s : State T) (p : ℕ) (e : Event) → next n s p ≡ Some e
    → after_event rule s p (Some e) ≡ step n rule s p
after_event_step n rule s p e is = ap (after_event rule s p) (sym is)

local_after_slots : {T : Type 0} (rule : Rule T) (p : ℕ) (l : Local T) (queue : ℕ → List T) (e : Event)
    → length (local_after rule p l queue e).slots ≡ length l.slots
local_after_slots rule p l queue (Get c slot) = length-set l.slots slot _
local_after_slots rule p l queue (Fire refs) = refl
local_after_slots rule p l queue (Put c) = refl

module _ {T : Type 0} (n : Net) (h : Held T) (is_for : IsFor n h) where
  pub position_short : (p : ℕ) (e : Event) → next n h.run p ≡ Some e → (h.run.local p).position + 1 < 2 ^ 32
  position_short p e is =
      omega (
        arith,
        slice_get_within (n.script p) (h.run.local p).position e is,
        script_short n is_for.wired is_for.numbers p,
      )

  pub kept_short : (p : ℕ) → length (h.run.local p).kept < 2 ^ 32
  kept_short p =
      omega (
        arith,
        is_for.counted.kept p,
        count_short is_fire (n.script p) (h.run.local p).position,
        script_short n is_for.wired is_for.numbers p,
      )

  -- a queue's length is below 2 ^ 32
  pub queue_short : (c : ℕ) → length (h.run.queue c) < 2 ^ 32
  queue_short c =
      omega (
        arith,
        is_for.counted.queues c,
        count_short (is_put c) (n.script (n.writer c))
            (positions h.run (n.writer c)),
        script_short n is_for.wired is_for.numbers (n.writer c),
      )

  pub kept_reserved : (p : ℕ) (refs : List Ref) → next n h.run p ≡ Some (Fire refs)
      → length (h.run.local p).kept < h.kept_room p
  kept_reserved p refs is =
      omega (
        arith,
        is_for.counted.kept p,
        is_for.kept_room p,
        count_all is_fire (n.script p) (h.run.local p).position (Fire refs) is refl,
      )

  pub queue_reserved : (p c : ℕ) → next n h.run p ≡ Some (Put c) → can_come n h.run (Some (Put c)) ≡ true
      → length (h.run.queue c) < h.queue_room c
  queue_reserved p c is m =
      let w : n.writer c ≡ p = is_for.wired.put_writer p (h.run.local p).position c is in
      let less : puts_at n (positions h.run) c < put_count n c =
      rw w (count_all (is_put c) (n.script p) (h.run.local p).position (Put c) is (eq-eqb c c refl)) in
      omega (arith, is_for.queue_room c, is_for.counted.queues c, ltb-true _ _ m)

  inside_after : (rule : Rule T) (p : ℕ) (e : Event) → next n h.run p ≡ Some e → (q : ℕ)
      → ((after_event rule h.run p (Some e)).local q).position ≤ length (n.script q)
  inside_after rule p e is q =
      let x = local_after rule p (h.run.local p) h.run.queue e in
      elim (cases_eq q p) [
        | inl same ↦
            let l : (after_event rule h.run p (Some e)).local q ≡ x = replaced_same h.run.local p x q same in
            let lt : (h.run.local p).position < length (n.script p) =
            slice_get_within (n.script p) (h.run.local p).position e is in
            rw (l, same, local_after_position rule p (h.run.local p) h.run.queue e) lt
        | inr d ↦
            let l : (after_event rule h.run p (Some e)).local q ≡ h.run.local q = replaced_other h.run.local p x q d in
            rw l (is_for.inside q)
      ]

  slots_after : (rule : Rule T) (p : ℕ) (e : Event) (q : ℕ)
      → length ((after_event rule h.run p (Some e)).local q).slots ≡ n.slots q
  slots_after rule p e q =
      let x = local_after rule p (h.run.local p) h.run.queue e in
      elim (cases_eq q p) [
        | inl same ↦
            let l : (after_event rule h.run p (Some e)).local q ≡ x = replaced_same h.run.local p x q same in
            rw (l, same) (local_after_slots rule p (h.run.local p) h.run.queue e ∙ is_for.slots p)
        | inr d ↦
            let l : (after_event rule h.run p (Some e)).local q ≡ h.run.local q = replaced_other h.run.local p x q d in
            rw l (is_for.slots q)
      ]

  left_after : (rule : Rule T) (p : ℕ) (e : Event) → (q : ℕ)
      → replaced h.left p (drop 1 (h.left p)) q
      ≡ drop ((after_event rule h.run p (Some e)).local q).position (n.script q)
  left_after rule p e q =
      let x = local_after rule p (h.run.local p) h.run.queue e in
      elim (cases_eq q p) [
        | inl same ↦
            let l : (after_event rule h.run p (Some e)).local q ≡ x = replaced_same h.run.local p x q same in
            let further : drop 1 (h.left p) ≡ drop (suc (h.run.local p).position) (n.script p) =
            ap (drop 1) (is_for.left p) ∙ drop_next (h.run.local p).position (n.script p) in
            replaced_same h.left p (drop 1 (h.left p)) q same
            ∙ rw (l, same, local_after_position rule p (h.run.local p) h.run.queue e) further
        | inr d ↦
            let l : (after_event rule h.run p (Some e)).local q ≡ h.run.local q = replaced_other h.run.local p x q d in
            replaced_other h.left p (drop 1 (h.left p)) q d ∙ is_for.left q
            ∙ ap (λ (m : Local T). drop m.position (n.script q)) (sym l)
      ]

  -- the state after the event of a process, in the same room, is one of this network
  pub for_after : (rule : Rule T) (h' : Held T) (p : ℕ) (e : Event) → next n h.run p ≡ Some e
      → can_come n h.run (Some e) ≡ true
      → h'.run ≡ after_event rule h.run p (Some e) → HasPassed p h h' → IsFor n h'
  for_after rule h' p e is m run same =
      let stays : IsFor n
      (record h { run = after_event rule h.run p (Some e); left = replaced h.left p (drop 1 (h.left p)) }) = record {
        wired = is_for.wired;
        numbers = is_for.numbers;
        processes = is_for.processes;
        channels = is_for.channels;
        counted = counted_step n rule is_for.wired h.run p is_for.counted (Some e) is m;
        inside = inside_after rule p e is;
        left = left_after rule p e;
        slots = slots_after rule p e;
        kept_room = is_for.kept_room;
        queue_room = is_for.queue_room;
      } in
      let ends : record h { run = after_event rule h.run p (Some e); left = replaced h.left p (drop 1 (h.left p)) }
      ≡ h' =
      λ i. record {
        run = sym run i;
        processes = sym same.0 i;
        channels = sym same.1 i;
        left = sym same.2 i;
        kept_room =
            sym same.3 i;
        queue_room = sym same.4 i;
      } in
      subst (IsFor n) ends stays

-- a queue's length is below 2 ^ 32 in every state that steps have reached
pub reached_short : {T : Type 0} (h : Held T) → IsReached h → (c : ℕ) → length (h.run.queue c) < 2 ^ 32
reached_short h reached c = queue_short reached.0 h reached.1 c
