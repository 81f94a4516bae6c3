-- The checker's lists stand for the machine over tags, step by step.
--
-- A state is read off four lists and the cut (`state_at`). An event changes one element of one or two of them, and the machine
-- changes the same process and the same channel, so both are one state (`after_get`, `after_fire`, `after_put`): a Get moves the
-- first turn of the queue into the slot as the tag of the channel's writer; a Fire adds one to the process's fires, and so the
-- next of its tags to what it has kept; a Put adds the turn of the last of these. That each place holds what it names, and that
-- queues hold what was put and not got, then follows from the machine's own laws. Which event may come isn't asked here.
use Rattle.std.proofs.Common.{◌≡◌, ℕ, zero, suc, pred, ◌+◌, ◌<◌, ◌≤◌, ◌^◌, true, false, Option, Some, None, List, [], ◌∷◌, ◌++◌}
use Rattle.std.proofs.Common.{length, map, drop, replicate, set, get_or, slice_get, refl, sym, ap, ap₂, ◌∙◌}
use Rattle.std.proofs.Common.{subst, inl, inr, arith, add-one, eqb, eq-eqb, ne_eqb, length-set, get_or-set_same, get_or-set_other, ltb-true}
use Rattle.std.specs.Option.{option_map_or}
use Rattle.std.proofs.lemmas.Bool.{cases_eq, cases_lt, cond-true, cond-false}
use Rattle.std.proofs.lemmas.List.{drop-map, length-append, length-map, map-append}
use Rattle.std.proofs.lemmas.List.Sums.{count_by-le-length}
use Rattle.sanlp.specs.declared.nest.Tag.{Tag}
use Rattle.plain_data.proofs.Lists.{get_or-replicate_same}
use Rattle.net_core.specs.declared.network.Event.{Event}
use Rattle.net_core.specs.declared.network.Event.TheVariants.{Get, Fire, Put}
use Rattle.net_core.specs.declared.network.Network.{Network}
use Rattle.net_core.specs.declared.network.Process.{Process}
use Rattle.net_core.specs.declared.refs.Ref.{Ref}
use Rattle.net_core.specs.Cuts.{Cut, advanced, opening, IsCounted}
use Rattle.net_core.specs.Machine.{Net, Local, State, net_of, start, next, can_come, enabled, step, front, last_of, after_event}
use Rattle.net_core.specs.Machine.{local_after, queue_after}
use Rattle.net_core.specs.Names.{IsNamed, GivesValues, fired, tag}
use Rattle.net_core.specs.declared.progress.Progress.{Progress}
use Rattle.net_core.specs.Progress.{IsProgress, cut_of}
use Rattle.net_core.specs.Rules.{tags}
use Rattle.net_core.specs.Shape.{fires, is_fire}
use Rattle.net_core.proofs.CutOrder.{advanced_here, advanced_there}
use Rattle.net_core.proofs.EventCounts.{replaced_same, replaced_other}
use Rattle.net_core.proofs.PlaceValues.{last_fired, named_run, start_named}
use Rattle.net_core.proofs.Positions.{counted_after_step, enabled_as_cut, enabled_inside, start_counted}
use Rattle.net_core.proofs.Ready.{can_come_next, count_all, script_short}
use Rattle.net_checker.specs.declared.tag_state.TagState.{TagState}
use Rattle.net_checker.specs.SlotRows.{slots_in}
use Rattle.net_checker.specs.TagStates.{IsTagState, cut_in, slot_lists, state_at, state_of}

-- Equal states

same_local : (k k' : ℕ) (xs xs' : List (Option Tag)) (ys ys' : List Tag) → k ≡ k' → xs ≡ xs' → ys ≡ ys'
    → (let l : Local Tag = record { position = k; slots = xs; kept = ys } in l)
    ≡ record { position = k'; slots = xs'; kept = ys' }
same_local k k' xs xs' ys ys' a b c = λ i. record { position = a i; slots = b i; kept = c i }

same_state : (s t : State Tag) → ((q : ℕ) → s.local q ≡ t.local q) → ((c : ℕ) → s.queue c ≡ t.queue c) → s ≡ t
same_state s t locals queues = λ i. record { local = λ q. locals q i; queue = λ c. queues c i }

-- a process has kept as many tags as it has fired
pub fired_many : (p f : ℕ) → length (fired (λ (t : Tag). t) p f) ≡ f
fired_many p zero = refl
fired_many p (suc f) = omega (arith, length-append (fired (λ (t : Tag). t) p f) (tag p f ∷ []), fired_many p f)

-- After one event

module _ (writer : ℕ → ℕ) (cut cut' : Cut) (fires : List ℕ) (turns : List (List ℕ))
    (slots : List (List (Option Tag))) (p : ℕ) (moved : cut' ≡ advanced cut p) where
  abbrev before : State Tag
  before = state_at writer cut fires turns slots

  moved_here : (q : ℕ) → q ≡ p → cut' q ≡ suc (cut p)
  moved_here q same =
      ap (λ (k : Cut). k q) moved ∙ advanced_here cut p q same ∙ ap (λ (r : ℕ). suc (cut r)) same

  moved_there : (q : ℕ) → (q ≡ p → ⊥) → cut' q ≡ cut q
  moved_there q apart = ap (λ (k : Cut). k q) moved ∙ advanced_there cut p q apart

  pub after_get : (c slot : ℕ) → c < length turns → p < length slots
      → (turn : ℕ) → get_or turns c [] ≡ turn ∷ drop 1 (get_or turns c [])
      → state_at writer cut' fires (set turns c (drop 1 (get_or turns c [])))
      (set slots p (set (get_or slots p []) slot (Some (tag (writer c) turn))))
      ≡ after_event tags before p (Some (Get c slot))
  after_get c slot there at turn first = same_state _ _ locals queues where
    token : front (map (tag (writer c)) (get_or turns c [])) ≡ Some (tag (writer c) turn)
    token = ap (λ (ts : List ℕ). front (map (tag (writer c)) ts)) first

    locals : (q : ℕ)
        → (state_at writer cut' fires (set turns c (drop 1 (get_or turns c [])))
        (set slots p (set (get_or slots p []) slot (Some (tag (writer c) turn))))).local q
        ≡ (after_event tags before p (Some (Get c slot))).local q
    locals q = elim (cases_eq q p) [
      | inl same ↦
          same_local _ _ _ _ _ _ (moved_here q same)
          (ap (λ (r : ℕ).
          get_or (set slots p (set (get_or slots p []) slot (Some (tag (writer c) turn)))) r []) same
          ∙ get_or-set_same slots p (set (get_or slots p []) slot (Some (tag (writer c) turn))) [] at
          ∙ ap (set (get_or slots p []) slot) (sym token))
          (ap (λ (r : ℕ). fired (λ t. t) r (get_or fires r 0)) same)
          ∙ sym (replaced_same before.local p (local_after tags p (before.local p) before.queue (Get c slot)) q same)
      | inr apart ↦
          same_local _ _ _ _ _ _ (moved_there q apart)
          (get_or-set_other slots p q (set (get_or slots p []) slot (Some (tag (writer c) turn))) [] apart) refl
          ∙ sym (replaced_other before.local p (local_after tags p (before.local p) before.queue (Get c slot)) q
          apart)
    ]

    queues : (d : ℕ) → map (tag (writer d)) (get_or (set turns c (drop 1 (get_or turns c []))) d [])
        ≡ queue_after (before.local p).kept (Get c slot) d (before.queue d)
    queues d = elim (cases_eq d c) [
      | inl same ↦
          ap (λ (e : ℕ). map (tag (writer d)) (get_or (set turns c (drop 1 (get_or turns c []))) e [])) same
          ∙ ap (map (tag (writer d))) (get_or-set_same turns c (drop 1 (get_or turns c [])) [] there)
          ∙ sym (drop-map (tag (writer d)) 1 (get_or turns c []))
          ∙ ap (λ (e : ℕ). drop 1 (map (tag (writer d)) (get_or turns e []))) (sym same)
          ∙ sym (cond-true (eqb d c) (drop 1 (before.queue d)) (before.queue d) (eq-eqb d c same))
      | inr apart ↦
          ap (map (tag (writer d))) (get_or-set_other turns c d (drop 1 (get_or turns c [])) [] apart)
          ∙ sym (cond-false (eqb d c) (drop 1 (before.queue d)) (before.queue d) (ne_eqb d c apart))
    ]

  pub after_fire : (refs : List Ref) → p < length fires
      → state_at writer cut' (set fires p (get_or fires p 0 + 1)) turns slots
      ≡ after_event tags before p (Some (Fire refs))
  after_fire refs at = same_state _ _ locals (λ c. refl) where
    one : get_or (set fires p (get_or fires p 0 + 1)) p 0 ≡ suc (get_or fires p 0)
    one = get_or-set_same fires p (get_or fires p 0 + 1) 0 at ∙ add-one (get_or fires p 0)

    kept : fired (λ t. t) p (get_or (set fires p (get_or fires p 0 + 1)) p 0)
        ≡ fired (λ t. t) p (get_or fires p 0) ++ tag p (length (fired (λ t. t) p (get_or fires p 0))) ∷ []
    kept =
        ap (fired (λ t. t) p) one
        ∙ ap (λ (f : ℕ). fired (λ t. t) p (get_or fires p 0) ++ tag p f ∷ []) (sym (fired_many p (get_or fires p 0)))

    locals : (q : ℕ) → (state_at writer cut' (set fires p (get_or fires p 0 + 1)) turns slots).local q
        ≡ (after_event tags before p (Some (Fire refs))).local q
    locals q = elim (cases_eq q p) [
      | inl same ↦
          same_local _ _ _ _ _ _ (moved_here q same) (ap (λ (r : ℕ). get_or slots r []) same)
          (ap (λ (r : ℕ). fired (λ t. t) r (get_or (set fires p (get_or fires p 0 + 1)) r 0)) same ∙ kept)
          ∙ sym (replaced_same before.local p (local_after tags p (before.local p) before.queue (Fire refs)) q same)
      | inr apart ↦
          same_local _ _ _ _ _ _ (moved_there q apart) refl
          (ap (fired (λ t. t) q) (get_or-set_other fires p q (get_or fires p 0 + 1) 0 apart))
          ∙ sym (replaced_other before.local p (local_after tags p (before.local p) before.queue (Fire refs)) q apart)
    ]

  pub after_put : (c : ℕ) → c < length turns → writer c ≡ p → 0 < get_or fires p 0
      → state_at writer cut' fires (set turns c (get_or turns c [] ++ pred (get_or fires p 0) ∷ [])) slots
      ≡ after_event tags before p (Some (Put c))
  after_put c there own some = same_state _ _ locals queues where
    more : List ℕ
    more = get_or turns c [] ++ pred (get_or fires p 0) ∷ []

    locals : (q : ℕ) → (state_at writer cut' fires (set turns c more) slots).local q
        ≡ (after_event tags before p (Some (Put c))).local q
    locals q = elim (cases_eq q p) [
      | inl same ↦
          same_local _ _ _ _ _ _ (moved_here q same) (ap (λ (r : ℕ). get_or slots r []) same)
          (ap (λ (r : ℕ). fired (λ t. t) r (get_or fires r 0)) same)
          ∙ sym (replaced_same before.local p (local_after tags p (before.local p) before.queue (Put c)) q same)
      | inr apart ↦
          same_local _ _ _ _ _ _ (moved_there q apart) refl refl
          ∙ sym (replaced_other before.local p (local_after tags p (before.local p) before.queue (Put c)) q apart)
    ]

    queues : (d : ℕ) → map (tag (writer d)) (get_or (set turns c more) d [])
        ≡ queue_after (before.local p).kept (Put c) d (before.queue d)
    queues d = elim (cases_eq d c) [
      | inl same ↦
          ap (λ (e : ℕ). map (tag (writer d)) (get_or (set turns c more) e [])) same
          ∙ ap (map (tag (writer d))) (get_or-set_same turns c more [] there)
          ∙ map-append (tag (writer d)) (get_or turns c []) (pred (get_or fires p 0) ∷ [])
          ∙ ap₂ (λ (e r : ℕ). map (tag (writer d)) (get_or turns e []) ++ tag r (pred (get_or fires p 0)) ∷ [])
          (sym same) (ap writer same ∙ own)
          ∙ ap (λ (xs : List Tag). before.queue d ++ xs) (sym (last_fired (λ t. t) p (get_or fires p 0) some))
          ∙ sym (cond-true (eqb d c) (before.queue d ++ last_of (before.local p).kept) (before.queue d)
          (eq-eqb d c same))
      | inr apart ↦
          ap (map (tag (writer d))) (get_or-set_other turns c d more [] apart)
          ∙ sym (cond-false (eqb d c) (before.queue d ++ last_of (before.local p).kept) (before.queue d)
          (ne_eqb d c apart))
    ]

-- The opening state

pub opens : (network : Network) (progress : Cut) (fires : List ℕ) (turns : List (List ℕ))
    (slots : List (List (Option Tag))) → progress ≡ opening → fires ≡ replicate (length network.processes) 0
    → turns ≡ replicate (length network.channels) []
    → slots ≡ map (λ (process : Process). replicate process.slots None) network.processes
    → state_at (net_of network).writer progress fires turns slots ≡ start (net_of network)
opens network progress fires turns slots at no_fires no_turns empty = same_state _ _ locals queues where
  n : Net
  n = net_of network

  slots_at : (ps : List Process) (q : ℕ)
      → get_or (map (λ (process : Process). replicate {A = Option Tag} process.slots None) ps) q []
      ≡ replicate (option_map_or (λ (process : Process). process.slots) (slice_get ps q) 0) None
  slots_at [] q = refl
  slots_at (process ∷ ps) zero = refl
  slots_at (process ∷ ps) (suc q) = slots_at ps q

  none_fired : (q : ℕ) → get_or fires q 0 ≡ 0
  none_fired q =
      ap (λ (fs : List ℕ). get_or fs q 0) no_fires ∙ get_or-replicate_same (length network.processes) q 0

  locals : (q : ℕ) → (state_at n.writer progress fires turns slots).local q ≡ (start n).local q
  locals q =
      same_local _ _ _ _ _ _ (ap (λ (k : Cut). k q) at)
      (ap (λ (xs : List (List (Option Tag))). get_or xs q []) empty ∙ slots_at network.processes q)
      (ap (fired (λ t. t) q) (none_fired q))

  queues : (c : ℕ) → map (tag (n.writer c)) (get_or turns c []) ≡ []
  queues c =
      ap (map (tag (n.writer c)))
      (ap (λ (ts : List (List ℕ)). get_or ts c []) no_turns
      ∙ get_or-replicate_same (length network.channels) c [])

-- What holds of every state

-- tags give what the fires' tags are
tags_give : (net : Net) → GivesValues net tags (λ t. t)
tags_give net p k refs is = refl

pub opens_state : (n : Net) (state : TagState) → IsProgress n state.progress
    → length state.fires.items ≡ n.processes → length state.queues.items ≡ n.channels
    → length state.slots.items ≡ n.processes → state_of n state ≡ start n → IsTagState n state
opens_state n state progress fires queues slots is = record {
  progress = progress;
  fires = fires;
  queues = queues;
  slots = slots;
  counted = subst (IsCounted n) (sym is) (start_counted n);
  named = subst (IsNamed n (λ t. t)) (sym is) (start_named n (λ t. t));
}

-- What an enabled event finds

module _ (n : Net) (state : TagState) (is_state : IsTagState n state) (p : ℕ) where
  -- an enabled process has an event left
  pub enabled_left : enabled n (state_of n state) p ≡ true → cut_in state p < length (n.script p)
  enabled_left on =
      enabled_inside n (cut_in state) p (sym (enabled_as_cut n (state_of n state) is_state.counted p) ∙ on)

  pub enabled_process : enabled n (state_of n state) p ≡ true → p < n.processes
  enabled_process on = elim (cases_lt p n.processes) [
    | inl lt ↦ lt
    | inr past ↦ absurd (omega (arith, enabled_left on, ap length (is_state.progress.wired.bounded p past)))
  ]

  -- a process that isn't there isn't enabled
  pub none_enabled : n.processes ≤ p → enabled n (state_of n state) p ≡ false
  none_enabled past =
      ap (λ (es : List Event). can_come n (state_of n state) (slice_get es (cut_in state p)))
      (is_state.progress.wired.bounded p past)

  -- a Get that can come finds a token
  pub token_there : (c slot : ℕ) → enabled n (state_of n state) p ≡ true
      → next n (state_of n state) p ≡ Some (Get c slot) → 0 < length (get_or state.queues.items c [])
  token_there c slot on is =
      let some : 0 < length (map (tag (n.writer c)) (get_or state.queues.items c [])) =
      ltb-true _ _ (can_come_next n (state_of n state) p (Get c slot) is on) in
      omega (arith, length-map (get_or state.queues.items c []) (tag (n.writer c)))

  -- as many fires as there are before the position
  pub fires_made : get_or state.fires.items p 0 ≡ fires n p (cut_in state p)
  fires_made = sym (fired_many p (get_or state.fires.items p 0)) ∙ is_state.counted.kept p

  pub few_fires : (refs : List Ref) → next n (state_of n state) p ≡ Some (Fire refs)
      → get_or state.fires.items p 0 + 1 < 2 ^ 32
  few_fires refs is =
      omega (
        arith,
        fires_made,
        count_all is_fire (n.script p) (cut_in state p) (Fire refs) is refl,
        count_by-le-length is_fire (n.script p),
        script_short n is_state.progress.wired is_state.progress.numbers p,
      )

  -- a Put has a fire before it
  pub fired_before : (c : ℕ) → next n (state_of n state) p ≡ Some (Put c) → 0 < get_or state.fires.items p 0
  fired_before c is =
      omega (arith, fires_made, is_state.progress.wired.put_fired p (cut_in state p) c is)

-- One step

-- the state is one that a step led to, in lists that are as long
pub record IsStepped (n : Net) (old new : TagState) (p : ℕ) : Type 0 where
  pub run : state_of n new ≡ step n tags (state_of n old) p
  pub state : IsTagState n new

-- a list's first element and the others
first_and_rest : (xs : List ℕ) → 0 < length xs → xs ≡ get_or xs 0 0 ∷ drop 1 xs
first_and_rest [] some = absurd (omega arith)
first_and_rest (x ∷ xs) some = refl

module _ (n : Net) (old new : TagState) (was : IsTagState n old) (p : ℕ) (on : enabled n (state_of n old) p ≡ true)
    (further : Progress) (moved : cut_of further ≡ advanced (cut_in old) p) (progress : IsProgress n further)
    (same : new.progress ≡ further) where
  there : cut_in new ≡ advanced (cut_in old) p
  there = ap cut_of same ∙ moved

  stepped : (e : Event) → next n (state_of n old) p ≡ Some e → length new.fires.items ≡ length old.fires.items
      → length new.queues.items ≡ length old.queues.items → length (slot_lists new) ≡ length (slot_lists old)
      → state_of n new ≡ after_event tags (state_of n old) p (Some e) → IsStepped n old new p
  stepped e is fires queues slots after =
      let run : state_of n new ≡ step n tags (state_of n old) p =
      after ∙ sym (ap (after_event tags (state_of n old) p) is) in
      record {
        run = run;
        state = record {
          progress = subst (IsProgress n) (sym same) progress;
          fires = fires ∙ was.fires;
          queues = queues ∙ was.queues;
          slots = sym (length-map new.slots.items slots_in) ∙ slots ∙ length-map old.slots.items slots_in ∙ was.slots;
          counted = subst (IsCounted n) (sym run)
              (counted_after_step n tags was.progress.wired (state_of n old) p was.counted on);
          named = subst (IsNamed n (λ t. t)) (sym run)
              (named_run n tags was.progress.wired (λ t. t) (tags_give n) (p ∷ []) (state_of n old) was.counted
              was.named (on, tt));
        };
      }

  pub got_step : (c slot : ℕ) → next n (state_of n old) p ≡ Some (Get c slot)
      → new.fires.items ≡ old.fires.items
      → new.queues.items ≡ set old.queues.items c (drop 1 (get_or old.queues.items c []))
      → slot_lists new
      ≡ set (slot_lists old) p (set (get_or (slot_lists old) p []) slot
      (Some (tag (n.writer c) (get_or (get_or old.queues.items c []) 0 0))))
      → IsStepped n old new p
  got_step c slot is fires queues slots =
      let queue = get_or old.queues.items c [] in
      let token = token_there n old was p c slot on is in
      let channel : c < length old.queues.items =
      omega (arith, was.progress.wired.get_channel p (cut_in old p) c slot is, was.queues) in
      let process : p < length (slot_lists old) =
      omega (arith, enabled_process n old was p on, was.slots, length-map old.slots.items slots_in) in
      stepped (Get c slot) is (ap length fires) (ap length queues ∙ length-set old.queues.items c (drop 1 queue))
      (ap length slots ∙ length-set (slot_lists old) p _)
      ((λ i. state_at n.writer (cut_in new) (fires i) (queues i) (slots i))
      ∙ after_get n.writer (cut_in old) (cut_in new) old.fires.items old.queues.items (slot_lists old) p there c slot
      channel process (get_or queue 0 0) (first_and_rest queue token))

  pub fire_step : (refs : List Ref) → next n (state_of n old) p ≡ Some (Fire refs)
      → new.fires.items ≡ set old.fires.items p (get_or old.fires.items p 0 + 1)
      → new.queues.items ≡ old.queues.items → slot_lists new ≡ slot_lists old → IsStepped n old new p
  fire_step refs is fires queues slots =
      let process : p < length old.fires.items = omega (arith, enabled_process n old was p on, was.fires) in
      stepped (Fire refs) is (ap length fires ∙ length-set old.fires.items p (get_or old.fires.items p 0 + 1))
      (ap length queues) (ap length slots)
      ((λ i. state_at n.writer (cut_in new) (fires i) (queues i) (slots i))
      ∙ after_fire n.writer (cut_in old) (cut_in new) old.fires.items old.queues.items (slot_lists old) p there refs
      process)

  pub put_step : (c : ℕ) → next n (state_of n old) p ≡ Some (Put c) → new.fires.items ≡ old.fires.items
      → new.queues.items
      ≡ set old.queues.items c (get_or old.queues.items c [] ++ pred (get_or old.fires.items p 0) ∷ [])
      → slot_lists new ≡ slot_lists old → IsStepped n old new p
  put_step c is fires queues slots =
      let channel : c < length old.queues.items =
      omega (arith, was.progress.wired.put_channel p (cut_in old p) c is, was.queues) in
      stepped (Put c) is (ap length fires)
      (ap length queues ∙ length-set old.queues.items c _) (ap length slots)
      ((λ i. state_at n.writer (cut_in new) (fires i) (queues i) (slots i))
      ∙ after_put n.writer (cut_in old) (cut_in new) old.fires.items old.queues.items (slot_lists old) p there c channel
      (was.progress.wired.put_writer p (cut_in old p) c is) (fired_before n old was p c is))
