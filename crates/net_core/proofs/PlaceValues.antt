-- Whatever the order of events, each place holds the value of what it names.
--
-- Which token a slot has, and which tokens lie in a queue, follows from the scripts and the positions: the m-th Get of
-- a channel takes its m-th token, and a token is the tag of the last fire before its Put. The invariant is `IsNamed`:
-- each slot, each kept value and each queue is the list of the values of the tags that it names there. Each step keeps
-- it, given that a fire gives its tag's value where the slots hold the values of what they name (`GivesValues`), and
-- that the queues are counted (Positions). A token stands at its number from its Put on (`token_stays`), so the whole
-- list of tokens may be read at any moment.
use Rattle.std.proofs.Common.{◌≡◌, ℕ, zero, suc, pred, ◌+◌, ◌-◌, ◌<◌, ◌≤◌, true, cond, eqb, Option, Some, None, List}
use Rattle.std.proofs.Common.{[], ◌∷◌, ◌++◌, length, map, take, drop, slice_get, slice_set, replicate, count_by}
use Rattle.std.proofs.Common.{option_map, refl, sym, ap, ◌∙◌, ap₂, zero-add, suc-add, add-zero, inl, inr, arith}
use Rattle.std.proofs.Common.{ltb-true, length-append}
use Rattle.std.specs.Option.{option_and_then}
use Rattle.std.proofs.lemmas.Bool.{cond-true, cond-false, cases_eq, cases_lt, cases_Bool}
use Rattle.std.proofs.lemmas.List.{drop-append-le, map-set, map-append, drop-map, drop-drop}
use Rattle.std.proofs.lemmas.Option.{slice_get_past}
use Rattle.sanlp.specs.declared.nest.Tag.{Tag}
use Rattle.net_core.specs.declared.refs.Ref.{Ref}
use Rattle.net_core.specs.declared.network.Event.{Event}
use Rattle.net_core.specs.declared.network.Event.TheVariants.{Get, Fire, Put}
use Rattle.net_core.specs.Machine.{Net, Local, State, Rule, start, next, can_come, front, last_of, after_get}
use Rattle.net_core.specs.Machine.{after_fire, after_put, local_after, queue_after, after_event, step, after, IsRun}
use Rattle.net_core.specs.Machine.{HasEnded}
use Rattle.net_core.specs.Shape.{is_get, is_put, is_fire, IsWired, fires}
use Rattle.net_core.specs.Cuts.{Cut, gets_at, advanced, positions, IsCounted}
use Rattle.net_core.specs.Names.{tag, with_token, tokens_before, tokens, with_get, latest_gets, token_at, slot_names}
use Rattle.net_core.specs.Names.{fired, GivesValues, IsLocalNamed, IsNamed}
use Rattle.net_core.specs.Rules.{tags}
use Rattle.net_core.proofs.EventCounts.{count_next, count_none, replaced_same, replaced_other}
use Rattle.net_core.proofs.CutOrder.{advanced_here, advanced_there}
use Rattle.net_core.proofs.TwoSteps.{put_writer}
use Rattle.net_core.proofs.Positions.{gets_advanced, positions_after, counted_after_step, start_counted, put_fired}
use Rattle.plain_data.proofs.Lists.{slice_get-append_left}
use Rattle.plain_data.proofs.Options.{map-option_map_same}

-- The tokens of a channel

with_token_length : (n : Net) (c k : ℕ) (o : Option Event) (ts : List Tag) → slice_get (n.script (n.writer c)) k ≡ o
    → length ts ≡ count_by (is_put c) (take k (n.script (n.writer c)))
    → length (with_token n c k o ts) ≡ count_by (is_put c) (take (suc k) (n.script (n.writer c)))
with_token_length n c k None ts is h = h ∙ sym (count_none (is_put c) (n.script (n.writer c)) k is)
with_token_length n c k (Some (Get d slot)) ts is h =
    omega (arith, count_next (is_put c) (n.script (n.writer c)) k (Get d slot) is)
with_token_length n c k (Some (Fire refs)) ts is h =
    omega (arith, count_next (is_put c) (n.script (n.writer c)) k (Fire refs) is)
with_token_length n c k (Some (Put d)) ts is h =
    let more : count_by (is_put c) (take (suc k) (n.script (n.writer c)))
    ≡ count_by (is_put c) (take k (n.script (n.writer c))) + cond (eqb c d) 1 0 =
    count_next (is_put c) (n.script (n.writer c)) k (Put d) is in
    elim (cases_Bool (eqb c d)) [
      | inl t ↦
          let counted : cond {A = ℕ} (eqb c d) 1 0 ≡ 1 = cond-true (eqb c d) 1 0 t in
          rw t (omega (arith, length-append ts (tag (n.writer c) (pred (fires n (n.writer c) k)) ∷ [])))
      | inr f ↦
          let none : cond {A = ℕ} (eqb c d) 1 0 ≡ 0 = cond-false (eqb c d) 1 0 f in
          rw f (omega arith)
    ]

-- there are as many tokens as Puts
pub tokens_length : (n : Net) (c k : ℕ)
    → length (tokens_before n c k) ≡ count_by (is_put c) (take k (n.script (n.writer c)))
tokens_length n c zero = refl
tokens_length n c (suc k) =
    with_token_length n c k (slice_get (n.script (n.writer c)) k) (tokens_before n c k) refl (tokens_length n c k)

with_token_keeps : (n : Net) (c k : ℕ) (o : Option Event) (ts : List Tag) (m : ℕ) → m < length ts
    → (slice_get (with_token n c k o ts) m ≡ slice_get ts m) × (m < length (with_token n c k o ts))
with_token_keeps n c k None ts m h = (refl, h)
with_token_keeps n c k (Some (Get d slot)) ts m h = (refl, h)
with_token_keeps n c k (Some (Fire refs)) ts m h = (refl, h)
with_token_keeps n c k (Some (Put d)) ts m h =
    let more = tag (n.writer c) (pred (fires n (n.writer c) k)) ∷ [] in
    elim (cases_Bool (eqb c d)) [
      | inl t ↦ rw t (slice_get-append_left ts more m h, omega (arith, length-append ts more))
      | inr f ↦ rw f (refl, h)
    ]

-- a token stands at its place from its Put on
token_stays : (n : Net) (c k d m : ℕ) → m < length (tokens_before n c k)
    → (slice_get (tokens_before n c (d + k)) m ≡ slice_get (tokens_before n c k) m)
    × (m < length (tokens_before n c (d + k)))
token_stays n c k zero m h = rw (zero-add k) (refl, h)
token_stays n c k (suc d) m h =
    let before = token_stays n c k d m h in
    let more =
    with_token_keeps n c (d + k) (slice_get (n.script (n.writer c)) (d + k)) (tokens_before n c (d + k)) m before.1 in
    rw (suc-add d k) (more.0 ∙ before.0, more.1)

-- past the script's end nothing is put
tokens_past : (n : Net) (c d : ℕ) → tokens_before n c (d + length (n.script (n.writer c))) ≡ tokens n c
tokens_past n c zero = rw (zero-add (length (n.script (n.writer c)))) refl
tokens_past n c (suc d) =
    let len = length (n.script (n.writer c)) in
    let past : slice_get (n.script (n.writer c)) (d + len) ≡ None =
    slice_get_past (n.script (n.writer c)) (d + len) (omega arith) in
    rw (suc-add d len) (ap (λ o. with_token n c (d + len) o (tokens_before n c (d + len))) past ∙ tokens_past n c d)

-- a token that was put by place k is that of the whole list
pub token_full : (n : Net) (c k m : ℕ) → m < length (tokens_before n c k)
    → slice_get (tokens n c) m ≡ slice_get (tokens_before n c k) m
token_full n c k m h =
    let len = length (n.script (n.writer c)) in
    elim (cases_lt len k) [
      | inl lt ↦
          let e : (k - len) + len ≡ k = omega arith in
          ap (λ ts. slice_get ts m) (sym (tokens_past n c (k - len)) ∙ ap (tokens_before n c) e)
      | inr le ↦
          let e : (len - k) + k ≡ len = omega arith in
          sym (ap (λ j. slice_get (tokens_before n c j) m) e) ∙ (token_stays n c k (len - k) m h).0
    ]

-- the tokens that the writer has put, after an event of p
tokens_advanced : (n : Net) (wired : IsWired n) (k : Cut) (p : ℕ) (e : Event) (c : ℕ)
    → slice_get (n.script p) (k p) ≡ Some e
    → tokens_before n c (advanced k p (n.writer c))
    ≡ cond (is_put c e)
    (tokens_before n c (k (n.writer c)) ++ tag (n.writer c) (pred (fires n (n.writer c) (k (n.writer c)))) ∷ [])
    (tokens_before n c (k (n.writer c)))
tokens_advanced n wired k p e c is =
    elim (cases_eq (n.writer c) p) [
      | inl r ↦
          let b : advanced k p (n.writer c) ≡ suc (k (n.writer c)) = advanced_here k p (n.writer c) r in
          let is' : slice_get (n.script (n.writer c)) (k (n.writer c)) ≡ Some e = rw r is in
          rw (b, is') (as_cond e (tokens_before n c (k (n.writer c))))
      | inr d ↦
          let b : advanced k p (n.writer c) ≡ k (n.writer c) = advanced_there k p (n.writer c) d in
          elim (cases_Bool (is_put c e)) [
            | inl t ↦ absurd (d (put_writer n wired p (k p) c e is t))
            | inr f ↦ rw (b, f) refl
          ]
    ]
  where
    as_cond : (e : Event) (ts : List Tag)
        → with_token n c (k (n.writer c)) (Some e) ts
        ≡ cond (is_put c e) (ts ++ tag (n.writer c) (pred (fires n (n.writer c) (k (n.writer c)))) ∷ []) ts
    as_cond (Get d slot) ts = refl
    as_cond (Fire refs) ts = refl
    as_cond (Put d) ts = refl

-- What one process holds

abbrev name_slots : Net → List (Option (ℕ × ℕ)) → List (Option Tag)
name_slots n slots = map (option_and_then (token_at n)) slots

-- the slots' names after the event at place k
names_after_get : (n : Net) (p k c slot : ℕ) → slice_get (n.script p) k ≡ Some (Get c slot)
    → slot_names n p (suc k)
    ≡ slice_set (slot_names n p k) slot (token_at n (c, count_by (is_get c) (take k (n.script p))))
names_after_get n p k c slot is =
    ap (λ o. name_slots n (with_get n p k o (latest_gets n p k))) is
    ∙ map-set (option_and_then (token_at n)) (latest_gets n p k) slot
    (Some (c, count_by (is_get c) (take k (n.script p))))

names_after_fire : (n : Net) (p k : ℕ) (refs : List Ref) → slice_get (n.script p) k ≡ Some (Fire refs)
    → slot_names n p (suc k) ≡ slot_names n p k
names_after_fire n p k refs is = ap (λ o. name_slots n (with_get n p k o (latest_gets n p k))) is

names_after_put : (n : Net) (p k c : ℕ) → slice_get (n.script p) k ≡ Some (Put c)
    → slot_names n p (suc k) ≡ slot_names n p k
names_after_put n p k c is = ap (λ o. name_slots n (with_get n p k o (latest_gets n p k))) is

module _ {T : Type 0} (n : Net) (v : Tag → T) (p : ℕ) (l : Local T) (named : IsLocalNamed n v p l) where
  -- a Get that takes the value of its token
  pub named_get : (c slot : ℕ) (x : Option T) → slice_get (n.script p) l.position ≡ Some (Get c slot)
      → x ≡ option_map v (token_at n (c, count_by (is_get c) (take l.position (n.script p))))
      → IsLocalNamed n v p (after_get l slot x)
  named_get c slot x is value =
      let t = token_at n (c, count_by (is_get c) (take l.position (n.script p))) in
      let same : fires n p (suc l.position) ≡ fires n p l.position =
      omega (arith, count_next is_fire (n.script p) l.position (Get c slot) is) in
      record {
        slots =
            ap₂ (λ xs y. slice_set xs slot y) named.slots value
            ∙ sym (map-set (option_map v) (slot_names n p l.position) slot t)
            ∙ ap (map (option_map v)) (sym (names_after_get n p l.position c slot is));
        kept = named.kept ∙ ap (fired v p) (sym same);
      }

  -- a Fire that gives its tag's value
  pub named_fire : (refs : List Ref) (x : T) → slice_get (n.script p) l.position ≡ Some (Fire refs)
      → x ≡ v (tag p (fires n p l.position)) → IsLocalNamed n v p (after_fire l x)
  named_fire refs x is value =
      let turn = fires n p l.position in
      let more : fires n p (suc l.position) ≡ suc turn =
      omega (arith, count_next is_fire (n.script p) l.position (Fire refs) is) in
      record {
        slots = named.slots ∙ ap (map (option_map v)) (sym (names_after_fire n p l.position refs is));
        kept = ap₂ (λ xs y. xs ++ y ∷ []) named.kept value ∙ ap (fired v p) (sym more);
      }

  pub named_put : (c : ℕ) → slice_get (n.script p) l.position ≡ Some (Put c) → IsLocalNamed n v p (after_put l)
  named_put c is =
      let same : fires n p (suc l.position) ≡ fires n p l.position =
      omega (arith, count_next is_fire (n.script p) l.position (Put c) is) in
      record {
        slots = named.slots ∙ ap (map (option_map v)) (sym (names_after_put n p l.position c is));
        kept = named.kept ∙ ap (fired v p) (sym same);
      }

-- What a state holds

-- the first of what is left, under a function
pub front_map_drop : {X T : Type 0} (v : X → T) (g : ℕ) (xs : List X)
    → front (map v (drop g xs)) ≡ option_map v (slice_get xs g)
front_map_drop v zero [] = refl
front_map_drop v (suc g) [] = refl
front_map_drop v zero (x ∷ xs) = refl
front_map_drop v (suc g) (x ∷ xs) = front_map_drop v g xs

-- the last of what was fired is the value of the last fire
pub last_fired : {T : Type 0} (v : Tag → T) (p f : ℕ) → 0 < f → last_of (fired v p f) ≡ v (tag p (pred f)) ∷ []
last_fired v p zero h = absurd (omega arith)
last_fired v p (suc f) h = last_push (fired v p f) (v (tag p f))
  where
    last_push : {A : Type 0} (xs : List A) (y : A) → last_of (xs ++ y ∷ []) ≡ y ∷ []
    last_push [] y = refl
    last_push (x ∷ []) y = refl
    last_push (x ∷ (z ∷ zs)) y = last_push (z ∷ zs) y

module _ {T : Type 0} (n : Net) (rule : Rule T) (wired : IsWired n) (v : Tag → T) (gives : GivesValues n rule v) where
  -- a process after its event
  named_local : (s : State T) (p : ℕ) (e : Event) → IsCounted n s → IsNamed n v s → next n s p ≡ Some e
      → can_come n s (Some e) ≡ true
      → IsLocalNamed n v p (local_after rule p (s.local p) s.queue e)
  named_local s p (Get c slot) h named is m =
      let k = positions s in
      let r : n.reader c ≡ p = wired.get_reader p (k p) c slot is in
      let g = gets_at n k c in
      let ts = tokens_before n c (k (n.writer c)) in
      let here : g ≡ count_by (is_get c) (take (k p) (n.script p)) = rw r refl in
      let room : g < length ts = omega (arith, h.queues c, ltb-true _ _ m, tokens_length n c (k (n.writer c))) in
      let token : front (s.queue c) ≡ option_map v (token_at n (c, count_by (is_get c) (take (k p) (n.script p)))) =
      ap front (named.queues c) ∙ front_map_drop v g ts
      ∙ ap (option_map v) (sym (token_full n c (k (n.writer c)) g room) ∙ ap (slice_get (tokens n c)) here) in
      named_get n v p (s.local p) (named.locals p) c slot (front (s.queue c)) is token
  named_local s p (Fire refs) h named is m =
      let l = s.local p in
      let value : rule p (length l.kept) refs l.slots ≡ v (tag p (fires n p l.position)) =
      ap₂ (λ f xs. rule p f refs xs) (h.kept p) ((named.locals p).slots) ∙ gives p l.position refs is in
      named_fire n v p l (named.locals p) refs (rule p (length l.kept) refs l.slots) is value
  named_local s p (Put c) h named is m = named_put n v p (s.local p) (named.locals p) c is

  -- a queue after an event
  named_queue : (s : State T) (p : ℕ) (e : Event) (c : ℕ) → IsCounted n s → IsNamed n v s → next n s p ≡ Some e
      → can_come n s (Some e) ≡ true
      → queue_after (s.local p).kept e c (s.queue c)
      ≡ map v (drop (gets_at n (positions s) c + cond (is_get c e) 1 0)
      (cond (is_put c e)
      (tokens_before n c (positions s (n.writer c))
      ++ tag (n.writer c) (pred (fires n (n.writer c) (positions s (n.writer c)))) ∷ [])
      (tokens_before n c (positions s (n.writer c)))))
  named_queue s p (Get d slot) c h named is m =
      let g = gets_at n (positions s) c in
      let ts = tokens_before n c (positions s (n.writer c)) in
      elim (cases_Bool (eqb c d)) [
        | inl t ↦ rw (t, named.queues c) (drop-map v 1 (drop g ts) ∙ ap (map v) (drop-drop 1 g ts))
        | inr f ↦ rw (f, add-zero g) (named.queues c)
      ]
  named_queue s p (Fire refs) c h named is m = rw (add-zero (gets_at n (positions s) c)) (named.queues c)
  named_queue s p (Put d) c h named is m =
      let g = gets_at n (positions s) c in
      let w = n.writer c in
      let ts = tokens_before n c (positions s w) in
      let new = tag w (pred (fires n w (positions s w))) in
      elim (cases_Bool (eqb c d)) [
        | inl t ↦
            let here : w ≡ p = put_writer n wired p (positions s p) c (Put d) is t in
            let low : g ≤ length ts = omega (arith, h.queues c, tokens_length n c (positions s w)) in
            let some : 0 < fires n p (positions s p) = put_fired n wired p (positions s p) c (Put d) is t in
            let last : last_of (s.local p).kept ≡ v new ∷ [] =
            ap last_of ((named.locals p).kept) ∙ last_fired v p (fires n p (positions s p)) some ∙ rw here refl in
            rw (
              t,
              add-zero g,
              drop-append-le g ts (new ∷ []) low,
              map-append v (drop g ts) (new ∷ []),
              last,
              named.queues c,
            ) refl
        | inr f ↦ rw (f, add-zero g) (named.queues c)
      ]

  named_after : (s : State T) (p : ℕ) (e : Event) → IsCounted n s → IsNamed n v s → next n s p ≡ Some e
      → can_come n s (Some e) ≡ true → IsNamed n v (after_event rule s p (Some e))
  named_after s p e h named is m = record { locals = locals_at; queues = queues_at } where
    locals_at : (q : ℕ) → IsLocalNamed n v q ((after_event rule s p (Some e)).local q)
    locals_at q =
        elim (cases_eq q p) [
          | inl same ↦
              let l : (after_event rule s p (Some e)).local q ≡ local_after rule p (s.local p) s.queue e =
              replaced_same s.local p (local_after rule p (s.local p) s.queue e) q same in
              rw (l, same) (named_local s p e h named is m)
          | inr d ↦
              let l : (after_event rule s p (Some e)).local q ≡ s.local q =
              replaced_other s.local p (local_after rule p (s.local p) s.queue e) q d in
              rw l (named.locals q)
        ]

    queues_at : (c : ℕ)
        → (after_event rule s p (Some e)).queue c
        ≡ map v (drop (gets_at n (positions (after_event rule s p (Some e))) c)
        (tokens_before n c (positions (after_event rule s p (Some e)) (n.writer c))))
    queues_at c =
        named_queue s p e c h named is m
        ∙ sym (ap (λ k. map v (drop (gets_at n k c) (tokens_before n c (k (n.writer c))))) (positions_after rule s p e)
        ∙ ap₂ (λ g ts. map v (drop g ts)) (gets_advanced n wired (positions s) p e c is)
        (tokens_advanced n wired (positions s) p e c is))

  named_step : (s : State T) (p : ℕ) (o : Option Event) → IsCounted n s → IsNamed n v s → next n s p ≡ o
      → can_come n s o ≡ true → IsNamed n v (after_event rule s p o)
  named_step s p None h named is m = named
  named_step s p (Some e) h named is m = named_after s p e h named is m

  -- from a state that holds the values of what it names, a run leads to such states
  pub named_run : (run : List ℕ) (s : State T) → IsCounted n s → IsNamed n v s → IsRun n rule s run
      → IsNamed n v (after n rule s run)
  named_run [] s h named is = named
  named_run (p ∷ run) s h named is =
      named_run run (step n rule s p) (counted_after_step n rule wired s p h is.0)
      (named_step s p (next n s p) h named refl is.0) is.1

map_nothing : {X T : Type 0} (v : X → T) (k : ℕ) → replicate k None ≡ map (option_map v) (replicate k None)
map_nothing v zero = refl
map_nothing v (suc k) = ap (λ xs. None ∷ xs) (map_nothing v k)

no_names : (n : Net) (k : ℕ) → name_slots n (replicate k None) ≡ replicate k None
no_names n zero = refl
no_names n (suc k) = ap (λ xs. None ∷ xs) (no_names n k)

pub start_named : {T : Type 0} (n : Net) (v : Tag → T) → IsNamed n v (start n)
start_named n v = record {
  locals =
      λ p. record {
        slots = map_nothing v (n.slots p) ∙ ap (map (option_map v)) (sym (no_names n (n.slots p)));
        kept =
            refl;
      };
  queues = λ c. refl;
}

-- at every state that a run reaches, each place holds the value of what it names
pub every_run_named : {T : Type 0} (n : Net) (rule : Rule T) (wired : IsWired n) (v : Tag → T) (run : List ℕ)
    → GivesValues n rule v → IsRun n rule (start n) run → IsNamed n v (after n rule (start n) run)
every_run_named n rule wired v run gives is =
    named_run n rule wired v gives run (start n) (start_counted n) (start_named n v) is

-- once ended, each process has kept the values of its fires
pub ended_kept : {T : Type 0} (n : Net) (rule : Rule T) (wired : IsWired n) (v : Tag → T) (run : List ℕ)
    → GivesValues n rule v → IsRun n rule (start n) run → HasEnded n (after n rule (start n) run)
    → (p : ℕ) → ((after n rule (start n) run).local p).kept ≡ fired v p (fires n p (length (n.script p)))
ended_kept n rule wired v run gives is ended p =
    ((every_run_named n rule wired v run gives is).locals p).kept ∙ ap (λ k. fired v p (fires n p k)) (ended p)

-- over tags, each slot holds the tag that it names
pub tags_named : (n : Net) (wired : IsWired n) (run : List ℕ) → IsRun n tags (start n) run → (p : ℕ)
    → ((after n tags (start n) run).local p).slots ≡ slot_names n p ((after n tags (start n) run).local p).position
tags_named n wired run is p =
    ((every_run_named n tags wired (λ t. t) run (λ q k refs at. refl) is).locals p).slots
    ∙ map-option_map_same (slot_names n p ((after n tags (start n) run).local p).position)
