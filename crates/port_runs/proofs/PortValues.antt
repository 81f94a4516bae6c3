-- Whatever the order of the ports, each place holds the value of what it names.
--
-- Gets and Puts of one channel, Gets of one slot and fires come in the script's order. So the events of a channel
-- that have come are the first of it, the slots name what they name in the script where just these Gets stand
-- (`come_gets`), and at a fire that may come they name what the script says there: all Gets before it have come
-- and none behind it (`operands_here`). The invariant is `HoldsSlotNames`: each slot, each kept value and each
-- queue is the list of the values of the tags that it names. A Get keeps it since two Gets that fill different
-- slots may change places (`set_swap`). That events come at all isn't a matter of this file.
use Rattle.std.proofs.Common.{◌≡◌, ℕ, zero, suc, pred, ◌+◌, ◌<◌, ◌≤◌, Bool, true, false, cond, eqb, Option, Some, None, List}
use Rattle.std.proofs.Common.{[], ◌∷◌, ◌++◌, length, map, take, drop, slice_get, slice_set, replicate, count_by, option_map}
use Rattle.std.proofs.Common.{ap, ap₂, sym, subst, ◌∙◌, refl, inl, inr, arith, ltb-true, eq-eqb, eqb-true}
use Rattle.std.specs.Option.{option_and_then}
use Rattle.std.proofs.lemmas.Bool.{both_ways, cases_Bool, cases_eq, cases_lt, cond-true, cond-false, or_right}
use Rattle.std.proofs.lemmas.List.{drop-append-le, map-set, map-append, drop-map, drop-drop}
use Rattle.std.proofs.lemmas.Option.{slice_get_within}
use Rattle.sanlp.specs.declared.nest.Tag.{Tag}
use Rattle.net_core.specs.declared.network.Event.{Event}
use Rattle.net_core.specs.declared.network.Event.TheVariants.{Get, Fire, Put}
use Rattle.net_core.specs.Machine.{Net, Local, Rule, State, can_come, front, last_of, local_after, queue_after}
use Rattle.net_core.specs.Names.{GivesValues, fired, latest_gets, slot_names, tag, token_at, tokens, tokens_before, with_get}
use Rattle.net_core.specs.Names.{with_token}
use Rattle.net_core.specs.Shape.{is_fire, is_get, is_put, IsWired, fires}
use Rattle.net_core.proofs.PlaceValues.{front_map_drop, last_fired, token_full, tokens_length}
use Rattle.net_core.proofs.Positions.{put_fired}
use Rattle.plain_data.proofs.Lists.{slice_get_push_at, take-suc_some}
use Rattle.port_runs.specs.Ports.{AllHaveCome, IsPortRun, EventPlace, PortState, port_after}
use Rattle.port_runs.specs.Ports.{port_reached, port_start, port_step, with_place}
use Rattle.port_runs.specs.PortNames.{HoldsNames, gets_so_far, event_count, puts_so_far}
use Rattle.port_runs.proofs.ComeCounts.{count_front, count_zero}
use Rattle.port_runs.proofs.DueEvents.{due_before, fire_after, fire_before, gets_depend, place_apart, place_here, place_other}
use Rattle.port_runs.proofs.DueEvents.{puts_depend}
use Rattle.port_runs.proofs.PortSteps.{Coming, IsOrdered, coming, fires_here, gets_more, made_here, made_more, made_same}
use Rattle.port_runs.proofs.PortSteps.{puts_more, run_after}
use Rattle.port_runs.proofs.PortCounts.{PortCounted, counted_step, local_here, local_there, port_counted, start_counted}

-- Lists

set_swap : {X : Type 0} (xs : List X) (i j : ℕ) (x y : X) → (j ≡ i → ⊥)
    → slice_set (slice_set xs i x) j y ≡ slice_set (slice_set xs j y) i x
set_swap [] i j x y d = refl
set_swap (a ∷ xs) zero zero x y d = absurd (d refl)
set_swap (a ∷ xs) zero (suc j) x y d = refl
set_swap (a ∷ xs) (suc i) zero x y d = refl
set_swap (a ∷ xs) (suc i) (suc j) x y d =
    ap (λ zs. a ∷ zs) (set_swap xs i j x y (λ same. d (ap suc same)))

get_take : {X : Type 0} (xs : List X) (k i : ℕ) → i < k → slice_get (take k xs) i ≡ slice_get xs i
get_take xs zero i lt = absurd (omega arith)
get_take [] (suc k) i lt = refl
get_take (x ∷ xs) (suc k) zero lt = refl
get_take (x ∷ xs) (suc k) (suc i) lt = get_take xs k i (omega arith)

-- What the slots name

-- for each slot its latest Get among the first so many places of a script that have come
pub come_gets : Net → ℕ → (ℕ → Bool) → ℕ → List (Option (ℕ × ℕ))
come_gets n p come zero = replicate (n.slots p) None
come_gets n p come (suc k) =
    cond (come k) (with_get n p k (slice_get (n.script p) k) (come_gets n p come k)) (come_gets n p come k)

abbrev pub come_names : Net → ℕ → (ℕ → Bool) → List (Option Tag)
come_names n p come = map (option_and_then (token_at n)) (come_gets n p come (length (n.script p)))

module _ (n : Net) (p : ℕ) (come : ℕ → Bool) where
  gets_front : (k : ℕ)
      → ((j c slot : ℕ) → j < k → slice_get (n.script p) j ≡ Some (Get c slot) → come j ≡ true)
      → come_gets n p come k ≡ latest_gets n p k
  unfolding come_gets
  gets_front zero all = refl
  gets_front (suc k) all =
      more (slice_get (n.script p) k) refl (gets_front k (λ j c slot lt is. all j c slot (omega arith) is))
    where
      same : (xs ys : List (Option (ℕ × ℕ))) → xs ≡ ys → cond (come k) xs xs ≡ ys
      same xs ys e = elim (cases_Bool (come k)) [ inl on ↦ rw on e | inr off ↦ rw off e ]

      more : (o : Option Event) → slice_get (n.script p) k ≡ o → come_gets n p come k ≡ latest_gets n p k
          → cond (come k) (with_get n p k o (come_gets n p come k)) (come_gets n p come k)
          ≡ with_get n p k o (latest_gets n p k)
      more None is before = same (come_gets n p come k) (latest_gets n p k) before
      more (Some (Get c slot)) is before =
          rw (all k c slot (omega arith) is) (ap (with_get n p k (Some (Get c slot))) before)
      more (Some (Fire refs)) is before = same (come_gets n p come k) (latest_gets n p k) before
      more (Some (Put c)) is before = same (come_gets n p come k) (latest_gets n p k) before

  gets_past : (k m : ℕ) → k ≤ m
      → ((j c slot : ℕ) → k ≤ j → slice_get (n.script p) j ≡ Some (Get c slot) → come j ≡ false)
      → come_gets n p come m ≡ come_gets n p come k
  unfolding come_gets
  gets_past k zero le none = let same : zero ≡ k = omega arith in ap (come_gets n p come) same
  gets_past k (suc m) le none =
      elim (cases_lt m k) [
        | inl lt ↦ let same : suc m ≡ k = omega arith in ap (come_gets n p come) same
        | inr ge ↦ last (slice_get (n.script p) m) refl ge ∙ gets_past k m ge none
      ]
    where
      same : (xs : List (Option (ℕ × ℕ))) → cond (come m) xs xs ≡ xs
      same xs = elim (cases_Bool (come m)) [ inl on ↦ rw on refl | inr off ↦ rw off refl ]

      last : (o : Option Event) → slice_get (n.script p) m ≡ o → k ≤ m
          → cond (come m) (with_get n p m o (come_gets n p come m)) (come_gets n p come m) ≡ come_gets n p come m
      last None is ge = same (come_gets n p come m)
      last (Some (Get c slot)) is ge = rw (none m c slot ge is) refl
      last (Some (Fire refs)) is ge = same (come_gets n p come m)
      last (Some (Put c)) is ge = same (come_gets n p come m)

  -- after one event more
  module _ (later : ℕ → Bool) (k : ℕ) (e : Event) (is : slice_get (n.script p) k ≡ Some e) (new : come k ≡ false)
      (here : (j : ℕ) → j ≡ k → later j ≡ true) (there : (j : ℕ) → (j ≡ k → ⊥) → later j ≡ come j) where
    -- a place that isn't the event's
    elsewhere : (m : ℕ) (xs ys : List (Option (ℕ × ℕ))) → (m ≡ k → ⊥)
        → cond (later m) xs ys ≡ cond (come m) xs ys
    elsewhere m xs ys d = ap (λ (b : Bool). cond b xs ys) (there m d)

    -- an event that fills no slot
    gets_kept : ((xs : List (Option (ℕ × ℕ))) → with_get n p k (Some e) xs ≡ xs) → (m : ℕ)
        → come_gets n p later m ≡ come_gets n p come m
    unfolding come_gets
    gets_kept fills zero = refl
    gets_kept fills (suc m) =
        let xs = come_gets n p come m in
        let o = slice_get (n.script p) m in
        ap (λ zs. cond (later m) (with_get n p m o zs) zs) (gets_kept fills m)
        ∙ elim (cases_eq m k) [
          | inl same ↦
              let full : with_get n p m o xs ≡ xs =
              ap (λ i. with_get n p i (slice_get (n.script p) i) xs) same ∙ ap (λ a. with_get n p k a xs) is
              ∙ fills xs in
              cond-true (later m) (with_get n p m o xs) xs (here m same)
              ∙ full
              ∙ sym (cond-false (come m) (with_get n p m o xs) xs (ap come same ∙ new))
          | inr d ↦ elsewhere m (with_get n p m o xs) xs d
        ]

    gets_below : (m : ℕ) → m ≤ k → come_gets n p later m ≡ come_gets n p come m
    unfolding come_gets
    gets_below zero le = refl
    gets_below (suc m) le =
        let o = slice_get (n.script p) m in
        let other : m ≡ k → ⊥ = λ same. omega arith in
        ap (λ zs. cond (later m) (with_get n p m o zs) zs) (gets_below m (omega arith))
        ∙ elsewhere m (with_get n p m o (come_gets n p come m)) (come_gets n p come m) other

    -- a Get, where none behind it that has come fills its slot
    module _ (c slot : ℕ) (get : e ≡ Get c slot)
        (free : (j d other : ℕ) → k < j → slice_get (n.script p) j ≡ Some (Get d other) → come j ≡ true
        → other ≡ slot → ⊥) where
      abbrev name : Option (ℕ × ℕ)
      name = Some (c, count_by (is_get c) (take k (n.script p)))

      gets_filled : (m : ℕ) → k < m → come_gets n p later m ≡ slice_set (come_gets n p come m) slot name
      unfolding come_gets
      gets_filled zero lt = absurd (omega arith)
      gets_filled (suc m) lt =
          elim (cases_eq m k) [
            | inl same ↦
                let xs = come_gets n p later m in
                let o = slice_get (n.script p) m in
                let full : with_get n p m o xs ≡ slice_set xs slot name =
                ap (λ i. with_get n p i (slice_get (n.script p) i) xs) same ∙ ap (λ a. with_get n p k a xs) is
                ∙ ap (λ (f : Event). with_get n p k (Some f) xs) get in
                cond-true (later m) (with_get n p m o xs) xs (here m same)
                ∙ full
                ∙ ap (λ zs. slice_set zs slot name) (gets_below m (omega arith))
                ∙ ap (λ zs. slice_set zs slot name)
                (sym (cond-false (come m) (with_get n p m o (come_gets n p come m)) (come_gets n p come m)
                (ap come same ∙ new)))
            | inr d ↦
                let past : k < m = above m lt d in
                elsewhere m (with_get n p m (slice_get (n.script p) m) (come_gets n p later m))
                (come_gets n p later m) d
                ∙ ap (λ zs. cond (come m) (with_get n p m (slice_get (n.script p) m) zs) zs) (gets_filled m past)
                ∙ elim (cases_Bool (come m)) [
                  | inl on ↦ rw on (filled (slice_get (n.script p) m) refl on past)
                  | inr off ↦ rw off refl
                ]
          ]
        where
          above : (m : ℕ) → k < suc m → (m ≡ k → ⊥) → k < m
          above m lt d = elim (cases_lt k m) [ inl low ↦ low | inr high ↦ absurd (d (omega arith)) ]

          filled : (o : Option Event) → slice_get (n.script p) m ≡ o → come m ≡ true → k < m
              → with_get n p m o (slice_set (come_gets n p come m) slot name)
              ≡ slice_set (with_get n p m o (come_gets n p come m)) slot name
          filled None at on past = refl
          filled (Some (Get d other)) at on past =
              set_swap (come_gets n p come m) slot other name (Some (d, count_by (is_get d) (take m (n.script p))))
              (free m d other past at on)
          filled (Some (Fire refs)) at on past = refl
          filled (Some (Put d)) at on past = refl

-- at a fire that may come the slots name what they name there in the script
operands_here : {T : Type 0} (n : Net) (s : PortState T) (p k : ℕ) → IsOrdered n s.has_come → (c : Coming n s p k)
    → is_fire c.event ≡ true
    → come_gets n p (s.has_come p) (length (n.script p)) ≡ latest_gets n p k
operands_here n s p k ordered c fire =
    let inside = slice_get_within (n.script p) k c.event c.is in
    gets_past n p (s.has_come p) k (length (n.script p)) (omega arith) none
    ∙ gets_front n p (s.has_come p) k
    (λ j d slot lt is.
    due_before (n.script p) (s.has_come p) c.event k c.due j (Get d slot) lt is (fire_before c.event (Get d slot) fire))
  where
    not_yet : (b : Bool) → (b ≡ true → ⊥) → b ≡ false
    not_yet b d = elim (cases_Bool b) [ inl on ↦ absurd (d on) | inr off ↦ off ]

    none : (j d slot : ℕ) → k ≤ j → slice_get (n.script p) j ≡ Some (Get d slot) → s.has_come p j ≡ false
    none j d slot ge is =
        not_yet (s.has_come p j)
        (λ came.
        elim (cases_lt k j) [
          | inl lt ↦
              both_ways (s.has_come p k) c.new
              (ordered p j k (Get d slot) c.event is c.is lt (fire_after (Get d slot) c.event fire) came)
          | inr le ↦
              let same : j ≡ k = omega arith in
              both_ways (s.has_come p k) c.new (ap (s.has_come p) (sym same) ∙ came)
        ])

-- the token that a Put puts
put_token : (n : Net) (c k : ℕ) → slice_get (n.script (n.writer c)) k ≡ Some (Put c)
    → slice_get (tokens n c) (count_by (is_put c) (take k (n.script (n.writer c))))
    ≡ Some (tag (n.writer c) (pred (fires n (n.writer c) k)))
put_token n c k is =
    let m = count_by (is_put c) (take k (n.script (n.writer c))) in
    let before = tokens_before n c k in
    let new = tag (n.writer c) (pred (fires n (n.writer c) k)) in
    let more : tokens_before n c (suc k) ≡ before ++ new ∷ [] =
    ap (λ o. with_token n c k o before) is ∙ cond-true (eqb c c) (before ++ new ∷ []) before (eq-eqb c c refl) in
    let there : slice_get (tokens_before n c (suc k)) m ≡ Some new =
    ap (λ (ts : List Tag). slice_get ts m) more ∙ slice_get_push_at before new m (sym (tokens_length n c k)) in
    token_full n c (suc k) m (slice_get_within (tokens_before n c (suc k)) m new there) ∙ there

-- The values

pub record HoldsSlotNames {T : Type 0} (n : Net) (v : Tag → T) (s : PortState T) : Type 0 where
  pub slots : (p : ℕ) → (s.run.local p).slots ≡ map (option_map v) (come_names n p (s.has_come p))
  pub kept : (p : ℕ) → (s.run.local p).kept ≡ fired v p (event_count n s is_fire p)
  pub queues : (c : ℕ)
      → s.run.queue c ≡ map v (drop (gets_so_far n s c) (take (puts_so_far n s c) (tokens n c)))

module _ {T : Type 0} (n : Net) (rule : Rule T) (wired : IsWired n) (v : Tag → T) (gives : GivesValues n rule v)
    (s : PortState T) (p k : ℕ) (c : Coming n s p k) (h : PortCounted n s) (named : HoldsSlotNames n v s) where
  abbrev next : PortState T
  next = port_step n rule s (p, k)

  abbrev mine : Local T
  mine = s.run.local p

  event_is : (e : Event) → slice_get (n.script p) k ≡ Some e → c.event ≡ e
  event_is e is = let both : Some c.event ≡ Some e = sym c.is ∙ is in cc

  -- the operands of a fire
  slots_here : is_fire c.event ≡ true → mine.slots ≡ map (option_map v) (slot_names n p k)
  slots_here fire =
      named.slots p
      ∙ ap (λ gets. map (option_map v) (map (option_and_then (token_at n)) gets))
      (operands_here n s p k h.ordered c fire)

  -- the token of a Get
  front_here : (ch slot : ℕ) → slice_get (n.script p) k ≡ Some (Get ch slot)
      → front (s.run.queue ch) ≡ option_map v (token_at n (ch, count_by (is_get ch) (take k (n.script p))))
  front_here ch slot is =
      let same = event_is (Get ch slot) is in
      let own : is_get ch c.event ≡ true = ap (is_get ch) same ∙ eq-eqb ch ch refl in
      let r : n.reader ch ≡ p = wired.get_reader p k ch slot is in
      let m = count_by (is_get ch) (take k (n.script p)) in
      let got : event_count n s (is_get ch) p ≡ m =
      made_here n s p k (is_get ch) h.ordered c (λ f t. gets_depend ch c.event f own t)
      (λ f t. gets_depend ch f c.event t own) in
      let gets : gets_so_far n s ch ≡ m = ap (event_count n s (is_get ch)) r ∙ got in
      let may : can_come n s.run (Some (Get ch slot)) ≡ true =
      ap (λ (f : Event). can_come n s.run (Some f)) (sym same) ∙ c.can in
      let some : 0 < length (s.run.queue ch) = ltb-true _ _ may in
      let room : gets_so_far n s ch < puts_so_far n s ch = omega (arith, some, h.queues ch) in
      ap front (named.queues ch)
      ∙ front_map_drop v (gets_so_far n s ch) (take (puts_so_far n s ch) (tokens n ch))
      ∙ ap (option_map v)
      (get_take (tokens n ch) (puts_so_far n s ch) (gets_so_far n s ch) room ∙ ap (slice_get (tokens n ch)) gets)

  -- what process p has kept
  kept_after : (e : Event) → slice_get (n.script p) k ≡ Some e
      → (f : ℕ) → f ≡ event_count n s is_fire p + cond (is_fire e) 1 0
      → (local_after rule p mine s.run.queue e).kept ≡ fired v p f
  kept_after (Get ch slot) is f more =
      let same : event_count n s is_fire p ≡ f = omega (arith, more) in
      named.kept p ∙ ap (fired v p) same
  kept_after (Fire refs) is f more =
      let turn = event_count n s is_fire p in
      let fire : is_fire c.event ≡ true = ap is_fire (event_is (Fire refs) is) in
      let here : turn ≡ fires n p k = fires_here n s p k h.ordered c in
      let value : rule p (length mine.kept) refs mine.slots ≡ v (tag p turn) =
      ap₂ (λ i xs. rule p i refs xs) (h.kept p ∙ here) (slots_here fire) ∙ gives p k refs is
      ∙ ap (λ i. v (tag p i)) (sym here) in
      let last : suc turn ≡ f = omega (arith, more) in
      ap₂ (λ xs y. xs ++ y ∷ []) (named.kept p) value ∙ ap (fired v p) last
  kept_after (Put ch) is f more =
      let same : event_count n s is_fire p ≡ f = omega (arith, more) in
      named.kept p ∙ ap (fired v p) same

  -- what its slots hold
  slots_after : (e : Event) → slice_get (n.script p) k ≡ Some e
      → (local_after rule p mine s.run.queue e).slots
      ≡ map (option_map v) (come_names n p (with_place s.has_come (p, k) p))
  slots_after (Get ch slot) is =
      let same = event_is (Get ch slot) is in
      let gets = come_gets n p (s.has_come p) (length (n.script p)) in
      let name : ℕ × ℕ = (ch, count_by (is_get ch) (take k (n.script p))) in
      let grown : come_gets n p (with_place s.has_come (p, k) p) (length (n.script p)) ≡ slice_set gets slot
      (Some name) =
      gets_filled n p (s.has_come p) (with_place s.has_come (p, k) p) k c.event c.is c.new
      (λ j e. place_here s.has_come p k p j refl e) (λ j d. place_other s.has_come p k p j (λ _ e. d e)) ch slot same
      (λ j d other lt at came e.
      both_ways (s.has_come p k) c.new
      (h.ordered p j k (Get d other) (Get ch slot) at is lt (or_right (eqb d ch) (eqb other slot) (eq-eqb other slot e))
      came)) (length (n.script p)) (slice_get_within (n.script p) k (Get ch slot) is) in
      ap₂ (λ xs y. slice_set xs slot y) (named.slots p) (front_here ch slot is)
      ∙ sym (map-set (option_map v) (map (option_and_then (token_at n)) gets) slot (token_at n name))
      ∙ ap (map (option_map v))
      (sym (ap (map (option_and_then (token_at n))) grown ∙ map-set (option_and_then (token_at n)) gets slot
      (Some name)))
  slots_after (Fire refs) is =
      named.slots p
      ∙ ap (λ gets. map (option_map v) (map (option_and_then (token_at n)) gets))
      (sym (gets_kept n p (s.has_come p) (with_place s.has_come (p, k) p) k (Fire refs) is c.new
      (λ j e. place_here s.has_come p k p j refl e) (λ j d. place_other s.has_come p k p j (λ _ e. d e)) (λ xs. refl)
      (length (n.script p))))
  slots_after (Put ch) is =
      named.slots p
      ∙ ap (λ gets. map (option_map v) (map (option_and_then (token_at n)) gets))
      (sym (gets_kept n p (s.has_come p) (with_place s.has_come (p, k) p) k (Put ch) is c.new
      (λ j e. place_here s.has_come p k p j refl e) (λ j d. place_other s.has_come p k p j (λ _ e. d e)) (λ xs. refl)
      (length (n.script p))))

  -- the token of a Put
  put_here : (ch : ℕ) → slice_get (n.script p) k ≡ Some (Put ch)
      → (slice_get (tokens n ch) (puts_so_far n s ch) ≡ Some (tag p (pred (fires n p k))))
      × (last_of mine.kept ≡ v (tag p (pred (fires n p k))) ∷ [])
  put_here ch is =
      let same = event_is (Put ch) is in
      let own : is_put ch c.event ≡ true = ap (is_put ch) same ∙ eq-eqb ch ch refl in
      let r : n.writer ch ≡ p = wired.put_writer p k ch is in
      let put : event_count n s (is_put ch) p ≡ count_by (is_put ch) (take k (n.script p)) =
      made_here n s p k (is_put ch) h.ordered c (λ f t. puts_depend ch c.event f own t)
      (λ f t. puts_depend ch f c.event t own) in
      let at : slice_get (n.script (n.writer ch)) k ≡ Some (Put ch) = ap (λ q. slice_get (n.script q) k) r ∙ is in
      let token = put_token n ch k at in
      let here : event_count n s is_fire p ≡ fires n p k = fires_here n s p k h.ordered c in
      let some : 0 < fires n p k = put_fired n wired p k ch c.event c.is own in (
        ap (slice_get (tokens n ch)) (ap (event_count n s (is_put ch)) r ∙ put)
            ∙ subst (λ q. slice_get (tokens n ch) (count_by (is_put ch) (take k (n.script q)))
            ≡ Some (tag q (pred (fires n q k)))) r token,
        ap last_of (named.kept p ∙ ap (fired v p) here) ∙ last_fired v p (fires n p k) some,
      )

  -- a queue
  queue_named : (e : Event) → slice_get (n.script p) k ≡ Some e → (ch g u : ℕ)
      → g ≡ gets_so_far n s ch + cond (is_get ch e) 1 0
      → u ≡ puts_so_far n s ch + cond (is_put ch e) 1 0
      → queue_after mine.kept e ch (s.run.queue ch) ≡ map v (drop g (take u (tokens n ch)))
  queue_named (Get d slot) is ch g u gs us =
      let before = take (puts_so_far n s ch) (tokens n ch) in
      let puts : u ≡ puts_so_far n s ch = omega (arith, us) in
      elim (cases_Bool (eqb ch d)) [
        | inl t ↦
            let gets : g ≡ gets_so_far n s ch + 1 = omega (arith, gs, cond-true {A = ℕ} (eqb ch d) 1 0 t) in
            rw (t, gets, puts, named.queues ch)
            (drop-map v 1 (drop (gets_so_far n s ch) before) ∙ ap (map v) (drop-drop 1 (gets_so_far n s ch) before))
        | inr f ↦
            let gets : g ≡ gets_so_far n s ch = omega (arith, gs, cond-false {A = ℕ} (eqb ch d) 1 0 f) in
            rw (f, gets, puts) (named.queues ch)
      ]
  queue_named (Fire refs) is ch g u gs us =
      let gets : g ≡ gets_so_far n s ch = omega (arith, gs) in
      let puts : u ≡ puts_so_far n s ch = omega (arith, us) in
      rw (gets, puts) (named.queues ch)
  queue_named (Put d) is ch g u gs us =
      let gets : g ≡ gets_so_far n s ch = omega (arith, gs) in
      elim (cases_Bool (eqb ch d)) [
        | inl t ↦
            let here : d ≡ ch = sym (eqb-true ch d t) in
            let at : slice_get (n.script p) k ≡ Some (Put ch) = is ∙ ap (λ i. Some (Put i)) here in
            let new = tag p (pred (fires n p k)) in
            let both = put_here ch at in
            let puts : u ≡ suc (puts_so_far n s ch) = omega (arith, us, cond-true {A = ℕ} (eqb ch d) 1 0 t) in
            let before = take (puts_so_far n s ch) (tokens n ch) in
            let room = slice_get_within (tokens n ch) (puts_so_far n s ch) new both.0 in
            let long : length before ≡ puts_so_far n s ch =
            taken (puts_so_far n s ch) (tokens n ch) (omega (arith, room)) in
            let low : gets_so_far n s ch ≤ length before = omega (arith, long, h.queues ch) in
            rw (
              t,
              gets,
              puts,
              take-suc_some (tokens n ch) (puts_so_far n s ch) new both.0,
              drop-append-le (gets_so_far n s ch) before (new ∷ []) low,
              map-append v (drop (gets_so_far n s ch) before) (new ∷ []),
              both.1,
              named.queues ch,
            ) refl
        | inr f ↦
            let puts : u ≡ puts_so_far n s ch = omega (arith, us, cond-false {A = ℕ} (eqb ch d) 1 0 f) in
            rw (f, gets, puts) (named.queues ch)
      ]
    where
      taken : {X : Type 0} (m : ℕ) (xs : List X) → m ≤ length xs → length (take m xs) ≡ m
      taken zero xs le = refl
      taken (suc m) [] le = absurd (omega arith)
      taken (suc m) (x ∷ xs) le = ap suc (taken m xs (omega arith))

  pub named_step : HoldsSlotNames n v next
  named_step = record {
    slots = λ q.
        elim (cases_eq q p) [
          | inl same ↦
              ap (λ (l : Local T). l.slots) (local_here n rule wired s p k c h q same) ∙ slots_after c.event c.is
              ∙ ap (λ r. map (option_map v) (come_names n r (with_place s.has_come (p, k) r))) (sym same)
          | inr d ↦
              ap (λ (l : Local T). l.slots) (local_there n rule wired s p k c h q d) ∙ named.slots q
              ∙ ap (λ come. map (option_map v) (come_names n q come)) (sym (place_apart s.has_come p k q d))
        ];
    kept = λ q.
        elim (cases_eq q p) [
          | inl same ↦
              ap (λ (l : Local T). l.kept) (local_here n rule wired s p k c h q same)
              ∙ kept_after c.event c.is (event_count n next is_fire p) (made_more n rule s p k c is_fire)
              ∙ ap (λ r. fired v r (event_count n next is_fire r)) (sym same)
          | inr d ↦
              ap (λ (l : Local T). l.kept) (local_there n rule wired s p k c h q d) ∙ named.kept q
              ∙ ap (fired v q) (sym (made_same n rule s p k c is_fire q d))
        ];
    queues = λ ch.
        ap (λ (t : State T). t.queue ch) (run_after n rule s p k c)
        ∙ queue_named c.event c.is ch (gets_so_far n next ch) (puts_so_far n next ch)
        (gets_more n rule s p k c wired ch)
        (puts_more n rule s p k c wired ch);
  }

-- Runs

module _ {T : Type 0} (n : Net) (v : Tag → T) where
  come_none : (p m : ℕ) → come_gets n p (λ k. false) m ≡ replicate (n.slots p) None
  unfolding come_gets
  come_none p zero = refl
  come_none p (suc m) = come_none p m

  no_values : (m : ℕ)
      → replicate {A = Option T} m None
      ≡ map (option_map v) (map (option_and_then (token_at n)) (replicate m None))
  no_values zero = refl
  no_values (suc m) = ap (λ xs. None ∷ xs) (no_values m)

  start_named : HoldsSlotNames n v (port_start n)
  start_named = record {
    slots = λ p.
        no_values (n.slots p)
        ∙ ap (λ gets. map (option_map v) (map (option_and_then (token_at n)) gets)) (sym (come_none p (length
        (n.script p))));
    kept = λ p. ap (fired v p) (sym (count_zero is_fire (n.script p) (length (n.script p))));
    queues = λ c.
        let gets = count_zero (is_get c) (n.script (n.reader c)) (length (n.script (n.reader c))) in
        let puts = count_zero (is_put c) (n.script (n.writer c)) (length (n.script (n.writer c))) in
        sym (ap₂ (λ g u. map v (drop g (take u (tokens n c)))) gets puts);
  }

module _ {T : Type 0} (n : Net) (rule : Rule T) (wired : IsWired n) (v : Tag → T) (gives : GivesValues n rule v) where
  named_run : (run : List EventPlace) (s : PortState T) → PortCounted n s → HoldsSlotNames n v s
      → IsPortRun n rule s run
      → HoldsSlotNames n v (port_after n rule s run)
  named_run [] s h named is = named
  named_run (at ∷ run) s h named is =
      let c = coming n s at.0 at.1 is.0 in
      named_run run (port_step n rule s at) (counted_step n rule wired s at.0 at.1 c h)
      (named_step n rule wired v gives s at.0 at.1 c h named) is.1

  module _ (run : List EventPlace) (is : IsPortRun n rule (port_start n) run) where
    abbrev last : PortState T
    last = port_reached n rule run

    counted_last : PortCounted n last
    counted_last = port_counted n rule wired run (port_start n) (start_counted n) is

    named_last : HoldsSlotNames n v last
    named_last = named_run run (port_start n) (start_counted n) (start_named n v) is

    pub ports_named : HoldsNames n v last
    ports_named = record {
      operands = λ p k refs event on.
          let c = coming n last p k on in
          let both : Some c.event ≡ Some (Fire refs) = sym c.is ∙ event in
          let same : c.event ≡ Fire refs = cc in (
            slots_here n rule wired v gives last p k c counted_last named_last (ap is_fire same),
            counted_last.kept p ∙ fires_here n last p k counted_last.ordered c,
          );
      kept = named_last.kept;
      queues = named_last.queues;
    }

    pub all_kept : AllHaveCome n last → (p : ℕ)
        → (last.run.local p).kept ≡ fired v p (fires n p (length (n.script p)))
    all_kept all p =
        named_last.kept p
        ∙ ap (fired v p)
        (count_front is_fire (last.has_come p) (n.script p) (length (n.script p)) (λ j e lt at fire. all p j lt))
