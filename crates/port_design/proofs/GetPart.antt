-- The Gets of an edge are those of the clock.
--
-- A Get comes in the clock, once the Fires have, where its channel had a token and all on which it depends have
-- come: the Fires and the Gets of its channel before it, so it is next at its port, and the port is free and asks
-- for its slot (`get_comes`). Where a port asks for a token that is there, its next event is that Get
-- (`get_found`). This depends too on Gets of other channels into the same slot: those with a Fire between have
-- come with that Fire, and without one there are none, since channels keep their slots apart. So each slot is
-- filled by one Get at most (`slots_filled`). It isn't said here what a slot is good for.
use Rattle.std.proofs.Common.{◌≡◌, ◌⊎◌, ℕ, zero, suc, ◌+◌, ◌-◌, ◌<◌, ◌≤◌, Bool, true, false, cond, eqb, is_some}
use Rattle.std.proofs.Common.{nat_lt, Option, Some, None, List, [], ◌∷◌, ◌++◌, length, drop, take, slice_get, slice_set}
use Rattle.std.proofs.Common.{count_by, option_map, get_or, ap, ap₂, sym, subst, ◌∙◌, refl, inl, inr, arith, eq-eqb, eqb-true, ltb-true, lt-ltb}
use Rattle.std.proofs.Common.{append-nil, length-append}
use Rattle.std.specs.Prelude.{find}
use Rattle.std.specs.Option.{option_map_or}
use Rattle.std.proofs.lemmas.Bool.{and_from, and_parts, both_ways, cases_Bool, cases_eq, cases_lt, cond-false, false_from_ne_true}
use Rattle.std.proofs.lemmas.Bool.{or_cases, or_left}
use Rattle.std.proofs.lemmas.List.{length-set}
use Rattle.std.proofs.lemmas.List.FromFn.{length-map-range_with_len}
use Rattle.std.proofs.lemmas.Option.{slice_get-get_or}
use Rattle.net_core.specs.declared.refs.Ref.{Ref}
use Rattle.net_core.specs.declared.network.Event.{Event}
use Rattle.net_core.specs.declared.network.Event.TheVariants.{Get, Fire, Put}
use Rattle.net_core.specs.Machine.{Net, Local, Rule, State, after_event, front, last_of, queue_after}
use Rattle.net_core.specs.Shape.{is_any_get, is_fire, is_get, is_put, IsWired}
use Rattle.net_core.proofs.EventCounts.{count_next, count_none, replaced_other, replaced_same}
use Rattle.net_core.proofs.TwoSteps.{front_append}
use Rattle.plain_data.proofs.Lists.{slice_get-set_other}
use Rattle.sanlp.proofs.Lists.{slice_get-map-range_with_len}
use Rattle.port_items.specs.declared.items.GetItem.{GetItem}
use Rattle.port_items.specs.Items.{begins_with_fire, fire_if, get_items_before, only_fire, without_fire}
use Rattle.port_runs.specs.Ports.{EventPlace, PortState, are_dependent, may_come_at, port_step}
use Rattle.port_runs.proofs.DueEvents.{due_from}
use Rattle.port_runs.proofs.PortCounts.{PortCounted, port_counted}
use Rattle.port_runs.proofs.PortSteps.{Coming, coming, fires_here, run_after}
use Rattle.port_clocks.specs.PortClocks.{comes, fires_of_clock, gets_of_clock, is_any_put, puts_of_clock}
use Rattle.port_design.specs.Registers.{Controls, Design, asks, begins_behind_fire, channels_read, fills, get_at, gets, is_free}
use Rattle.port_design.specs.Registers.{is_valid, slot_after, slot_asked, slots_after, puts}
use Rattle.port_design.specs.Clocked.{HasPassed, HasSlotsApart, StandsFor, gets_from, is_get_or_fire}
use Rattle.port_design.proofs.Ahead.{at_next, at_none, gets_skip}
use Rattle.port_design.proofs.Effects.{changed, still}
use Rattle.port_design.proofs.FirePart.{GetterBehind, after1, all, getter_behind, queue_kept, s2}
use Rattle.port_design.proofs.Fronts.{get_front, get_in, no_get_behind, seen_by_getter}
use Rattle.port_design.proofs.Given.{item_is}
use Rattle.port_design.proofs.Lists.{found, not_found, same_items, set_here}
use Rattle.port_design.proofs.Next.{behind, come_now, fire_is, get_needs, get_of, next_from, part_each, part_passes, part_run}
use Rattle.port_design.proofs.Next.{part_stays, test_can, test_coming, test_from, test_kind}
use Rattle.port_design.proofs.Places.{NextIs, find_next, next_one, one_event}
use Rattle.port_design.proofs.PutPart.{queue_grows, queue_other, queue_stays}

-- between two places of a script there is a Fire, or as many stand before both
abbrev Between : List Event → ℕ → ℕ → Type 0
Between script i a =
    (count_by is_fire (take a script) ≡ count_by is_fire (take i script))
    ⊎ ((h : ℕ) × (refs : List Ref) × (a ≤ h) × (h < i) × (slice_get script h ≡ Some (Fire refs)))

-- between two places there is a Fire, or the counts of those before them are the same
pub fire_between : (script : List Event) (m j i : ℕ) → j + m ≡ i
    → (count_by is_fire (take j script) ≡ count_by is_fire (take i script))
    ⊎ ((h : ℕ) × (refs : List Ref) × (j ≤ h) × (h < i) × (slice_get script h ≡ Some (Fire refs)))
fire_between script zero j i sum =
    let same : j ≡ i = omega arith in inl (ap (λ k. count_by is_fire (take k script)) same)
fire_between script (suc m) j i sum =
    by (slice_get script j) refl (fire_between script m (suc j) i (omega arith))
  where
    later : count_by is_fire (take (suc j) script) ≡ count_by is_fire (take j script) → Between script i (suc j)
        → Between script i j
    later same rest =
        elim rest [
          | inl e ↦ inl (sym same ∙ e)
          | inr x ↦ let low : j ≤ x.0 = omega (arith, x.2) in inr (x.0, x.1, low, x.3, x.4)
        ]

    by : (o : Option Event) → slice_get script j ≡ o → Between script i (suc j) → Between script i j
    by None is rest = later (count_none is_fire script j is) rest
    by (Some e) is rest =
        elim (cases_Bool (is_fire e)) [
          | inl on ↦
              let fire = fire_is e on in
              let low : j ≤ j = omega arith in
              let high : j < i = omega arith in
              inr (j, fire.0, low, high, is ∙ ap Some fire.1)
          | inr off ↦
              let none : cond {A = ℕ} (is_fire e) 1 0 ≡ 0 = cond-false (is_fire e) 1 0 off in
              later (omega (arith, count_next is_fire script j e is, none)) rest
        ]

pub slot_or : (b : Bool) (o : Option ℕ) (slot : ℕ) → cond b o None ≡ Some slot → (b ≡ true) × (o ≡ Some slot)
slot_or true o slot is = (refl, is)
slot_or false o slot is = absurd (cc)

pub some_of : (o : Option ℕ) → is_some o ≡ true → (x : ℕ) × (o ≡ Some x)
some_of None on = absurd (cc)
some_of (Some x) on = (x, refl)

slot_named : (o : Option ℕ) (slot : ℕ) → option_map_or (λ s. eqb s slot) o false ≡ true → o ≡ Some slot
slot_named None slot on = absurd (cc)
slot_named (Some s) slot on = ap Some (eqb-true s slot on)

-- What a Get changes

pub get_any : (e : Event) → is_any_get e ≡ true → (c : ℕ) × (slot : ℕ) × (e ≡ Get c slot)
get_any (Get c slot) t = (c, slot, refl)
get_any (Fire refs) t = absurd (cc)
get_any (Put c) t = absurd (cc)

no_put_in_get : (c : ℕ) (e : Event) → is_any_get e ≡ true → is_put c e ≡ false
no_put_in_get c (Get d slot) t = refl
no_put_in_get c (Fire refs) t = refl
no_put_in_get c (Put d) t = absurd (cc)

queue_get : {T : Type 0} (kept : List T) (c slot : ℕ) (queue : List T)
    → queue_after kept (Get c slot) c queue ≡ drop 1 queue
queue_get kept c slot queue = ap (λ b. cond b (drop 1 queue) queue) (eq-eqb c c refl)

module _ {T : Type 0} (rule : Rule T) (t : State T) (p q : ℕ) where
  get_elsewhere : (e : Event) → (q ≡ p → ⊥) → (after_event rule t p (Some e)).local q ≡ t.local q
  get_elsewhere e other = replaced_other t.local p _ q other

  get_here : (c slot : ℕ) → q ≡ p
      → ((after_event rule t p (Some (Get c slot))).local q).slots
      ≡ slice_set (t.local q).slots slot (front (t.queue c))
  get_here c slot same =
      ap (λ (l : Local T). l.slots) (replaced_same t.local p _ q same)
      ∙ ap (λ r. slice_set (t.local r).slots slot (front (t.queue c))) (sym same)

  get_kept : (c slot : ℕ) → ((after_event rule t p (Some (Get c slot))).local q).kept ≡ (t.local q).kept
  get_kept c slot =
      elim (cases_eq q p) [
        | inl same ↦
            ap (λ (l : Local T). l.kept) (replaced_same t.local p _ q same) ∙ ap (λ r. (t.local r).kept) (sym same)
        | inr other ↦ ap (λ (l : Local T). l.kept) (get_elsewhere (Get c slot) other)
      ]

module _ {T : Type 0} (n : Net) (controls : Controls) (rule : Rule T) (wired : IsWired n) (s : PortState T)
    (d : Design T) (stands : StandsFor n controls s d) (apart : HasSlotsApart n) (counted : PortCounted n s) where
  -- the state behind the fires
  abbrev pub after2 : PortState T
  after2 = s2 n controls rule wired s d stands

  abbrev pub get_test : EventPlace → Bool
  get_test = comes n is_any_get s after2

  counted2 : PortCounted n after2
  counted2 =
      port_counted n rule wired (fires_of_clock n rule s) (after1 n controls rule wired s d stands)
      (port_counted n rule wired (puts_of_clock n s) s counted (part_run n rule wired is_any_put s s))
      (part_run n rule wired is_fire s (after1 n controls rule wired s d stands))

  valid_is : (c : ℕ) → is_valid d c ≡ nat_lt 0 (length (s.run.queue c))
  valid_is c = ap (λ (q : List T). nat_lt 0 (length q)) (stands.queues c)

  -- what a queue has had at the beginning it has still in front
  queue2 : (c : ℕ) → (more : List T) × (after2.run.queue c ≡ s.run.queue c ++ more)
  queue2 c =
      let kept = queue_kept n controls rule wired s d stands c in
      elim (cases_Bool (puts n d c)) [
        | inl on ↦
            (last_of (s.run.local (n.writer c)).kept, kept ∙ queue_grows n controls rule wired s d stands c on)
        | inr off ↦ ([], kept ∙ queue_stays n controls rule wired s d stands c off ∙ sym (append-nil (s.run.queue c)))
      ]

  pub front2 : (c : ℕ) → is_valid d c ≡ true → front (after2.run.queue c) ≡ front (d.fifo c)
  front2 c valid =
      let more = queue2 c in
      let some = ltb-true _ _ (sym (valid_is c) ∙ valid) in
      ap front more.1 ∙ front_append (s.run.queue c) more.0 some ∙ ap front (sym (stands.queues c))

  still_valid : (c : ℕ) → is_valid d c ≡ true → nat_lt 0 (length (after2.run.queue c)) ≡ true
  still_valid c valid =
      let more = queue2 c in
      let some = ltb-true _ _ (sym (valid_is c) ∙ valid) in
      lt-ltb _ _ (omega (arith, ap length more.1, length-append (s.run.queue c) more.0))

  abbrev base : ℕ → List GetItem
  base c = fire_if (begins_behind_fire n c)

  abbrev at : (c : ℕ) → GetterBehind n controls rule wired s d stands c
  at c = getter_behind n controls rule wired s d stands c

  -- what is next at a port
  abbrev IsNext : ℕ → ℕ → Event → Type 0
  IsNext c k e = NextIs (is_get_or_fire c) (n.script (n.reader c)) (after2.has_come (n.reader c)) k e

  ahead_of : (c k : ℕ) (e : Event) → IsNext c k e
      → gets_from n c (at c).place ≡ get_items_before c (base c) (e ∷ drop (suc k) (n.script (n.reader c)))
  ahead_of c k e x =
      at_next (get_items_before c (base c)) (is_get_or_fire c) (gets_skip c (base c)) (n.script (n.reader c))
      (after2.has_come (n.reader c)) (at c).place k e (at c).passed x

  ahead_get : (c k slot : ℕ) → IsNext c k (Get c slot)
      → gets_from n c (at c).place
      ≡ record { get = Some slot; fire = begins_with_fire (gets_from n c (suc k)) } ∷ without_fire (gets_from n c (suc k))
  ahead_get c k slot x =
      ahead_of c k (Get c slot) x ∙ get_front c slot (base c) (drop (suc k) (n.script (n.reader c)))

  -- a Get that comes is next
  pub get_next : (c k : ℕ) (f : Event) → slice_get (n.script (n.reader c)) k ≡ Some f → is_get_or_fire c f ≡ true
      → get_test (n.reader c, k) ≡ true
      → (slot : ℕ) × (f ≡ Get c slot) × IsNext c k (Get c slot)
  get_next c k f is sees on =
      let r = n.reader c in
      let get = get_of c f sees (test_kind n rule wired is_any_get s after2 r k f on is) in
      let come = test_coming n rule wired is_any_get s after2 r k on in
      let same : come.event ≡ f = one_event (n.script r) k come.event f come.is is in
      let this : is_get c come.event ≡ true = ap (is_get c) (same ∙ get.1) ∙ eq-eqb c c refl in (
        get.0,
        get.1,
        subst (λ e. IsNext c k e) (same ∙ get.1)
            (next_from n after2 r k (is_get_or_fire c) come (ap (is_get_or_fire c) same ∙ sees)
            (λ g ong. get_needs c come.event g this ong)),
      )

  -- and its port asks for its slot
  pub get_comes : (c k slot : ℕ) → slice_get (n.script (n.reader c)) k ≡ Some (Get c slot)
      → get_test (n.reader c, k) ≡ true
      → (slot_asked n controls all d c ≡ Some slot) × (is_valid d c ≡ true)
  get_comes c k slot is on =
      let r = n.reader c in
      let sees : is_get_or_fire c (Get c slot) ≡ true = or_left (eqb c c) false (eq-eqb c c refl) in
      let x = get_next c k (Get c slot) is sees on in
      let same : Get c x.0 ≡ Get c slot = sym x.1 in
      let mine : IsNext c k (Get c slot) = subst (λ e. IsNext c k e) same x.2 in
      let ahead = ahead_get c k slot mine in
      let valid = valid_is c ∙ test_can n rule wired is_any_get s after2 r k (Get c slot) on is in
      elim (cases_Bool (is_free n controls all d c)) [
        | inl free ↦
            let item =
            item_is (controls.gets c) (d.getter c).control (gets_from n c (at c).place) ((at c).free free)
            ∙ ap (λ (items : List GetItem). slice_get items 0) ahead in
            (ap₂ (λ (b : Bool) (o : Option GetItem). cond b (get_in o) None) free item, valid)
        | inr held ↦
            let wrong : false ≡ true = sym (ap begins_with_fire ahead) ∙ ((at c).held held).0 in
            absurd (cc)
      ]

  -- what a port asks for and gets comes
  pub get_found : (c slot : ℕ) → slot_asked n controls all d c ≡ Some slot → is_valid d c ≡ true
      → (i : ℕ) × IsNext c i (Get c slot) × (get_test (n.reader c, i) ≡ true)
  get_found c slot asked valid =
      let parts = slot_or (is_free n controls all d c) (get_in (get_at controls d c)) slot asked in
      let first : get_in (slice_get (gets_from n c (at c).place) 0) ≡ Some slot =
      sym (ap get_in
      (item_is (controls.gets c) (d.getter c).control (gets_from n c (at c).place) ((at c).free parts.0)))
      ∙ parts.1 in
      elim (find_next (is_get_or_fire c) (n.script (n.reader c)) (after2.has_come (n.reader c)) (at c).place (at c).passed) [
        | inl x ↦
            elim (seen_by_getter c x.1 x.2.on) [
              | inl get ↦
                  let that = subst (λ e. IsNext c x.0 e) get.1 x.2 in
                  let slots : Some get.0 ≡ Some slot =
                  sym (ap (λ (items : List GetItem). get_in (slice_get items 0)) (ahead_get c x.0 get.0 that)) ∙ first in
                  let same : get.0 ≡ slot = cc in
                  let mine : IsNext c x.0 (Get c slot) = subst (λ u. IsNext c x.0 (Get c u)) same that in
                  let come : Coming n after2 (n.reader c) x.0 = record {
                    event = Get c slot;
                    is = mine.is;
                    new = mine.new;
                    due = due_from (n.script (n.reader c)) (after2.has_come (n.reader c)) (Get c slot) x.0
                        (λ j g lt is dep. before x.0 mine g j lt is dep);
                    can = still_valid c valid;
                  } in (
                    x.0,
                    mine,
                    test_from n rule wired is_any_get s after2 (n.reader c) x.0 come refl (sym (valid_is c) ∙ valid),
                  )
              | inr fire ↦
                  let that = subst (λ e. IsNext c x.0 e) fire.1 x.2 in
                  let wrong : None ≡ Some slot =
                  sym (ap (λ (items : List GetItem). get_in (slice_get items 0)) (ahead_of c x.0 (Fire fire.0) that))
                  ∙ first in
                  absurd (cc)
            ]
        | inr none ↦
            let end = at_none (get_items_before c (base c)) (is_get_or_fire c) (gets_skip c (base c)) (n.script (n.reader c))
            (at c).place none in
            let wrong : None ≡ Some slot =
            sym (no_get_behind (begins_behind_fire n c))
            ∙ sym (ap (λ (items : List GetItem). get_in (slice_get items 0)) end) ∙ first in
            absurd (cc)
      ]
    where
      before : (i : ℕ) → IsNext c i (Get c slot) → (g : Event) (j : ℕ) → j < i → slice_get (n.script (n.reader c)) j ≡ Some g
          → are_dependent (Get c slot) g ≡ true → after2.has_come (n.reader c) j ≡ true
      before i mine (Fire refs) j lt is dep = mine.before j (Fire refs) lt is refl
      before i mine (Put e) j lt is dep = absurd (cc)
      before i mine (Get e other) j lt is dep =
          elim (or_cases (eqb c e) (eqb slot other) dep) [
            | inl here ↦ mine.before j (Get e other) lt is (or_left (eqb c e) false here)
            | inr there ↦
                let same : slot ≡ other = eqb-true slot other there in
                let is' : slice_get (n.script (n.reader c)) j ≡ Some (Get e slot) = is ∙ ap (λ u. Some (Get e u)) (sym same) in
                elim (fire_between (n.script (n.reader c)) (i - j) j i (omega arith)) [
                  | inl counts ↦
                      let one : e ≡ c = apart (n.reader c) j i e c slot is' mine.is counts in
                      mine.before j (Get e other) lt is (or_left (eqb c e) false (eq-eqb c e (sym one)))
                  | inr x ↦
                      elim (cases_eq x.0 j) [
                        | inl this ↦
                            let wrong : Some (Fire x.1) ≡ Some (Get e other) =
                            sym x.4 ∙ ap (slice_get (n.script (n.reader c))) this ∙ is in
                            absurd (cc)
                        | inr past ↦
                            counted2.ordered (n.reader c) x.0 j (Fire x.1) (Get e other) x.4 is (beyond x.0 x.2 past) refl
                            (mine.before x.0 (Fire x.1) x.3 x.4 refl)
                      ]
                ]
          ]
        where
          beyond : (h : ℕ) → j ≤ h → (h ≡ j → ⊥) → j < h
          beyond h low past = elim (cases_lt j h) [ inl less ↦ less | inr more ↦ absurd (past (omega arith)) ]

  -- Behind the Gets

  abbrev pub s3 : PortState T
  s3 = behind n rule wired is_any_get s after2

  pub got_passed : (c slot : ℕ) → slot_asked n controls all d c ≡ Some slot → is_valid d c ≡ true
      → (i : ℕ) × HasPassed (is_get_or_fire c) (n.script (n.reader c)) (s3.has_come (n.reader c)) (suc i)
      × (gets_from n c (at c).place
      ≡ record { get = Some slot; fire = begins_with_fire (gets_from n c (suc i)) } ∷ without_fire (gets_from n c (suc i)))
  got_passed c slot asked valid =
      let x = get_found c slot asked valid in (
        x.0,
        part_passes n rule wired is_any_get s after2 (is_get_or_fire c) (n.reader c) (at c).place (at c).passed x.0
            (Get c slot) x.1 x.2
            (λ k f is sees on.
            let y = get_next c k f is sees on in
            subst (λ e. IsNext c k e) (sym y.1) y.2),
        ahead_get c x.0 slot x.1,
      )

  -- where a port gets nothing
  pub none_passed : (c : ℕ) → gets n controls all d c ≡ false
      → HasPassed (is_get_or_fire c) (n.script (n.reader c)) (s3.has_come (n.reader c)) (at c).place
  none_passed c off =
      part_stays n rule wired is_any_get s after2 (is_get_or_fire c) (n.reader c) (at c).place (at c).passed
      (λ k f is sees on.
      let y = get_next c k f is sees on in
      let z = get_comes c k y.0 (is ∙ ap Some y.1) on in
      both_ways (gets n controls all d c) off
      (and_from (asks n controls all d c) (is_valid d c) (ap (λ (o : Option ℕ). is_some o) z.0) z.1))

  -- what is in front of a port that is free
  pub front_items : (c : ℕ)
      → (gets_from n c (at c).place ≡ [])
      ⊎ (((items : List GetItem) × (gets_from n c (at c).place ≡ only_fire ∷ items))
      ⊎ ((slot : ℕ) × (fire : Bool) × (items : List GetItem)
      × (gets_from n c (at c).place ≡ record { get = Some slot; fire = fire } ∷ items)))
  front_items c =
      elim (find_next (is_get_or_fire c) (n.script (n.reader c)) (after2.has_come (n.reader c)) (at c).place (at c).passed) [
        | inl x ↦
            elim (seen_by_getter c x.1 x.2.on) [
              | inl get ↦
                  let that = subst (λ e. IsNext c x.0 e) get.1 x.2 in
                  inr (inr (
                    get.0,
                    begins_with_fire (gets_from n c (suc x.0)),
                    without_fire (gets_from n c (suc x.0)),
                    ahead_get c x.0 get.0 that,
                  ))
              | inr fire ↦
                  let that = subst (λ e. IsNext c x.0 e) fire.1 x.2 in
                  inr (inl (gets_from n c (suc x.0), ahead_of c x.0 (Fire fire.0) that))
            ]
        | inr none ↦
            last (begins_behind_fire n c)
            (at_none (get_items_before c (base c)) (is_get_or_fire c) (gets_skip c (base c)) (n.script (n.reader c))
            (at c).place none)
      ]
    where
      last : (b : Bool) → gets_from n c (at c).place ≡ fire_if b
          → (gets_from n c (at c).place ≡ [])
          ⊎ (((items : List GetItem) × (gets_from n c (at c).place ≡ only_fire ∷ items))
          ⊎ ((slot : ℕ) × (fire : Bool) × (items : List GetItem)
          × (gets_from n c (at c).place ≡ record { get = Some slot; fire = fire } ∷ items)))
      last true is = inr (inl ([], is))
      last false is = inl is

  -- Values

  abbrev Gets : EventPlace → Type 0
  Gets e = get_test e ≡ true

  get_there : (t : PortState T) (e : EventPlace) → Gets e → (c : Coming n t e.0 e.1)
      → (ch : ℕ) × (slot : ℕ) × (c.event ≡ Get ch slot)
  get_there t e on c = get_any c.event (test_kind n rule wired is_any_get s after2 e.0 e.1 c.event on c.is)

  -- a Get of a channel that comes, at its reader
  at_reader : (c slot : ℕ) (e : EventPlace) → Gets e → slice_get (n.script e.0) e.1 ≡ Some (Get c slot)
      → (n.reader c ≡ e.0) × (slice_get (n.script (n.reader c)) e.1 ≡ Some (Get c slot))
      × (get_test (n.reader c, e.1) ≡ true)
  at_reader c slot e on is =
      let here : n.reader c ≡ e.0 = wired.get_reader e.0 e.1 c slot is in
      (here, ap (λ r. slice_get (n.script r) e.1) here ∙ is, ap (λ r. get_test (r, e.1)) here ∙ on)

  sees_get : (c slot : ℕ) → is_get_or_fire c (Get c slot) ≡ true
  sees_get c slot = or_left (eqb c c) false (eq-eqb c c refl)

  -- of a channel only one Get comes
  only_one : (c slot i other : ℕ) (e : EventPlace) → IsNext c i (Get c slot) → Gets e
      → slice_get (n.script e.0) e.1 ≡ Some (Get c other) → (e.0 ≡ n.reader c) × (e.1 ≡ i)
  only_one c slot i other e x on is =
      let here = at_reader c other e on is in
      let y = get_next c e.1 (Get c other) here.1 (sees_get c other) here.2 in (
        sym here.0,
        next_one (is_get_or_fire c) (n.script (n.reader c)) (after2.has_come (n.reader c)) e.1 i (Get c y.0) (Get c slot)
            y.2 x,
      )

  queue_step : (c : ℕ) (t : PortState T) (e : EventPlace) → Gets e → may_come_at n t e ≡ true
      → ((slot : ℕ) → slice_get (n.script e.0) e.1 ≡ Some (Get c slot) → ⊥)
      → (port_step n rule t e).run.queue c ≡ t.run.queue c
  queue_step c t e on may none =
      let x = coming n t e.0 e.1 may in
      let get = get_there t e on x in
      let other : is_get c x.event ≡ false =
      false_from_ne_true (is_get c x.event)
      (λ yes.
      let same : c ≡ get.0 = eqb-true c get.0 (sym (ap (is_get c) get.2) ∙ yes) in
      none get.1 (x.is ∙ ap Some (get.2 ∙ ap (λ u. Get u get.1) (sym same)))) in
      ap (λ (u : State T). u.queue c) (run_after n rule t e.0 e.1 x)
      ∙ queue_other (t.run.local e.0).kept x.event c (t.run.queue c) other
      (no_put_in_get c x.event (ap is_any_get get.2))

  pub queue_got : (c slot : ℕ) → slot_asked n controls all d c ≡ Some slot → is_valid d c ≡ true
      → s3.run.queue c ≡ drop 1 (after2.run.queue c)
  queue_got c slot asked valid =
      let x = get_found c slot asked valid in
      changed n rule Gets (λ t. t.run.queue c) (n.reader c) x.0 (drop 1)
      (λ t e on may other. queue_step c t e on may
      (λ u is. let y = only_one c slot x.0 u e x.1 on is in other y.0 y.1))
      (λ t e on may here there.
      let y = coming n t e.0 e.1 may in
      let is : slice_get (n.script e.0) e.1 ≡ Some (Get c slot) =
      ap₂ (λ r k. slice_get (n.script r) k) here there ∙ x.1.is in
      ap (λ (u : State T). u.queue c) (run_after n rule t e.0 e.1 y)
      ∙ ap (λ f. queue_after (t.run.local e.0).kept f c (t.run.queue c))
      (one_event (n.script e.0) e.1 y.event (Get c slot) y.is is)
      ∙ queue_get (t.run.local e.0).kept c slot (t.run.queue c))
      (gets_of_clock n rule s) after2 (part_run n rule wired is_any_get s after2)
      (part_each n rule wired is_any_get s after2) x.1.new (come_now n rule wired is_any_get s after2 (n.reader c) x.0 x.2)

  pub queue_ungot : (c : ℕ) → gets n controls all d c ≡ false → s3.run.queue c ≡ after2.run.queue c
  queue_ungot c off =
      still n rule Gets (λ t. t.run.queue c)
      (λ t e on may. queue_step c t e on may
      (λ u is.
      let here = at_reader c u e on is in
      let z = get_comes c e.1 u here.1 here.2 in
      both_ways (gets n controls all d c) off
      (and_from (asks n controls all d c) (is_valid d c) (ap (λ (o : Option ℕ). is_some o) z.0) z.1)))
      (gets_of_clock n rule s) after2 (part_run n rule wired is_any_get s after2)
      (part_each n rule wired is_any_get s after2)

  pub kept_ungot : (p : ℕ) → (s3.run.local p).kept ≡ (after2.run.local p).kept
  kept_ungot p =
      still n rule Gets (λ t. (t.run.local p).kept)
      (λ t e on may.
      let x = coming n t e.0 e.1 may in
      let get = get_there t e on x in
      ap (λ (u : State T). (u.local p).kept) (run_after n rule t e.0 e.1 x)
      ∙ ap (λ f. ((after_event rule t.run e.0 (Some f)).local p).kept) get.2
      ∙ get_kept rule t.run e.0 p get.0 get.1)
      (gets_of_clock n rule s) after2 (part_run n rule wired is_any_get s after2)
      (part_each n rule wired is_any_get s after2)

  -- Slots

  slots_step : (t : PortState T) (e : EventPlace) → (x : Coming n t e.0 e.1) → (c slot p : ℕ) → x.event ≡ Get c slot
      → p ≡ e.0
      → ((port_step n rule t e).run.local p).slots ≡ slice_set (t.run.local p).slots slot (front (t.run.queue c))
  slots_step t e x c slot p is here =
      ap (λ (u : State T). (u.local p).slots) (run_after n rule t e.0 e.1 x)
      ∙ ap (λ f. ((after_event rule t.run e.0 (Some f)).local p).slots) is
      ∙ get_here rule t.run e.0 p c slot here

  slots_apart : (t : PortState T) (e : EventPlace) → (x : Coming n t e.0 e.1) → (p : ℕ) → (p ≡ e.0 → ⊥)
      → ((port_step n rule t e).run.local p).slots ≡ (t.run.local p).slots
  slots_apart t e x p other =
      ap (λ (u : State T). (u.local p).slots) (run_after n rule t e.0 e.1 x)
      ∙ ap (λ (l : Local T). l.slots) (get_elsewhere rule t.run e.0 p x.event other)

  long : (p : ℕ) → length (s3.run.local p).slots ≡ length (after2.run.local p).slots
  long p =
      still n rule Gets (λ t. length (t.run.local p).slots)
      (λ t e on may.
      let x = coming n t e.0 e.1 may in
      let get = get_there t e on x in
      elim (cases_eq p e.0) [
        | inl here ↦
            ap (λ (l : List (Option T)). length l) (slots_step t e x get.0 get.1 p get.2 here)
            ∙ length-set (t.run.local p).slots get.1 (front (t.run.queue get.0))
        | inr other ↦ ap (λ (l : List (Option T)). length l) (slots_apart t e x p other)
      ])
      (gets_of_clock n rule s) after2 (part_run n rule wired is_any_get s after2)
      (part_each n rule wired is_any_get s after2)

  -- a slot into which no Get comes
  slot_kept : (p k : ℕ)
      → ((c : ℕ) (e : EventPlace) → Gets e → e.0 ≡ p → slice_get (n.script e.0) e.1 ≡ Some (Get c k) → ⊥)
      → slice_get (s3.run.local p).slots k ≡ slice_get (after2.run.local p).slots k
  slot_kept p k none =
      still n rule Gets (λ t. slice_get (t.run.local p).slots k)
      (λ t e on may.
      let x = coming n t e.0 e.1 may in
      let get = get_there t e on x in
      elim (cases_eq p e.0) [
        | inl here ↦
            elim (cases_eq k get.1) [
              | inl same ↦
                  absurd (none get.0 e on (sym here) (x.is ∙ ap Some (get.2 ∙ ap (Get get.0) (sym same))))
              | inr other ↦
                  ap (λ (l : List (Option T)). slice_get l k) (slots_step t e x get.0 get.1 p get.2 here)
                  ∙ slice_get-set_other (t.run.local p).slots get.1 k (front (t.run.queue get.0)) other
            ]
        | inr other ↦ ap (λ (l : List (Option T)). slice_get l k) (slots_apart t e x p other)
      ])
      (gets_of_clock n rule s) after2 (part_run n rule wired is_any_get s after2)
      (part_each n rule wired is_any_get s after2)

  -- a slot into which a channel is got
  slot_filled : (p k c : ℕ) → n.reader c ≡ p → slot_asked n controls all d c ≡ Some k → is_valid d c ≡ true
      → slice_get (s3.run.local p).slots k
      ≡ option_map (λ x. front (after2.run.queue c)) (slice_get (after2.run.local p).slots k)
  slot_filled p k c reads asked valid =
      let x = get_found c k asked valid in
      ap (λ (v : Option (Option T) × List T). v.0)
      (changed n rule Gets (λ t. (slice_get (t.run.local p).slots k, t.run.queue c)) (n.reader c) x.0
      (λ v. (option_map (λ y. front v.1) v.0, drop 1 v.1))
      (λ t e on may other.
      let y = coming n t e.0 e.1 may in
      let get = get_there t e on y in
      let is = y.is ∙ ap Some get.2 in
      let away : get.0 ≡ c → ⊥ = λ same.
      let z = only_one c k x.0 get.1 e x.1 on (is ∙ ap (λ u. Some (Get u get.1)) same) in other z.0 z.1 in
      let slots : slice_get ((port_step n rule t e).run.local p).slots k ≡ slice_get (t.run.local p).slots k =
      elim (cases_eq p e.0) [
        | inl here ↦
            elim (cases_eq k get.1) [
              | inl same ↦
                  absurd (away (sym (together x.0 e x.1 x.2 get.0 on (sym here)
                  (is ∙ ap (λ u. Some (Get get.0 u)) (sym same)))))
              | inr d ↦
                  ap (λ (l : List (Option T)). slice_get l k) (slots_step t e y get.0 get.1 p get.2 here)
                  ∙ slice_get-set_other (t.run.local p).slots get.1 k (front (t.run.queue get.0)) d
            ]
        | inr there ↦ ap (λ (l : List (Option T)). slice_get l k) (slots_apart t e y p there)
      ] in
      ap₂ (λ (o : Option (Option T)) (q : List T). (o, q)) slots
      (queue_step c t e on may
      (λ u isu.
      let both : Some (Get c u) ≡ Some (Get get.0 get.1) = sym isu ∙ is in
      let same : get.0 ≡ c = cc in
      away same)))
      (λ t e on may here there.
      let y = coming n t e.0 e.1 may in
      let is : slice_get (n.script e.0) e.1 ≡ Some (Get c k) =
      ap₂ (λ r j. slice_get (n.script r) j) here there ∙ x.1.is in
      let this = one_event (n.script e.0) e.1 y.event (Get c k) y.is is in
      ap₂ (λ (o : Option (Option T)) (q : List T). (o, q))
      (ap (λ (l : List (Option T)). slice_get l k) (slots_step t e y c k p this (sym reads ∙ sym here))
      ∙ set_here (t.run.local p).slots k (front (t.run.queue c)))
      (ap (λ (u : State T). u.queue c) (run_after n rule t e.0 e.1 y)
      ∙ ap (λ f. queue_after (t.run.local e.0).kept f c (t.run.queue c)) this
      ∙ queue_get (t.run.local e.0).kept c k (t.run.queue c)))
      (gets_of_clock n rule s) after2 (part_run n rule wired is_any_get s after2)
      (part_each n rule wired is_any_get s after2) x.1.new
      (come_now n rule wired is_any_get s after2 (n.reader c) x.0 x.2))
    where
      -- of two Gets into one slot that come at a process there is no Fire between, so they are of one channel
      together : (i : ℕ) (e : EventPlace) → IsNext c i (Get c k) → get_test (n.reader c, i) ≡ true → (other : ℕ) → Gets e
          → e.0 ≡ p
          → slice_get (n.script e.0) e.1 ≡ Some (Get other k) → c ≡ other
      together i e x comes other on here is =
          let r = n.reader c in
          let same : e.0 ≡ r = here ∙ sym reads in
          let on' : get_test (r, e.1) ≡ true = ap (λ q. get_test (q, e.1)) (sym same) ∙ on in
          let is' : slice_get (n.script r) e.1 ≡ Some (Get other k) =
          ap (λ q. slice_get (n.script q) e.1) (sym same) ∙ is in
          apart r i e.1 c other k x.is is'
          (sym (fires_here n after2 r i counted2.ordered (test_coming n rule wired is_any_get s after2 r i comes))
          ∙ fires_here n after2 r e.1 counted2.ordered (test_coming n rule wired is_any_get s after2 r e.1 on'))

  -- the slots of a process are those of the design after the edge
  pub slots_filled : (p : ℕ) → (after2.run.local p).slots ≡ (d.node p).slots
      → slots_after n controls all d p ≡ (s3.run.local p).slots
  slots_filled p before =
      let many = length (d.node p).slots in
      let all_long : length (slots_after n controls all d p) ≡ many =
      length-map-range_with_len (slot_after n controls all d p) 0 many in
      same_items (slots_after n controls all d p) (s3.run.local p).slots
      (all_long ∙ sym (long p ∙ ap (λ (l : List (Option T)). length l) before))
      (λ k lt.
      let inside : k < many = omega arith in
      let front : 0 + k ≡ k = omega arith in
      slice_get-map-range_with_len (slot_after n controls all d p) 0 many k k inside front
      ∙ by k inside (find (fills n controls all d k) (channels_read n p)) refl)
    where
      old : (k : ℕ) → k < length (d.node p).slots
          → slice_get (after2.run.local p).slots k ≡ Some (get_or (d.node p).slots k None)
      old k inside =
          ap (λ (l : List (Option T)). slice_get l k) before ∙ slice_get-get_or (d.node p).slots k None inside

      by : (k : ℕ) → k < length (d.node p).slots → (o : Option ℕ)
          → find (fills n controls all d k) (channels_read n p) ≡ o
          → Some (slot_after n controls all d p k) ≡ slice_get (s3.run.local p).slots k
      by k inside (Some c) is =
          let passes = found (λ x. eqb (n.reader x) p) (fills n controls all d k) n.channels 0 c is in
          let both =
          and_parts (option_map_or (λ s. eqb s k) (slot_asked n controls all d c) false) (is_valid d c) passes.1 in
          let asked = slot_named (slot_asked n controls all d c) k both.0 in
          ap (λ (o : Option ℕ).
          Some (option_map_or (λ x. front (d.fifo x)) o (get_or (d.node p).slots k None))) is
          ∙ sym (slot_filled p k c (eqb-true (n.reader c) p passes.0) asked both.1
          ∙ ap (option_map (λ x. front (after2.run.queue c))) (old k inside) ∙ ap Some (front2 c both.1))
      by k inside None is =
          ap (λ (o : Option ℕ).
          Some (option_map_or (λ x. front (d.fifo x)) o (get_or (d.node p).slots k None))) is
          ∙ sym (slot_kept p k
          (λ c e on here isg.
          let y = at_reader c k e on isg in
          let z = get_comes c e.1 k y.1 y.2 in
          not_found (λ x. eqb (n.reader x) p) (fills n controls all d k) n.channels 0 is c (omega arith)
          (omega (arith, wired.get_channel e.0 e.1 c k isg))
          (eq-eqb (n.reader c) p (y.0 ∙ here))
          (and_from (option_map_or (λ s. eqb s k) (slot_asked n controls all d c) false) (is_valid d c)
          (ap (λ (o : Option ℕ). option_map_or (λ s. eqb s k) o false) z.0 ∙ eq-eqb k k refl) z.1))
          ∙ old k inside)
