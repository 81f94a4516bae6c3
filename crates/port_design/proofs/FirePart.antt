-- The fires of an edge are those of the clock.
--
-- A Fire comes in the clock where all before it in its script has come, once the Puts have. So it is next of all
-- that the process and its ports see: its Get ports wait for it, and its Put ports are past all that was fired
-- before (`fire_comes`). Where a process fires at the edge, its ports say the same of each event before the Fire:
-- none of what a port sees is left before that (`fire_found`). Behind the fires each Get port is past its
-- process's Fire, or where it was, and what its sequencer gives is told by whether it is free (`getter_behind`).
use Rattle.std.proofs.Common.{◌≡◌, ℕ, suc, ◌<◌, Bool, true, false, not, ◌||◌, cond, eqb, is_some, Option, Some, None}
use Rattle.std.proofs.Common.{List, [], ◌∷◌, ◌++◌, length, drop, slice_get, ap, ap₂, sym, subst, ◌∙◌, refl, inl, inr, arith}
use Rattle.std.proofs.Common.{eq-eqb, eqb-true}
use Rattle.std.specs.List.{list_all}
use Rattle.std.proofs.lemmas.Bool.{and_from, and_parts, both_ways, cases_Bool, cases_lt}
use Rattle.std.proofs.lemmas.Bool.{or_left, or_right}
use Rattle.net_core.specs.declared.refs.Ref.{Ref}
use Rattle.net_core.specs.declared.network.Event.{Event}
use Rattle.net_core.specs.declared.network.Event.TheVariants.{Get, Fire, Put}
use Rattle.net_core.specs.Machine.{Net, Local, Rule, State, after_event, queue_after}
use Rattle.net_core.specs.Shape.{is_fire, IsWired}
use Rattle.net_core.proofs.EventCounts.{replaced_other, replaced_same}
use Rattle.port_items.specs.declared.items.GetItem.{GetItem}
use Rattle.port_items.specs.declared.items.PutItem.{PutItem}
use Rattle.port_items.specs.Items.{begins_with_fire, fire_if, fire_items, get_items_before, put_items, without_fire}
use Rattle.port_runs.specs.Ports.{EventPlace, PortState}
use Rattle.port_runs.proofs.DueEvents.{due_from, fire_before}
use Rattle.port_runs.proofs.PortSteps.{Coming, coming, run_after}
use Rattle.port_clocks.specs.PortClocks.{after_fires, comes, fires_of_clock, is_any_put}
use Rattle.port_design.specs.Registers.{Controls, Design, begins_behind_fire, channels_read, channels_written, fires, is_at_fire}
use Rattle.port_design.specs.Registers.{is_free, lets_fire, may_fire, refs_at, refs_fired}
use Rattle.port_design.specs.Clocked.{GivesFrom, HasPassed, StandsFor, gets_from, is_get_or_fire}
use Rattle.port_design.specs.Clocked.{is_put_or_fire, puts_from}
use Rattle.port_design.proofs.Ahead.{at_next, at_none, fires_skip, gets_skip, puts_skip}
use Rattle.port_design.proofs.Effects.{changed, still}
use Rattle.port_design.proofs.Fronts.{fire_from_front, get_front, same_without_fire, seen_by_getter}
use Rattle.port_design.proofs.Given.{item_is}
use Rattle.port_design.proofs.Lists.{all_at, all_from}
use Rattle.port_design.proofs.Next.{come_apart, come_now, fire_is, fire_no_put, next_from}
use Rattle.port_design.proofs.Next.{part_each, part_passes, part_run, part_stays, test_coming, test_from, test_kind}
use Rattle.port_design.proofs.Places.{NextIs, find_next, next_one, one_event, passed_same}
use Rattle.port_design.proofs.PutPart.{putter_behind, s1, values_behind, values_in}

-- no process is held back
abbrev pub all : ℕ → Bool
all p = true

fire_or : (b : Bool) (o : Option (List Ref)) (refs : List Ref) → cond b o None ≡ Some refs
    → (b ≡ true) × (o ≡ Some refs)
fire_or true o refs is = (refl, is)
fire_or false o refs is = absurd (cc)

-- Where the next of what a port sees is a Fire, all that it sees before any Fire that is yet to come has come.
ports_come : (seen : Event → Bool) (script : List Event) (come : ℕ → Bool) (place i : ℕ) (refs : List Ref)
    → HasPassed seen script come place → seen (Fire refs) ≡ true → NextIs is_fire script come i (Fire refs)
    → ((k : ℕ) (f : Event) → NextIs seen script come k f → is_fire f ≡ true)
    → (j : ℕ) (g : Event) → j < i → slice_get script j ≡ Some g → seen g ≡ true → come j ≡ true
ports_come seen script come place i refs passed sees x fire j g lt is on =
    elim (find_next seen script come place passed) [
      | inl y ↦
          elim (cases_lt j y.0) [
            | inl before ↦ y.2.before j g before is on
            | inr late ↦
                absurd (both_ways (come y.0) y.2.new
                (x.before y.0 y.1 (omega arith) y.2.is (fire y.0 y.1 y.2)))
          ]
      | inr none ↦
          elim (cases_lt i place) [
            | inl low ↦ absurd (both_ways (come i) x.new (passed.before i (Fire refs) low x.is sees))
            | inr ge ↦ absurd (both_ways (seen (Fire refs)) (none i (Fire refs) ge x.is) sees)
          ]
    ]

module _ {T : Type 0} (n : Net) (controls : Controls) (rule : Rule T) (wired : IsWired n) (s : PortState T)
    (d : Design T)
    (stands : StandsFor n controls s d) where
  -- the state behind the Puts
  abbrev pub after1 : PortState T
  after1 = s1 n controls rule wired s d stands

  abbrev pub fire_test : EventPlace → Bool
  fire_test = comes n is_fire s after1

  -- no Put changes what isn't one
  kept_by_puts : (p k : ℕ) (e : Event) → slice_get (n.script p) k ≡ Some e → is_any_put e ≡ false
      → after1.has_come p k ≡ s.has_come p k
  kept_by_puts p k e is off = come_apart n rule wired is_any_put s s p k e is off

  node_passed : (p : ℕ) → HasPassed is_fire (n.script p) (after1.has_come p) (stands.nodes p).place
  node_passed p =
      passed_same is_fire (n.script p) (s.has_come p) (stands.nodes p).place (stands.nodes p).passed (after1.has_come p)
      (λ k f is on. kept_by_puts p k f is (fire_no_put f on))

  no_put_seen : (c : ℕ) (e : Event) → is_get_or_fire c e ≡ true → is_any_put e ≡ false
  no_put_seen c e on =
      elim (seen_by_getter c e on) [
        | inl get ↦ ap is_any_put get.1
        | inr fire ↦ ap is_any_put fire.1
      ]

  getter_passed : (c : ℕ)
      → HasPassed (is_get_or_fire c) (n.script (n.reader c)) (after1.has_come (n.reader c)) (stands.getters c).place
  getter_passed c =
      passed_same (is_get_or_fire c) (n.script (n.reader c)) (s.has_come (n.reader c)) (stands.getters c).place
      (stands.getters c).passed (after1.has_come (n.reader c))
      (λ k f is on. kept_by_puts (n.reader c) k f is (no_put_seen c f on))

  -- a Fire that comes is next of all kinds
  pub fire_next : (p k : ℕ) (e : Event) (seen : Event → Bool) → slice_get (n.script p) k ≡ Some e → fire_test (p, k) ≡ true
      → seen e ≡ true → NextIs seen (n.script p) (after1.has_come p) k e
  fire_next p k e seen is on sees =
      let come = test_coming n rule wired is_fire s after1 p k on in
      let same : come.event ≡ e = one_event (n.script p) k come.event e come.is is in
      let fire = test_kind n rule wired is_fire s after1 p k come.event on come.is in
      subst (λ f. NextIs seen (n.script p) (after1.has_come p) k f) same
      (next_from n after1 p k seen come (ap seen same ∙ sees) (λ g ong. fire_before come.event g fire))

  -- what a Get port sees of it, and a Put port
  getter_ahead : (c k : ℕ) (refs : List Ref) → slice_get (n.script (n.reader c)) k ≡ Some (Fire refs)
      → fire_test (n.reader c, k) ≡ true
      → gets_from n c (stands.getters c).place
      ≡ get_items_before c (fire_if (begins_behind_fire n c)) (Fire refs ∷ drop (suc k) (n.script (n.reader c)))
  getter_ahead c k refs is on =
      let r = n.reader c in
      at_next (get_items_before c (fire_if (begins_behind_fire n c))) (is_get_or_fire c)
      (gets_skip c (fire_if (begins_behind_fire n c))) (n.script r) (after1.has_come r) (stands.getters c).place k
      (Fire refs) (getter_passed c) (fire_next r k (Fire refs) (is_get_or_fire c) is on refl)

  pub putter_ahead : (c k : ℕ) (refs : List Ref) → slice_get (n.script (n.writer c)) k ≡ Some (Fire refs)
      → fire_test (n.writer c, k) ≡ true
      → puts_from n c (putter_behind n controls rule wired s d stands c).place
      ≡ put_items c (Fire refs ∷ drop (suc k) (n.script (n.writer c)))
  putter_ahead c k refs is on =
      let w = n.writer c in
      let b = putter_behind n controls rule wired s d stands c in
      at_next (put_items c) (is_put_or_fire c) (puts_skip c) (n.script w) (after1.has_come w) b.place k (Fire refs)
      b.passed (fire_next w k (Fire refs) (is_put_or_fire c) is on refl)

  node_ahead : (p k : ℕ) (refs : List Ref) → NextIs is_fire (n.script p) (after1.has_come p) k (Fire refs)
      → fire_items (drop (stands.nodes p).place (n.script p)) ≡ refs ∷ fire_items (drop (suc k) (n.script p))
  node_ahead p k refs next =
      at_next fire_items is_fire fires_skip (n.script p) (after1.has_come p) (stands.nodes p).place k (Fire refs)
      (node_passed p) next

  refs_here : (p k : ℕ) (refs : List Ref) → NextIs is_fire (n.script p) (after1.has_come p) k (Fire refs)
      → refs_at controls d p ≡ Some refs
  refs_here p k refs next =
      item_is (controls.fires p) (d.node p).control (fire_items (drop (stands.nodes p).place (n.script p)))
      (stands.nodes p).gives
      ∙ ap (λ (items : List (List Ref)). slice_get items 0) (node_ahead p k refs next)

  -- a Fire that comes is made by the design
  pub fire_comes : (p k : ℕ) (refs : List Ref) → slice_get (n.script p) k ≡ Some (Fire refs) → fire_test (p, k) ≡ true
      → refs_fired n controls all d p ≡ Some refs
  fire_comes p k refs is on =
      let reads =
      all_from (λ c. eqb (n.reader c) p) (λ c. (d.getter c).waits) n.channels 0
      (λ c low high mine.
      let same : p ≡ n.reader c = sym (eqb-true (n.reader c) p mine) in
      (stands.getters c).waits
      ∙ ap begins_with_fire
      (getter_ahead c k refs (ap (λ r. slice_get (n.script r) k) (sym same) ∙ is) (ap (λ r. fire_test (r, k)) (sym same) ∙ on)))
      in
      let writes =
      all_from (λ c. eqb (n.writer c) p) (lets_fire n controls d) n.channels 0
      (λ c low high mine.
      let same : p ≡ n.writer c = sym (eqb-true (n.writer c) p mine) in
      (putter_behind n controls rule wired s d stands c).lets
      ∙ ap (λ (items : List PutItem). is_at_fire (slice_get items 0))
      (putter_ahead c k refs (ap (λ r. slice_get (n.script r) k) (sym same) ∙ is) (ap (λ r. fire_test (r, k)) (sym same) ∙ on)))
      in
      let may : may_fire n controls d p ≡ true =
      and_from (list_all (λ c. (d.getter c).waits) (channels_read n p))
      (list_all (lets_fire n controls d) (channels_written n p)) reads writes in
      ap (λ (b : Bool). cond b (refs_at controls d p) None) may
      ∙ refs_here p k refs (fire_next p k (Fire refs) is_fire is on refl)

  -- what the design fires comes
  pub fire_found : (p : ℕ) (refs : List Ref) → refs_fired n controls all d p ≡ Some refs
      → (i : ℕ) × NextIs is_fire (n.script p) (after1.has_come p) i (Fire refs) × (fire_test (p, i) ≡ true)
  fire_found p refs fired =
      let node = stands.nodes p in
      let parts = fire_or (may_fire n controls d p) (refs_at controls d p) refs fired in
      let both =
      and_parts (list_all (λ c. (d.getter c).waits) (channels_read n p))
      (list_all (lets_fire n controls d) (channels_written n p)) parts.0 in
      let here =
      sym (item_is (controls.fires p) (d.node p).control (fire_items (drop node.place (n.script p))) node.gives)
      ∙ parts.1 in
      elim (find_next is_fire (n.script p) (after1.has_come p) node.place (node_passed p)) [
        | inl x ↦
            let fire = fire_is x.1 x.2.on in
            let next : NextIs is_fire (n.script p) (after1.has_come p) x.0 (Fire fire.0) =
            subst (λ e. NextIs is_fire (n.script p) (after1.has_come p) x.0 e) fire.1 x.2 in
            let both_refs : Some fire.0 ≡ Some refs = sym (refs_here p x.0 fire.0 next) ∙ parts.1 in
            let same : fire.0 ≡ refs = cc in
            let mine =
            subst (λ r. NextIs is_fire (n.script p) (after1.has_come p) x.0 (Fire r)) same next in
            let come : Coming n after1 p x.0 = record {
              event = Fire refs;
              is = mine.is;
              new = mine.new;
              due = due_from (n.script p) (after1.has_come p) (Fire refs) x.0
                  (λ j g lt is dep. before x.0 mine both.0 both.1 g j lt is);
              can = refl;
            } in
            (x.0, mine, test_from n rule wired is_fire s after1 p x.0 come refl refl)
        | inr none ↦
            let wrong : None ≡ Some refs =
            sym (ap (λ (items : List (List Ref)). slice_get items 0)
            (at_none fire_items is_fire fires_skip (n.script p) node.place none))
            ∙ here in
            absurd (cc)
      ]
    where
      before : (i : ℕ) → NextIs is_fire (n.script p) (after1.has_come p) i (Fire refs)
          → list_all (λ c. (d.getter c).waits) (channels_read n p) ≡ true
          → list_all (lets_fire n controls d) (channels_written n p) ≡ true
          → (g : Event) (j : ℕ) → j < i → slice_get (n.script p) j ≡ Some g → after1.has_come p j ≡ true
      before i mine reads writes (Fire others) j lt is = mine.before j (Fire others) lt is refl
      before i mine reads writes (Get c slot) j lt is =
          let same : n.reader c ≡ p = wired.get_reader p j c slot is in
          let waits =
          all_at (λ x. eqb (n.reader x) p) (λ x. (d.getter x).waits) n.channels 0 reads c (omega arith)
          (omega (arith, wired.get_channel p j c slot is)) (eq-eqb (n.reader c) p same) in
          let begins : begins_with_fire (gets_from n c (stands.getters c).place) ≡ true =
          sym (stands.getters c).waits ∙ waits in
          let this = subst (λ r. NextIs is_fire (n.script r) (after1.has_come r) i (Fire refs)) (sym same) mine in
          ap (λ r. after1.has_come r j) (sym same)
          ∙ ports_come (is_get_or_fire c) (n.script (n.reader c)) (after1.has_come (n.reader c)) (stands.getters c).place i
          refs (getter_passed c) refl this (getter_fire c begins) j (Get c slot) lt
          (ap (λ r. slice_get (n.script r) j) same ∙ is)
          (or_left (eqb c c) false (eq-eqb c c refl))
        where
          getter_fire : (c : ℕ) → begins_with_fire (gets_from n c (stands.getters c).place) ≡ true → (k : ℕ) (f : Event)
              → NextIs (is_get_or_fire c) (n.script (n.reader c)) (after1.has_come (n.reader c)) k f → is_fire f ≡ true
          getter_fire c begins k f x =
              elim (seen_by_getter c f x.on) [
                | inl get ↦
                    let base = fire_if (begins_behind_fire n c) in
                    let script = n.script (n.reader c) in
                    let wrong : false ≡ true =
                    sym (ap begins_with_fire
                    (at_next (get_items_before c base) (is_get_or_fire c) (gets_skip c base) script
                    (after1.has_come (n.reader c)) (stands.getters c).place k f (getter_passed c) x
                    ∙ ap (λ e. get_items_before c base (e ∷ drop (suc k) script)) get.1
                    ∙ get_front c get.0 base (drop (suc k) script)))
                    ∙ begins in
                    absurd (cc)
                | inr fire ↦ ap is_fire fire.1
              ]
      before i mine reads writes (Put c) j lt is =
          let same : n.writer c ≡ p = wired.put_writer p j c is in
          let b = putter_behind n controls rule wired s d stands c in
          let lets =
          all_at (λ x. eqb (n.writer x) p) (lets_fire n controls d) n.channels 0 writes c (omega arith)
          (omega (arith, wired.put_channel p j c is)) (eq-eqb (n.writer c) p same) in
          let at : is_at_fire (slice_get (puts_from n c b.place) 0) ≡ true = sym b.lets ∙ lets in
          let this = subst (λ r. NextIs is_fire (n.script r) (after1.has_come r) i (Fire refs)) (sym same) mine in
          ap (λ r. after1.has_come r j) (sym same)
          ∙ ports_come (is_put_or_fire c) (n.script (n.writer c)) (after1.has_come (n.writer c)) b.place i refs b.passed
          refl this
          (λ k f x.
          fire_from_front c f (drop (suc k) (n.script (n.writer c))) x.on
          (sym (ap (λ (items : List PutItem). is_at_fire (slice_get items 0))
          (at_next (put_items c) (is_put_or_fire c) (puts_skip c) (n.script (n.writer c)) (after1.has_come (n.writer c))
          b.place k f b.passed x))
          ∙ at)) j (Put c) lt (ap (λ r. slice_get (n.script r) j) same ∙ is)
          (or_left (eqb c c) false (eq-eqb c c refl))

  -- Behind the fires

  abbrev pub s2 : PortState T
  s2 = after_fires n rule s

  -- a process that doesn't fire has no Fire that comes
  none_comes : (p k : ℕ) (e : Event) → refs_fired n controls all d p ≡ None → slice_get (n.script p) k ≡ Some e
      → fire_test (p, k) ≡ true → ⊥
  none_comes p k e off is on =
      let fire = fire_is e (test_kind n rule wired is_fire s after1 p k e on is) in
      let wrong : None ≡ Some fire.0 = sym off ∙ fire_comes p k fire.0 (is ∙ ap Some fire.1) on in
      cc

  -- Where of what is seen at a process one Fire comes, it is past that; where the process doesn't fire, it stays where it was.
  past_fire : (seen : Event → Bool) (p place i : ℕ) (refs : List Ref)
      → HasPassed seen (n.script p) (after1.has_come p) place
      → seen (Fire refs) ≡ true → slice_get (n.script p) i ≡ Some (Fire refs) → fire_test (p, i) ≡ true
      → HasPassed seen (n.script p) (s2.has_come p) (suc i)
  past_fire seen p place i refs passed sees is on =
      part_passes n rule wired is_fire s after1 seen p place passed i (Fire refs) (fire_next p i (Fire refs) seen is on sees)
      on
      (λ k f isf onf comes. fire_next p k f seen isf comes onf)

  no_fire : (seen : Event → Bool) (p place : ℕ) → HasPassed seen (n.script p) (after1.has_come p) place
      → refs_fired n controls all d p ≡ None → HasPassed seen (n.script p) (s2.has_come p) place
  no_fire seen p place passed off =
      part_stays n rule wired is_fire s after1 seen p place passed (λ k f is onf comes. none_comes p k f off is comes)

  -- a process behind the fires
  pub fired_place : (p : ℕ) (refs : List Ref) → refs_fired n controls all d p ≡ Some refs
      → (i : ℕ) × HasPassed is_fire (n.script p) (s2.has_come p) (suc i)
      × (fire_items (drop (stands.nodes p).place (n.script p)) ≡ refs ∷ fire_items (drop (suc i) (n.script p)))
  fired_place p refs fired =
      let x = fire_found p refs fired in (
        x.0,
        past_fire is_fire p (stands.nodes p).place x.0 refs (node_passed p) refl x.1.is x.2,
        node_ahead p x.0 refs x.1,
      )

  pub idle_place : (p : ℕ) → refs_fired n controls all d p ≡ None
      → HasPassed is_fire (n.script p) (s2.has_come p) (stands.nodes p).place
  idle_place p off = no_fire is_fire p (stands.nodes p).place (node_passed p) off

  -- a Put port behind the fires
  pub putter_fired : (c : ℕ) (refs : List Ref) → refs_fired n controls all d (n.writer c) ≡ Some refs
      → (i : ℕ) × HasPassed (is_put_or_fire c) (n.script (n.writer c)) (s2.has_come (n.writer c)) (suc i)
      × (puts_from n c (putter_behind n controls rule wired s d stands c).place
      ≡ put_items c (Fire refs ∷ drop (suc i) (n.script (n.writer c))))
  putter_fired c refs fired =
      let w = n.writer c in
      let b = putter_behind n controls rule wired s d stands c in
      let x = fire_found w refs fired in
      (x.0, past_fire (is_put_or_fire c) w b.place x.0 refs b.passed refl x.1.is x.2, putter_ahead c x.0 refs x.1.is x.2)

  pub putter_idle : (c : ℕ) → refs_fired n controls all d (n.writer c) ≡ None
      → HasPassed (is_put_or_fire c) (n.script (n.writer c)) (s2.has_come (n.writer c))
      (putter_behind n controls rule wired s d stands c).place
  putter_idle c off =
      let b = putter_behind n controls rule wired s d stands c in
      no_fire (is_put_or_fire c) (n.writer c) b.place b.passed off

  -- a Get port behind the fires
  pub record GetterBehind (c : ℕ) : Type 0 where
    pub place : ℕ
    pub passed : HasPassed (is_get_or_fire c) (n.script (n.reader c)) (s2.has_come (n.reader c)) place
    pub free : is_free n controls all d c ≡ true → GivesFrom (controls.gets c) (d.getter c).control (gets_from n c place)
    pub held : is_free n controls all d c ≡ false
        → (begins_with_fire (gets_from n c place) ≡ true)
        × GivesFrom (controls.gets c) (d.getter c).control (without_fire (gets_from n c place))

  pub getter_behind : (c : ℕ) → GetterBehind c
  getter_behind c = by (refs_fired n controls all d (n.reader c)) refl
    where
      by : (o : Option (List Ref)) → refs_fired n controls all d (n.reader c) ≡ o → GetterBehind c
      by (Some refs) fired =
          let x = fire_found (n.reader c) refs fired in
          let ahead = getter_ahead c x.0 refs x.1.is x.2 in
          let goes : is_free n controls all d c ≡ true =
          or_right (not (d.getter c).waits) (fires n controls all d (n.reader c)) (ap (λ (o : Option (List Ref)). is_some o) fired) in
          record {
            place = suc x.0;
            passed = past_fire (is_get_or_fire c) (n.reader c) (stands.getters c).place x.0 refs (getter_passed c) refl x.1.is x.2;
            free = λ t.
                subst (λ (items : List GetItem). GivesFrom (controls.gets c) (d.getter c).control (without_fire items)) ahead
                (stands.getters c).gives;
            held = λ t. absurd (both_ways (is_free n controls all d c) t goes);
          }
      by None off =
          let still : fires n controls all d (n.reader c) ≡ false = ap (λ (o : Option (List Ref)). is_some o) off in
          elim (cases_Bool (d.getter c).waits) [
            | inl waits ↦
                let stops : is_free n controls all d c ≡ false = ap₂ (λ a b. not a || b) waits still in
                record {
                  place = (stands.getters c).place;
                  passed = no_fire (is_get_or_fire c) (n.reader c) (stands.getters c).place (getter_passed c) off;
                  free = λ t. absurd (both_ways (is_free n controls all d c) stops t);
                  held = λ t. (sym (stands.getters c).waits ∙ waits, (stands.getters c).gives);
                }
            | inr idle ↦
                let goes : is_free n controls all d c ≡ true = ap (λ a. not a || fires n controls all d (n.reader c)) idle in
                record {
                  place = (stands.getters c).place;
                  passed = no_fire (is_get_or_fire c) (n.reader c) (stands.getters c).place (getter_passed c) off;
                  free = λ t.
                      subst (λ (items : List GetItem). GivesFrom (controls.gets c) (d.getter c).control items)
                      (same_without_fire (gets_from n c (stands.getters c).place) (sym (stands.getters c).waits ∙ idle)) (stands.getters c).gives;
                  held = λ t. absurd (both_ways (is_free n controls all d c) t goes);
                }
          ]

  -- Values

  abbrev Fires : EventPlace → Type 0
  Fires at = fire_test at ≡ true

  fire_there : (t : PortState T) (at : EventPlace) → Fires at → (c : Coming n t at.0 at.1) → is_fire c.event ≡ true
  fire_there t at on c = test_kind n rule wired is_fire s after1 at.0 at.1 c.event on c.is

  fire_elsewhere : (t : State T) (p q : ℕ) (e : Event) → (q ≡ p → ⊥)
      → values_in ((after_event rule t p (Some e)).local q) ≡ values_in (t.local q)
  fire_elsewhere t p q e other = ap (λ (l : Local T). values_in l) (replaced_other t.local p _ q other)

  abbrev value_behind : ℕ → List Ref → List (Option T) × List T → List (Option T) × List T
  value_behind p refs v = (v.0, v.1 ++ rule p (length v.1) refs v.0 ∷ [])

  fire_here : (t : State T) (p q : ℕ) (refs : List Ref) → q ≡ p
      → values_in ((after_event rule t p (Some (Fire refs))).local q) ≡ value_behind q refs (values_in (t.local q))
  fire_here t p q refs same =
      ap (λ (l : Local T). values_in l) (replaced_same t.local p _ q same)
      ∙ ap (λ r. value_behind r refs (values_in (t.local r))) (sym same)

  pub values_fired : (p : ℕ) (refs : List Ref) → refs_fired n controls all d p ≡ Some refs
      → values_in (s2.run.local p) ≡ value_behind p refs (values_in (s.run.local p))
  values_fired p refs fired =
      let x = fire_found p refs fired in
      changed n rule Fires (λ t. values_in (t.run.local p)) p x.0 (value_behind p refs)
      (λ t at on may other.
      let c = coming n t at.0 at.1 may in
      ap (λ (u : State T). values_in (u.local p)) (run_after n rule t at.0 at.1 c)
      ∙ fire_elsewhere t.run at.0 p c.event
      (λ same.
      other (sym same)
      (next_one is_fire (n.script p) (after1.has_come p) at.1 x.0 c.event (Fire refs)
      (fire_next p at.1 c.event is_fire (ap (λ r. slice_get (n.script r) at.1) same ∙ c.is)
      (ap (λ r. fire_test (r, at.1)) same ∙ on) (fire_there t at on c)) x.1)))
      (λ t at on may here there.
      let c = coming n t at.0 at.1 may in
      let is : slice_get (n.script at.0) at.1 ≡ Some (Fire refs) =
      ap₂ (λ r k. slice_get (n.script r) k) here there ∙ x.1.is in
      let same : c.event ≡ Fire refs = one_event (n.script at.0) at.1 c.event (Fire refs) c.is is in
      ap (λ (u : State T). values_in (u.local p)) (run_after n rule t at.0 at.1 c)
      ∙ ap (λ e. values_in ((after_event rule t.run at.0 (Some e)).local p)) same
      ∙ fire_here t.run at.0 p refs (sym here))
      (fires_of_clock n rule s) after1 (part_run n rule wired is_fire s after1) (part_each n rule wired is_fire s after1)
      x.1.new (come_now n rule wired is_fire s after1 p x.0 x.2)
      ∙ ap (value_behind p refs) (values_behind n controls rule wired s d stands p)

  pub values_idle : (p : ℕ) → refs_fired n controls all d p ≡ None
      → values_in (s2.run.local p) ≡ values_in (s.run.local p)
  values_idle p off =
      still n rule Fires (λ t. values_in (t.run.local p))
      (λ t at on may.
      let c = coming n t at.0 at.1 may in
      ap (λ (u : State T). values_in (u.local p)) (run_after n rule t at.0 at.1 c)
      ∙ fire_elsewhere t.run at.0 p c.event
      (λ same.
      none_comes p at.1 c.event off (ap (λ r. slice_get (n.script r) at.1) same ∙ c.is)
      (ap (λ r. fire_test (r, at.1)) same ∙ on)))
      (fires_of_clock n rule s) after1 (part_run n rule wired is_fire s after1) (part_each n rule wired is_fire s after1)
      ∙ values_behind n controls rule wired s d stands p

  -- no fire changes a queue
  pub queue_kept : (c : ℕ) → s2.run.queue c ≡ after1.run.queue c
  queue_kept c =
      still n rule Fires (λ t. t.run.queue c)
      (λ t at on may.
      let x = coming n t at.0 at.1 may in
      ap (λ (u : State T). u.queue c) (run_after n rule t at.0 at.1 x)
      ∙ ap (λ e. queue_after (t.run.local at.0).kept e c (t.run.queue c))
      (fire_is x.event (fire_there t at on x)).1)
      (fires_of_clock n rule s) after1 (part_run n rule wired is_fire s after1) (part_each n rule wired is_fire s after1)
