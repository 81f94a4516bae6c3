-- An edge of a design that stands for a state of the ports leads to one that stands for the state after a clock.
--
-- Each register is followed through the three parts of the clock: a Put port through the Puts and the fires, a
-- process through the fires and the Gets, and a Get port through the fires and the Gets. What its sequencer gives
-- next is told by the event that is next in its script, so it takes its item exactly where its port is past the
-- events of that item. A queue loses its front by a Get and gains a token by a Put.
use Rattle.std.proofs.Common.{◌≡◌, ◌⊎◌, ℕ, suc, ◌<◌, Bool, true, false, cond, is_some, Option, Some}
use Rattle.std.proofs.Common.{None, List, [], ◌∷◌, ◌++◌, length, map, drop, slice_get, option_to_list, ap, ap₂, sym, subst, ◌∙◌, refl}
use Rattle.std.proofs.Common.{inl, inr, arith, append-nil, length-append, ltb-true}
use Rattle.std.proofs.lemmas.Bool.{and_from, and_parts, both_ways, cases_Bool, false_from_ne_true, or_cases}
use Rattle.net_core.specs.declared.refs.Ref.{Ref}
use Rattle.net_core.specs.declared.network.Event.{Event}
use Rattle.net_core.specs.declared.network.Event.TheVariants.{Get, Fire, Put}
use Rattle.net_core.specs.Machine.{Net, Rule, front, last_of}
use Rattle.net_core.specs.Shape.{is_any_get, is_fire, is_put, IsWired}
use Rattle.net_core.proofs.TwoSteps.{drop_append}
use Rattle.repeat_sequencer.specs.declared.sequencer.Sequencer.{Sequencer}
use Rattle.repeat_sequencer.specs.Steps.{step}
use Rattle.design_clocks.proofs.Edges.{last_alike, last_append}
use Rattle.port_items.specs.declared.items.GetItem.{GetItem}
use Rattle.port_items.specs.declared.items.PutItem.{PutItem}
use Rattle.port_items.specs.Items.{begins_with_fire, begins_with_put, fire_items, only_fire, only_put, put_items, without_fire}
use Rattle.port_items.specs.Items.{without_put}
use Rattle.port_runs.specs.Ports.{PortState}
use Rattle.port_runs.proofs.PortCounts.{PortCounted}
use Rattle.port_design.specs.Registers.{Controls, Design, Node, Port, asks, edge, fires, get_at, getter_after, gets, is_clear, is_free}
use Rattle.port_design.specs.Registers.{is_valid, node_after, put_at, putter_after, puts, refs_fired, slot_asked, slots_after}
use Rattle.port_design.specs.Registers.{token_for, value_of}
use Rattle.port_design.specs.Clocked.{GetterStands, GivesFrom, HasPassed, HasSlotsApart, NodeStands, PutterStands, StandsFor}
use Rattle.port_design.specs.Clocked.{gets_from, is_put_or_fire, puts_from}
use Rattle.port_design.proofs.Ahead.{at_next, at_none, puts_skip}
use Rattle.port_design.proofs.FirePart.{all, fired_place, getter_behind, idle_place, putter_fired, putter_idle, values_fired}
use Rattle.port_design.proofs.FirePart.{after1, queue_kept, values_idle}
use Rattle.port_design.proofs.Fronts.{fire_front, get_in, put_front}
use Rattle.port_design.proofs.GetPart.{after2, front_items, got_passed, kept_ungot, none_passed, queue_got, queue_ungot, s3}
use Rattle.port_design.proofs.GetPart.{slot_or, slots_filled, some_of}
use Rattle.port_design.proofs.Given.{gives_rest, item_is}
use Rattle.port_design.proofs.Next.{come_apart}
use Rattle.port_design.proofs.Places.{find_next, passed_same}
use Rattle.port_design.proofs.PutPart.{putter_behind, queue_grows, queue_stays}

-- Registers by what is known of the wires

getter_known : (control : Sequencer GetItem) (port : Port) (free free' valid valid' : Bool) (item item' : Option GetItem)
    → free ≡ free' → valid ≡ valid' → item ≡ item'
    → getter_after control free valid port item ≡ getter_after control free' valid' port item'
getter_known control port free free' valid valid' item item' a b c = λ i. getter_after control (a i) (b i) port (c i)

getter_held : (control : Sequencer GetItem) (port : Port) (valid : Bool) (item : Option GetItem)
    → getter_after control false valid port item ≡ record port { waits = true }
getter_held control port valid None = refl
getter_held control port valid (Some item) = refl

putter_known : (control : Sequencer PutItem) (port : Port) (clear clear' fires fires' : Bool) (item item' : Option PutItem)
    → clear ≡ clear' → fires ≡ fires' → item ≡ item'
    → putter_after control clear fires port item ≡ putter_after control clear' fires' port item'
putter_known control port clear clear' fires fires' item item' a b c =
    λ i. putter_after control (a i) (b i) port (c i)

putter_held : (control : Sequencer PutItem) (port : Port) (fires : Bool) (item : Option PutItem)
    → putter_after control false fires port item ≡ record port { waits = true }
putter_held control port fires None = refl
putter_held control port fires (Some item) = refl

-- what a Get isn't

no_get_at_fire : (e : Event) → is_fire e ≡ true → is_any_get e ≡ false
no_get_at_fire (Get c slot) t = absurd (cc)
no_get_at_fire (Fire refs) t = refl
no_get_at_fire (Put c) t = refl

no_get_at_put : (c : ℕ) (e : Event) → is_put c e ≡ true → is_any_get e ≡ false
no_get_at_put c (Get d slot) t = absurd (cc)
no_get_at_put c (Fire refs) t = refl
no_get_at_put c (Put d) t = refl

module _ {T : Type 0} (n : Net) (controls : Controls) (rule : Rule T) (wired : IsWired n) (s : PortState T)
    (d : Design T) (stands : StandsFor n controls s d) (apart : HasSlotsApart n) (counted : PortCounted n s) where
  abbrev fired : PortState T
  fired = after2 n controls rule wired s d stands apart counted

  abbrev pub clocked : PortState T
  clocked = s3 n controls rule wired s d stands apart counted

  abbrev pub edged : Design T
  edged = edge n controls rule all d

  -- what isn't a Get comes in no Get's part
  past_gets : (seen : Event → Bool) (p place : ℕ) → ((e : Event) → seen e ≡ true → is_any_get e ≡ false)
      → HasPassed seen (n.script p) (fired.has_come p) place
      → HasPassed seen (n.script p) (clocked.has_come p) place
  past_gets seen p place no_get passed =
      passed_same seen (n.script p) (fired.has_come p) place passed (clocked.has_come p)
      (λ k f is on. come_apart n rule wired is_any_get s fired p k f is (no_get f on))

  -- Processes

  pub kept_edge : (p : ℕ)
      → (clocked.run.local p).kept
      ≡ (s.run.local p).kept ++ map (value_of rule d p) (option_to_list (refs_fired n controls all d p))
  kept_edge p = kept_ungot n controls rule wired s d stands apart counted p ∙ by (refs_fired n controls all d p) refl
    where
      by : (o : Option (List Ref)) → refs_fired n controls all d p ≡ o
          → (fired.run.local p).kept
          ≡ (s.run.local p).kept ++ map (value_of rule d p) (option_to_list (refs_fired n controls all d p))
      by None off =
          ap (λ (v : List (Option T) × List T). v.1) (values_idle n controls rule wired s d stands p off)
          ∙ sym (append-nil (s.run.local p).kept)
          ∙ ap (λ (o : Option (List Ref)). (s.run.local p).kept ++ map (value_of rule d p) (option_to_list o)) (sym off)
      by (Some refs) on =
          ap (λ (v : List (Option T) × List T). v.1) (values_fired n controls rule wired s d stands p refs on)
          ∙ ap₂ (λ (turn : ℕ) (slots : List (Option T)). (s.run.local p).kept ++ rule p turn refs slots ∷ [])
          (sym (stands.nodes p).turn) (sym (stands.nodes p).slots)
          ∙ ap (λ (o : Option (List Ref)). (s.run.local p).kept ++ map (value_of rule d p) (option_to_list o)) (sym on)

  slots_before : (p : ℕ) → (fired.run.local p).slots ≡ (d.node p).slots
  slots_before p = by (refs_fired n controls all d p) refl
    where
      by : (o : Option (List Ref)) → refs_fired n controls all d p ≡ o → (fired.run.local p).slots ≡ (d.node p).slots
      by None off =
          ap (λ (v : List (Option T) × List T). v.0) (values_idle n controls rule wired s d stands p off)
          ∙ sym (stands.nodes p).slots
      by (Some refs) on =
          ap (λ (v : List (Option T) × List T). v.0) (values_fired n controls rule wired s d stands p refs on)
          ∙ sym (stands.nodes p).slots

  node_edge : (p : ℕ) → NodeStands n (controls.fires p) clocked p (edged.node p)
  node_edge p = by (refs_fired n controls all d p) refl
    where
      by : (o : Option (List Ref)) → refs_fired n controls all d p ≡ o
          → NodeStands n (controls.fires p) clocked p (edged.node p)
      by None off =
          let kept : (clocked.run.local p).kept ≡ (s.run.local p).kept =
          kept_edge p
          ∙ ap (λ (o : Option (List Ref)). (s.run.local p).kept ++ map (value_of rule d p) (option_to_list o)) off
          ∙ append-nil (s.run.local p).kept in
          subst (λ (node : Node T). NodeStands n (controls.fires p) clocked p node) (sym (ap (node_after (controls.fires p) rule d p (slots_after n controls all d p)) off))
          (record {
            place = (stands.nodes p).place;
            passed = past_gets is_fire p (stands.nodes p).place no_get_at_fire
                (idle_place n controls rule wired s d stands p off);
            gives = (stands.nodes p).gives;
            slots = slots_filled n controls rule wired s d stands apart counted p (slots_before p);
            turn = (stands.nodes p).turn ∙ ap (λ (l : List T). length l) (sym kept);
            fired = (stands.nodes p).fired ∙ ap (λ (l : List T). front (last_of l)) (sym kept);
          })
      by (Some refs) on =
          let x = fired_place n controls rule wired s d stands p refs on in
          let kept : (clocked.run.local p).kept ≡ (s.run.local p).kept ++ value_of rule d p refs ∷ [] =
          kept_edge p
          ∙ ap (λ (o : Option (List Ref)). (s.run.local p).kept ++ map (value_of rule d p) (option_to_list o)) on in
          let many : suc (length (s.run.local p).kept) ≡ length ((s.run.local p).kept ++ value_of rule d p refs ∷ []) =
          omega (arith, length-append (s.run.local p).kept (value_of rule d p refs ∷ [])) in
          subst (λ (node : Node T). NodeStands n (controls.fires p) clocked p node) (sym (ap (node_after (controls.fires p) rule d p (slots_after n controls all d p)) on))
          (record {
            place = suc x.0;
            passed = past_gets is_fire p (suc x.0) no_get_at_fire x.1;
            gives = gives_rest (controls.fires p) (d.node p).control refs (fire_items (drop (suc x.0) (n.script p)))
                (subst (λ (items : List (List Ref)). GivesFrom (controls.fires p) (d.node p).control items) x.2
                (stands.nodes p).gives);
            slots = slots_filled n controls rule wired s d stands apart counted p (slots_before p);
            turn = ap suc (stands.nodes p).turn ∙ many ∙ ap (λ (l : List T). length l) (sym kept);
            fired = ap front (sym (last_append (s.run.local p).kept (value_of rule d p refs)))
                ∙ ap (λ (l : List T). front (last_of l)) (sym kept);
          })

  -- Get ports

  getter_edge : (c : ℕ) → GetterStands n (controls.gets c) clocked c (edged.getter c)
  getter_edge c =
      elim (cases_Bool (gets n controls all d c)) [
        | inl on ↦
            let both = and_parts (asks n controls all d c) (is_valid d c) on in
            let slot = some_of (slot_asked n controls all d c) both.0 in
            let x = got_passed n controls rule wired s d stands apart counted c slot.0 slot.1 both.1 in
            let free = (slot_or (is_free n controls all d c) (get_in (get_at controls d c)) slot.0 slot.1).0 in
            let gives =
            subst (λ (items : List GetItem). GivesFrom (controls.gets c) (d.getter c).control items) x.2 ((getter_behind n controls rule wired s d stands c).free free) in
            let item = item_is (controls.gets c) (d.getter c).control _ gives in
            subst (λ (port : Port). GetterStands n (controls.gets c) clocked c port)
            (sym (getter_known (controls.gets c) (d.getter c) (is_free n controls all d c) true (is_valid d c) true
            (get_at controls d c) _ free both.1 item))
            (record {
              place = suc x.0;
              passed = x.1;
              waits = refl;
              gives = gives_rest (controls.gets c) (d.getter c).control _ (without_fire (gets_from n c (suc x.0))) gives;
            })
        | inr off ↦
            let passed = none_passed n controls rule wired s d stands apart counted c off in
            elim (cases_Bool (is_free n controls all d c)) [
              | inl free ↦
                  elim (front_items n controls rule wired s d stands apart counted c) [
                    | inl none ↦
                        let item =
                        item_is (controls.gets c) (d.getter c).control (gets_from n c (getter_behind n controls rule wired s d stands c).place) ((getter_behind n controls rule wired s d stands c).free free)
                        ∙ ap (λ (items : List GetItem). slice_get items 0) none in
                        subst (λ (port : Port). GetterStands n (controls.gets c) clocked c port)
                        (sym (getter_known (controls.gets c) (d.getter c) (is_free n controls all d c) true (is_valid d c) (is_valid d c)
                        (get_at controls d c) None free refl item))
                        (record {
                          place = (getter_behind n controls rule wired s d stands c).place;
                          passed = passed;
                          waits = ap begins_with_fire (sym none);
                          gives = subst (λ (items : List GetItem). GivesFrom (controls.gets c) (d.getter c).control (without_fire items))
                              (sym none)
                              (subst (λ (items : List GetItem). GivesFrom (controls.gets c) (d.getter c).control items) none
                              ((getter_behind n controls rule wired s d stands c).free free));
                        })
                    | inr some ↦
                        elim some [
                          | inl fire ↦
                              let gives =
                              subst (λ (items : List GetItem). GivesFrom (controls.gets c) (d.getter c).control items) fire.1
                              ((getter_behind n controls rule wired s d stands c).free free) in
                              let item = item_is (controls.gets c) (d.getter c).control (only_fire ∷ fire.0) gives in
                              subst (λ (port : Port). GetterStands n (controls.gets c) clocked c port)
                              (sym (getter_known (controls.gets c) (d.getter c) (is_free n controls all d c) true (is_valid d c)
                              (is_valid d c) (get_at controls d c) (Some only_fire) free refl item))
                              (record {
                                place = (getter_behind n controls rule wired s d stands c).place;
                                passed = passed;
                                waits = ap begins_with_fire (sym fire.1);
                                gives = subst (λ (items : List GetItem).
                                    GivesFrom (controls.gets c) (step (controls.gets c) (d.getter c).control) (without_fire items))
                                    (sym fire.1)
                                    (gives_rest (controls.gets c) (d.getter c).control only_fire fire.0 gives);
                              })
                          | inr get ↦
                              let first : GetItem = record { get = Some get.0; fire = get.1 } in
                              let gives =
                              subst (λ (items : List GetItem). GivesFrom (controls.gets c) (d.getter c).control items) get.3
                              ((getter_behind n controls rule wired s d stands c).free free) in
                              let item =
                              item_is (controls.gets c) (d.getter c).control
                              (record { get = Some get.0; fire = get.1 } ∷ get.2) gives in
                              let asked : slot_asked n controls all d c ≡ Some get.0 =
                              ap₂ (λ (f : Bool) (o : Option GetItem). cond f (get_in o) None) free item in
                              let asks_it : asks n controls all d c ≡ true = ap (λ (o : Option ℕ). is_some o) asked in
                              let empty : is_valid d c ≡ false =
                              false_from_ne_true (is_valid d c)
                              (λ valid. both_ways (gets n controls all d c) off
                              (and_from (asks n controls all d c) (is_valid d c) asks_it valid)) in
                              subst (λ (port : Port). GetterStands n (controls.gets c) clocked c port)
                              (sym (getter_known (controls.gets c) (d.getter c) (is_free n controls all d c) true (is_valid d c) false
                              (get_at controls d c) (Some (record { get = Some get.0; fire = get.1 })) free empty item))
                              (record {
                                place = (getter_behind n controls rule wired s d stands c).place;
                                passed = passed;
                                waits = ap begins_with_fire (sym get.3);
                                gives = subst (λ (items : List GetItem).
                                    GivesFrom (controls.gets c) (d.getter c).control (without_fire items)) (sym get.3) gives;
                              })
                        ]
                  ]
              | inr held ↦
                  let h = (getter_behind n controls rule wired s d stands c).held held in
                  subst (λ (port : Port). GetterStands n (controls.gets c) clocked c port)
                  (sym (getter_known (controls.gets c) (d.getter c) (is_free n controls all d c) false (is_valid d c) (is_valid d c)
                  (get_at controls d c) (get_at controls d c) held refl refl
                  ∙ getter_held (controls.gets c) (d.getter c) (is_valid d c) (get_at controls d c)))
                  (record { place = (getter_behind n controls rule wired s d stands c).place; passed = passed; waits = sym h.0; gives = h.1 })
            ]
      ]

  -- Put ports

  put_seen : (c : ℕ) (e : Event) → is_put_or_fire c e ≡ true → is_any_get e ≡ false
  put_seen c e on =
      elim (or_cases (is_put c e) (is_fire e) on) [
        | inl put ↦ no_get_at_put c e put
        | inr fire ↦ no_get_at_fire e fire
      ]

  -- what is in front of a Put port
  put_items_in_front : (c : ℕ)
      → (puts_from n c (putter_behind n controls rule wired s d stands c).place ≡ [])
      ⊎ (((put : Bool) × (items : List PutItem)
      × (puts_from n c (putter_behind n controls rule wired s d stands c).place
      ≡ record { fire = true; put = put } ∷ items))
      ⊎ ((items : List PutItem)
      × (puts_from n c (putter_behind n controls rule wired s d stands c).place ≡ only_put ∷ items)))
  put_items_in_front c =
      let w = n.writer c in
      let b = putter_behind n controls rule wired s d stands c in
      let come = (after1 n controls rule wired s d stands).has_come w in
      elim (find_next (is_put_or_fire c) (n.script w) come b.place b.passed) [
        | inl x ↦
            let rest = drop (suc x.0) (n.script w) in
            let ahead =
            at_next (put_items c) (is_put_or_fire c) (puts_skip c) (n.script w) come b.place x.0 x.1 b.passed x.2 in
            elim (or_cases (is_put c x.1) (is_fire x.1) x.2.on) [
              | inl put ↦ inr (inr (put_items c rest, ahead ∙ put_front c x.1 rest put))
              | inr fire ↦
                  inr (inl (
                    begins_with_put (put_items c rest),
                    without_put (put_items c rest),
                    ahead ∙ fire_front c x.1 rest fire,
                  ))
            ]
        | inr none ↦ inl (at_none (put_items c) (is_put_or_fire c) (puts_skip c) (n.script w) b.place none)
      ]

  putter_edge : (c : ℕ) → PutterStands n (controls.puts c) clocked c (edged.putter c)
  putter_edge c = by (refs_fired n controls all d (n.writer c)) refl
    where
      -- a port that is known after the edge
      known : (other : Port) → edged.putter c ≡ other → PutterStands n (controls.puts c) clocked c other → PutterStands n (controls.puts c) clocked c (edged.putter c)
      known other same at = subst (λ (p : Port). PutterStands n (controls.puts c) clocked c p) (sym same) at

      by : (o : Option (List Ref)) → refs_fired n controls all d (n.writer c) ≡ o → PutterStands n (controls.puts c) clocked c (edged.putter c)
      by (Some refs) on =
          let x = putter_fired n controls rule wired s d stands c refs on in
          let rest = puts_from n c (suc x.0) in
          let now : (fires n controls all d (n.writer c)) ≡ true = ap (λ (o : Option (List Ref)). is_some o) on in
          let passed = past_gets (is_put_or_fire c) (n.writer c) (suc x.0) (put_seen c) x.1 in
          elim (cases_Bool (is_clear n d c)) [
            | inl clear ↦
                let gives =
                subst (λ (items : List PutItem). GivesFrom (controls.puts c) (d.putter c).control items) x.2 ((putter_behind n controls rule wired s d stands c).clear clear) in
                let item =
                item_is (controls.puts c) (d.putter c).control
                (record { fire = true; put = begins_with_put rest } ∷ without_put rest) gives in
                known (record { control = step (controls.puts c) (d.putter c).control; waits = begins_with_put rest })
                (putter_known (controls.puts c) (d.putter c) (is_clear n d c) true (fires n controls all d (n.writer c)) true (put_at controls d c)
                (Some (record { fire = true; put = begins_with_put rest })) clear now item)
                (record {
                  place = suc x.0;
                  passed = passed;
                  waits = refl;
                  gives = gives_rest (controls.puts c) (d.putter c).control (record { fire = true; put = begins_with_put rest })
                      (without_put rest) gives;
                })
            | inr held ↦
                let wrong : false ≡ true = sym (ap begins_with_put x.2) ∙ ((putter_behind n controls rule wired s d stands c).full held).0 in
                absurd (cc)
          ]
      by None off =
          let now : (fires n controls all d (n.writer c)) ≡ false = ap (λ (o : Option (List Ref)). is_some o) off in
          let passed =
          past_gets (is_put_or_fire c) (n.writer c) (putter_behind n controls rule wired s d stands c).place (put_seen c)
          (putter_idle n controls rule wired s d stands c off) in
          elim (cases_Bool (is_clear n d c)) [
            | inl clear ↦
                elim (put_items_in_front c) [
                  | inl none ↦
                      let gives =
                      subst (λ (items : List PutItem). GivesFrom (controls.puts c) (d.putter c).control items) none ((putter_behind n controls rule wired s d stands c).clear clear) in
                      let item = item_is (controls.puts c) (d.putter c).control [] gives in
                      known (record (d.putter c) { waits = false })
                      (putter_known (controls.puts c) (d.putter c) (is_clear n d c) true (fires n controls all d (n.writer c)) false (put_at controls d c) None clear now
                      item)
                      (record {
                        place = (putter_behind n controls rule wired s d stands c).place;
                        passed = passed;
                        waits = ap begins_with_put (sym none);
                        gives = subst (λ (items : List PutItem). GivesFrom (controls.puts c) (d.putter c).control (without_put items))
                            (sym none) gives;
                      })
                  | inr some ↦
                      elim some [
                        | inl fire ↦
                            let gives =
                            subst (λ (items : List PutItem). GivesFrom (controls.puts c) (d.putter c).control items) fire.2 ((putter_behind n controls rule wired s d stands c).clear clear) in
                            let item =
                            item_is (controls.puts c) (d.putter c).control (record { fire = true; put = fire.0 } ∷ fire.1) gives in
                            known (record (d.putter c) { waits = false })
                            (putter_known (controls.puts c) (d.putter c) (is_clear n d c) true (fires n controls all d (n.writer c)) false (put_at controls d c)
                            (Some (record { fire = true; put = fire.0 })) clear now item)
                            (record {
                              place = (putter_behind n controls rule wired s d stands c).place;
                              passed = passed;
                              waits = ap begins_with_put (sym fire.2);
                              gives = subst (λ (items : List PutItem). GivesFrom (controls.puts c) (d.putter c).control (without_put items))
                                  (sym fire.2) gives;
                            })
                        | inr put ↦
                            let gives =
                            subst (λ (items : List PutItem). GivesFrom (controls.puts c) (d.putter c).control items) put.1 ((putter_behind n controls rule wired s d stands c).clear clear) in
                            let item = item_is (controls.puts c) (d.putter c).control (only_put ∷ put.0) gives in
                            known (record { control = step (controls.puts c) (d.putter c).control; waits = true })
                            (putter_known (controls.puts c) (d.putter c) (is_clear n d c) true (fires n controls all d (n.writer c)) false (put_at controls d c)
                            (Some only_put) clear now item)
                            (record {
                              place = (putter_behind n controls rule wired s d stands c).place;
                              passed = passed;
                              waits = ap begins_with_put (sym put.1);
                              gives = subst (λ (items : List PutItem).
                                  GivesFrom (controls.puts c) (step (controls.puts c) (d.putter c).control) (without_put items)) (sym put.1)
                                  (gives_rest (controls.puts c) (d.putter c).control only_put put.0 gives);
                            })
                      ]
                ]
            | inr held ↦
                let full = (putter_behind n controls rule wired s d stands c).full held in
                known (record (d.putter c) { waits = true })
                (putter_known (controls.puts c) (d.putter c) (is_clear n d c) false (fires n controls all d (n.writer c)) (fires n controls all d (n.writer c)) (put_at controls d c)
                (put_at controls d c) held refl refl
                ∙ putter_held (controls.puts c) (d.putter c) (fires n controls all d (n.writer c)) (put_at controls d c))
                (record { place = (putter_behind n controls rule wired s d stands c).place; passed = passed; waits = sym full.0; gives = full.1 })
          ]

  -- Channels

  token_last : (c : ℕ) → option_to_list (token_for n d c) ≡ last_of (s.run.local (n.writer c)).kept
  token_last c =
      ap (λ (o : Option T). option_to_list o) (stands.nodes (n.writer c)).fired
      ∙ last_alike (s.run.local (n.writer c)).kept

  -- what a queue gains in the clock
  queue_more : (c : ℕ)
      → fired.run.queue c ≡ d.fifo c ++ cond (puts n d c) (option_to_list (token_for n d c)) []
  queue_more c =
      elim (cases_Bool (puts n d c)) [
        | inl on ↦
            queue_kept n controls rule wired s d stands c ∙ queue_grows n controls rule wired s d stands c on
            ∙ ap₂ (λ (q l : List T). q ++ l) (sym (stands.queues c)) (sym (token_last c))
            ∙ ap (λ (b : Bool). d.fifo c ++ cond b (option_to_list (token_for n d c)) []) (sym on)
        | inr off ↦
            queue_kept n controls rule wired s d stands c ∙ queue_stays n controls rule wired s d stands c off
            ∙ sym (stands.queues c) ∙ sym (append-nil (d.fifo c))
            ∙ ap (λ (b : Bool). d.fifo c ++ cond b (option_to_list (token_for n d c)) []) (sym off)
      ]

  queue_edge : (c : ℕ) → edged.fifo c ≡ clocked.run.queue c
  queue_edge c =
      let more = cond (puts n d c) (option_to_list (token_for n d c)) [] in
      elim (cases_Bool (gets n controls all d c)) [
        | inl on ↦
            let both = and_parts (asks n controls all d c) (is_valid d c) on in
            let slot = some_of (slot_asked n controls all d c) both.0 in
            let some : 0 < length (d.fifo c) = ltb-true _ _ both.1 in
            ap (λ (b : Bool). cond b (drop 1 (d.fifo c)) (d.fifo c) ++ more) on
            ∙ sym (drop_append (d.fifo c) more some)
            ∙ ap (λ (q : List T). drop 1 q) (sym (queue_more c))
            ∙ sym (queue_got n controls rule wired s d stands apart counted c slot.0 slot.1 both.1)
        | inr off ↦
            ap (λ (b : Bool). cond b (drop 1 (d.fifo c)) (d.fifo c) ++ more) off
            ∙ sym (queue_more c)
            ∙ sym (queue_ungot n controls rule wired s d stands apart counted c off)
      ]

  pub edge_stands : StandsFor n controls clocked edged
  edge_stands = record { nodes = node_edge; getters = getter_edge; putters = putter_edge; queues = queue_edge }
