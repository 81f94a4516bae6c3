-- The Puts of an edge are those of the clock.
--
-- A Put comes in the clock exactly where its port waits and its channel is ready: then it is the next that the
-- port sees, and else no Put of this channel comes. So behind the Puts each Put port is past its Put, or where it
-- was, and whether it lets its process fire is told by what is next then (`putter_behind`). A queue has one token
-- more where its port puts. Slots and what processes have kept stay as they are.
use Rattle.std.proofs.Common.{◌≡◌, ℕ, suc, Bool, true, false, not, ◌&&◌, ◌||◌, cond, nat_lt, Option, Some, List}
use Rattle.std.proofs.Common.{◌++◌, length, drop, slice_get, ap, ap₂, sym, subst, ◌∙◌, refl, inl, inr}
use Rattle.std.proofs.lemmas.Bool.{and_from, and_parts, both_ways, cases_Bool, cases_eq, false_from_ne_true, or_cases, or_left, or_right}
use Rattle.net_core.specs.declared.network.Event.{Event}
use Rattle.net_core.specs.declared.network.Event.TheVariants.{Get, Fire, Put}
use Rattle.net_core.specs.Machine.{Net, Local, Rule, State, after_event, can_come, last_of, queue_after}
use Rattle.net_core.specs.Shape.{is_fire, is_get, is_put, IsWired}
use Rattle.net_core.proofs.BlockCounts.{put_is}
use Rattle.net_core.proofs.EventCounts.{replaced_other, replaced_same}
use Rattle.net_core.proofs.TwoSteps.{put_writer}
use Rattle.repeat_sequencer.specs.Steps.{item_at}
use Rattle.port_items.specs.declared.items.PutItem.{PutItem}
use Rattle.port_items.specs.Items.{begins_with_put, put_items, without_put}
use Rattle.port_runs.specs.Ports.{EventPlace, PortState, may_come_at, port_step}
use Rattle.port_runs.proofs.DueEvents.{due_from}
use Rattle.port_runs.proofs.PortSteps.{Coming, coming, run_after}
use Rattle.port_clocks.specs.PortClocks.{after_puts, comes, is_any_put, puts_of_clock}
use Rattle.port_design.specs.Registers.{Controls, Design, is_at_fire, is_clear, is_ready, lets_fire, puts}
use Rattle.port_design.specs.Clocked.{GivesFrom, HasPassed, StandsFor, is_put_or_fire, puts_from}
use Rattle.port_design.proofs.Ahead.{at_next, at_none, puts_skip}
use Rattle.port_design.proofs.Effects.{changed, still}
use Rattle.port_design.proofs.Fronts.{fire_front, no_fire_at_put, put_front, same_without_put}
use Rattle.port_design.proofs.Given.{item_is}
use Rattle.port_design.proofs.Next.{come_now, next_from, part_each, part_passes, part_run, part_stays}
use Rattle.port_design.proofs.Next.{put_any, put_needs, put_needs_only, put_of, test_can, test_coming, test_from, test_kind}
use Rattle.port_design.proofs.Places.{NextIs, find_next, next_one, one_event}

-- What a Put changes

pub queue_other : {T : Type 0} (kept : List T) (e : Event) (c : ℕ) (queue : List T) → is_get c e ≡ false
    → is_put c e ≡ false → queue_after kept e c queue ≡ queue
queue_other kept (Get d slot) c queue g p = ap (λ b. cond b (drop 1 queue) queue) g
queue_other kept (Fire refs) c queue g p = refl
queue_other kept (Put d) c queue g p = ap (λ b. cond b (queue ++ last_of kept) queue) p

queue_put : {T : Type 0} (kept : List T) (e : Event) (c : ℕ) (queue : List T) → is_put c e ≡ true
    → queue_after kept e c queue ≡ queue ++ last_of kept
queue_put kept (Get d slot) c queue t = absurd (cc)
queue_put kept (Fire refs) c queue t = absurd (cc)
queue_put kept (Put d) c queue t = ap (λ b. cond b (queue ++ last_of kept) queue) t

no_get_in_put : (c : ℕ) (e : Event) → is_any_put e ≡ true → is_get c e ≡ false
no_get_in_put c (Get d slot) t = absurd (cc)
no_get_in_put c (Fire refs) t = refl
no_get_in_put c (Put d) t = refl

-- slots and what is kept
abbrev pub values_in : {T : Type 0} → Local T → List (Option T) × List T
values_in l = (l.slots, l.kept)

put_keeps : {T : Type 0} (rule : Rule T) (s : State T) (p q : ℕ) (e : Event) → is_any_put e ≡ true
    → values_in ((after_event rule s p (Some e)).local q) ≡ values_in (s.local q)
put_keeps rule s p q (Get c slot) t = absurd (cc)
put_keeps rule s p q (Fire refs) t = absurd (cc)
put_keeps {T} rule s p q (Put c) t =
    elim (cases_eq q p) [
      | inl same ↦
          ap (λ (l : Local T). values_in l) (replaced_same s.local p _ q same)
          ∙ ap (λ r. values_in (s.local r)) (sym same)
      | inr other ↦ ap (λ (l : Local T). values_in l) (replaced_other s.local p _ q other)
    ]

can_put : {T : Type 0} (n : Net) (s : State T) (c : ℕ) (e : Event) → is_put c e ≡ true
    → can_come n s (Some e) ≡ nat_lt (length (s.queue c)) (n.capacity c)
can_put n s c e t = ap (λ x. can_come n s (Some x)) (put_is c e t)

module _ {T : Type 0} (n : Net) (controls : Controls) (rule : Rule T) (wired : IsWired n) (s : PortState T)
    (d : Design T)
    (stands : StandsFor n controls s d) where
  abbrev pub put_test : EventPlace → Bool
  put_test = comes n is_any_put s s

  ready_is : (c : ℕ) → is_ready n d c ≡ nat_lt (length (s.run.queue c)) (n.capacity c)
  ready_is c = ap (λ (q : List T). nat_lt (length q) (n.capacity c)) (stands.queues c)

  -- of what a Put port sees, what comes is a Put, is next, and the port puts it
  pub put_comes : (c k : ℕ) (f : Event) → slice_get (n.script (n.writer c)) k ≡ Some f → is_put_or_fire c f ≡ true
      → put_test (n.writer c, k) ≡ true
      → NextIs (is_put_or_fire c) (n.script (n.writer c)) (s.has_come (n.writer c)) k f × (puts n d c ≡ true)
  put_comes c k f is on comes =
      let w = n.writer c in
      let at = stands.putters c in
      let come = test_coming n rule wired is_any_put s s w k comes in
      let same : come.event ≡ f = one_event (n.script w) k come.event f come.is is in
      let put : is_put c f ≡ true = put_of c f on (test_kind n rule wired is_any_put s s w k f comes is) in
      let put' : is_put c come.event ≡ true = ap (is_put c) same ∙ put in
      let next =
      subst (λ e. NextIs (is_put_or_fire c) (n.script w) (s.has_come w) k e) same
      (next_from n s w k (is_put_or_fire c) come (ap (is_put_or_fire c) same ∙ on)
      (λ g ong. put_needs c come.event g put' ong)) in
      let ahead =
      at_next (put_items c) (is_put_or_fire c) (puts_skip c) (n.script w) (s.has_come w) at.place k f at.passed next
      ∙ put_front c f (drop (suc k) (n.script w)) put in
      let waits = at.waits ∙ ap begins_with_put ahead in
      let ready = ready_is c ∙ sym (can_put n s.run c f put) ∙ test_can n rule wired is_any_put s s w k f comes is in
      (next, and_from ((d.putter c).waits) (is_ready n d c) waits ready)

  -- a port that puts has a Put that comes
  pub put_found : (c : ℕ) → puts n d c ≡ true
      → (i : ℕ) × (f : Event) × NextIs (is_put_or_fire c) (n.script (n.writer c)) (s.has_come (n.writer c)) i f
      × (is_put c f ≡ true) × (put_test (n.writer c, i) ≡ true)
  put_found c moves =
      let w = n.writer c in
      let at = stands.putters c in
      let both = and_parts ((d.putter c).waits) (is_ready n d c) moves in
      let begins : begins_with_put (puts_from n c at.place) ≡ true = sym at.waits ∙ both.0 in
      elim (find_next (is_put_or_fire c) (n.script w) (s.has_come w) at.place at.passed) [
        | inl x ↦
            let next = x.2 in
            let ahead =
            at_next (put_items c) (is_put_or_fire c) (puts_skip c) (n.script w) (s.has_come w) at.place x.0 x.1
            at.passed next in
            elim (or_cases (is_put c x.1) (is_fire x.1) next.on) [
              | inl put ↦
                  let can = can_put n s.run c x.1 put ∙ sym (ready_is c) ∙ both.1 in
                  let come : Coming n s w x.0 = record {
                    event = x.1;
                    is = next.is;
                    new = next.new;
                    due = due_from (n.script w) (s.has_come w) x.1 x.0
                        (λ j g lt is dep. next.before j g lt is (put_needs_only c x.1 g put dep));
                    can = can;
                  } in
                  (x.0, x.1, next, put, test_from n rule wired is_any_put s s w x.0 come (put_any c x.1 put) can)
              | inr fire ↦
                  let wrong : false ≡ true =
                  sym (ap begins_with_put (ahead ∙ fire_front c x.1 (drop (suc x.0) (n.script w)) fire)) ∙ begins in
                  absurd (cc)
            ]
        | inr none ↦
            let wrong : false ≡ true =
            sym (ap begins_with_put (at_none (put_items c) (is_put_or_fire c) (puts_skip c) (n.script w) at.place none))
            ∙ begins in
            absurd (cc)
      ]

  abbrev pub s1 : PortState T
  s1 = after_puts n rule s

  -- a Put port behind the Puts
  pub record PutterBehind (c : ℕ) : Type 0 where
    pub place : ℕ
    pub passed : HasPassed (is_put_or_fire c) (n.script (n.writer c)) (s1.has_come (n.writer c)) place
    pub lets : lets_fire n controls d c ≡ is_at_fire (slice_get (puts_from n c place) 0)
    pub clear : is_clear n d c ≡ true → GivesFrom (controls.puts c) (d.putter c).control (puts_from n c place)
    pub full : is_clear n d c ≡ false
        → (begins_with_put (puts_from n c place) ≡ true)
        × GivesFrom (controls.puts c) (d.putter c).control (without_put (puts_from n c place))

  -- whether it lets the process fire, where it is clear
  lets_where : (c : ℕ) (items : List PutItem) → is_clear n d c ≡ true
      → GivesFrom (controls.puts c) (d.putter c).control items
      → lets_fire n controls d c ≡ is_at_fire (slice_get items 0)
  lets_where c items clear gives =
      ap₂ (λ (b : Bool) (o : Option PutItem). b && is_at_fire o) clear
      (item_is (controls.puts c) (d.putter c).control items gives)

  pub putter_behind : (c : ℕ) → PutterBehind c
  putter_behind c =
      elim (cases_Bool (puts n d c)) [
        | inl on ↦ moved on
        | inr off ↦
            elim (cases_Bool (d.putter c).waits) [
              | inl waits ↦
                  let full : is_ready n d c ≡ false =
                  false_from_ne_true (is_ready n d c)
                  (λ t. both_ways (puts n d c) off (and_from (d.putter c).waits (is_ready n d c) waits t)) in
                  let held : is_clear n d c ≡ false = ap₂ (λ a b. not a || b) waits full in
                  let begins = sym (stands.putters c).waits ∙ waits in
                  record {
                    place = (stands.putters c).place;
                    passed = stayed off;
                    lets = ap (λ b. b && is_at_fire (item_at (controls.puts c) (d.putter c).control)) held
                        ∙ sym (no_fire_at_put (puts_from n c (stands.putters c).place) begins);
                    clear = λ t. absurd (both_ways (is_clear n d c) held t);
                    full = λ t. (begins, (stands.putters c).gives);
                  }
              | inr idle ↦
                  let clear : is_clear n d c ≡ true = ap (λ a. not a || is_ready n d c) idle in
                  let gives =
                  subst (λ (items : List PutItem). GivesFrom (controls.puts c) (d.putter c).control items)
                  (same_without_put (puts_from n c (stands.putters c).place) (sym (stands.putters c).waits ∙ idle)) (stands.putters c).gives in
                  record {
                    place = (stands.putters c).place;
                    passed = stayed off;
                    lets = lets_where c (puts_from n c (stands.putters c).place) clear gives;
                    clear = λ t. gives;
                    full = λ t. absurd (both_ways (is_clear n d c) t clear);
                  }
            ]
      ]
    where
      stayed : puts n d c ≡ false → HasPassed (is_put_or_fire c) (n.script (n.writer c)) (s1.has_come (n.writer c)) (stands.putters c).place
      stayed off =
          part_stays n rule wired is_any_put s s (is_put_or_fire c) (n.writer c) (stands.putters c).place (stands.putters c).passed
          (λ k f is on comes. both_ways (puts n d c) off (put_comes c k f is on comes).1)

      moved : puts n d c ≡ true → PutterBehind c
      moved on =
          let x = put_found c on in
          let both = and_parts ((d.putter c).waits) (is_ready n d c) on in
          let clear : is_clear n d c ≡ true = or_right (not (d.putter c).waits) (is_ready n d c) both.1 in
          let ahead =
          at_next (put_items c) (is_put_or_fire c) (puts_skip c) (n.script (n.writer c)) (s.has_come (n.writer c)) (stands.putters c).place x.0 x.1 (stands.putters c).passed
          x.2
          ∙ put_front c x.1 (drop (suc x.0) (n.script (n.writer c))) x.3 in
          let gives : GivesFrom (controls.puts c) (d.putter c).control (puts_from n c (suc x.0)) =
          subst (λ (items : List PutItem). GivesFrom (controls.puts c) (d.putter c).control (without_put items)) ahead
          (stands.putters c).gives in
          record {
            place = suc x.0;
            passed = part_passes n rule wired is_any_put s s (is_put_or_fire c) (n.writer c) (stands.putters c).place (stands.putters c).passed x.0 x.1 x.2 x.4
                (λ k f is onf comes. (put_comes c k f is onf comes).0);
            lets = lets_where c (puts_from n c (suc x.0)) clear gives;
            clear = λ t. gives;
            full = λ t. absurd (both_ways (is_clear n d c) t clear);
          }

  -- Values

  abbrev Comes : EventPlace → Type 0
  Comes at = put_test at ≡ true

  -- the event of a place that passes
  put_there : (t : PortState T) (at : EventPlace) → Comes at → (c : Coming n t at.0 at.1)
      → is_any_put c.event ≡ true
  put_there t at on c = test_kind n rule wired is_any_put s s at.0 at.1 c.event on c.is

  pub values_behind : (p : ℕ) → values_in (s1.run.local p) ≡ values_in (s.run.local p)
  values_behind p =
      still n rule Comes (λ t. values_in (t.run.local p))
      (λ t at on may.
      let c = coming n t at.0 at.1 may in
      ap (λ (u : State T). values_in (u.local p)) (run_after n rule t at.0 at.1 c)
      ∙ put_keeps rule t.run at.0 p c.event (put_there t at on c))
      (puts_of_clock n s) s (part_run n rule wired is_any_put s s) (part_each n rule wired is_any_put s s)

  -- a queue, and what its writer has kept
  abbrev end_of : ℕ → PortState T → List T × List T
  end_of c t = (t.run.queue c, (t.run.local (n.writer c)).kept)

  end_same : (c : ℕ) (t : PortState T) (at : EventPlace) → Comes at → may_come_at n t at ≡ true
      → ((e : Event) → slice_get (n.script at.0) at.1 ≡ Some e → is_put c e ≡ false)
      → end_of c (port_step n rule t at) ≡ end_of c t
  end_same c t at on may other =
      let x = coming n t at.0 at.1 may in
      let put = put_there t at on x in
      ap (λ (u : State T). (u.queue c, (u.local (n.writer c)).kept)) (run_after n rule t at.0 at.1 x)
      ∙ ap₂ (λ (q k : List T). (q, k))
      (queue_other (t.run.local at.0).kept x.event c (t.run.queue c) (no_get_in_put c x.event put) (other x.event x.is))
      (ap (λ (v : List (Option T) × List T). v.1) (put_keeps rule t.run at.0 (n.writer c) x.event put))

  pub queue_stays : (c : ℕ) → puts n d c ≡ false → s1.run.queue c ≡ s.run.queue c
  queue_stays c off =
      ap (λ (v : List T × List T). v.0)
      (still n rule Comes (end_of c)
      (λ t at on may. end_same c t at on may
      (λ e is.
      false_from_ne_true (is_put c e)
      (λ put.
      let here : at.0 ≡ n.writer c = sym (put_writer n wired at.0 at.1 c e is put) in
      both_ways (puts n d c) off
      (put_comes c at.1 e (ap (λ r. slice_get (n.script r) at.1) (sym here) ∙ is) (or_left (is_put c e) (is_fire e) put)
      (ap (λ r. put_test (r, at.1)) (sym here) ∙ on)).1)))
      (puts_of_clock n s) s (part_run n rule wired is_any_put s s) (part_each n rule wired is_any_put s s))

  pub queue_grows : (c : ℕ) → puts n d c ≡ true
      → s1.run.queue c ≡ s.run.queue c ++ last_of (s.run.local (n.writer c)).kept
  queue_grows c moves =
      let w = n.writer c in
      let x = put_found c moves in
      ap (λ (v : List T × List T). v.0)
      (changed n rule Comes (end_of c) w x.0 (λ v. (v.0 ++ last_of v.1, v.1))
      (λ t at on may other. end_same c t at on may
      (λ e is.
      false_from_ne_true (is_put c e)
      (λ put.
      let here : at.0 ≡ w = sym (put_writer n wired at.0 at.1 c e is put) in
      let next =
      (put_comes c at.1 e (ap (λ r. slice_get (n.script r) at.1) (sym here) ∙ is) (or_left (is_put c e) (is_fire e) put)
      (ap (λ r. put_test (r, at.1)) (sym here) ∙ on)).0 in
      other here
      (next_one (is_put_or_fire c) (n.script w) (s.has_come w) at.1 x.0 e x.1 next x.2))))
      (λ t at on may here there.
      let y = coming n t at.0 at.1 may in
      let is : slice_get (n.script at.0) at.1 ≡ Some x.1 =
      ap₂ (λ r k. slice_get (n.script r) k) here there ∙ x.2.is in
      let put : is_put c y.event ≡ true =
      ap (is_put c) (one_event (n.script at.0) at.1 y.event x.1 y.is is) ∙ x.3 in
      ap (λ (u : State T). (u.queue c, (u.local w).kept)) (run_after n rule t at.0 at.1 y)
      ∙ ap₂ (λ (q k : List T). (q, k))
      (queue_put (t.run.local at.0).kept y.event c (t.run.queue c) put
      ∙ ap (λ r. t.run.queue c ++ last_of (t.run.local r).kept) here)
      (ap (λ (v : List (Option T) × List T). v.1) (put_keeps rule t.run at.0 w y.event (put_there t at on y))))
      (puts_of_clock n s) s (part_run n rule wired is_any_put s s) (part_each n rule wired is_any_put s s)
      x.2.new (come_now n rule wired is_any_put s s w x.0 x.4))
