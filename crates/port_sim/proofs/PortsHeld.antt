-- What the code holds after an event that may come.
--
-- A run leads to the state, so its queues are counted. An event that may come is in its process's window: what is
-- before has come, and none behind is due. Its process's window goes on (WindowEvents), the others stay, and its
-- channel has a token more or less. Numbers fit, since no channel has had more tokens than its writer's script has
-- events before a Put that hasn't come.
use Rattle.std.proofs.Common.{◌≡◌, ℕ, ◌+◌, ◌-◌, ◌^◌, ◌<◌, ◌≤◌, true, cond, eqb, Some}
use Rattle.std.proofs.Common.{List, [], ◌∷◌, ◌++◌, length, take, slice_get, slice_set, get_or, count_by, ap, sym}
use Rattle.std.proofs.Common.{subst, ◌∙◌, refl, inl, inr, arith, ltb-true, eq-eqb, ne_eqb, length-set}
use Rattle.std.proofs.Common.{length-take}
use Rattle.std.proofs.lemmas.Bool.{both_ways, cases_eq, cases_lt, cond-true, cond-false}
use Rattle.std.proofs.lemmas.List.Sums.{count_by-le-length}
use Rattle.std.proofs.lemmas.Option.{get_or_from_slice_get, same_Some, slice_get_read, slice_get_within}
use Rattle.sanlp.specs.declared.nest.Tag.{Tag}
use Rattle.net_core.specs.declared.network.Event.{Event}
use Rattle.net_core.specs.declared.network.Event.TheVariants.{Get, Fire, Put}
use Rattle.net_core.specs.Machine.{Net, State, can_come, replaced}
use Rattle.net_core.specs.Rules.{tags}
use Rattle.net_core.specs.Shape.{is_get, is_put}
use Rattle.net_core.proofs.EventCounts.{replaced_same}
use Rattle.net_core.proofs.Positions.{length_queue_after}
use Rattle.net_core.proofs.Ready.{process_there, script_short}
use Rattle.port_runs.specs.Ports.{IsPortRun, PortState, port_start, port_step}
use Rattle.port_runs.specs.PortNames.{event_count, puts_so_far}
use Rattle.port_runs.proofs.DueEvents.{place_apart, puts_depend}
use Rattle.port_runs.proofs.PortCounts.{PortCounted, fired_before, port_counted, start_counted}
use Rattle.port_runs.proofs.PortSteps.{Coming, made_here, may_from, run_after}
use Rattle.port_sim.specs.declared.ports.Ports.{Ports}
use Rattle.port_sim.specs.declared.window.Window.{Window}
use Rattle.port_sim.specs.Windows.{CanCount, HasChannel, IsAt, IsWindow, queued_after}
use Rattle.port_clocks.proofs.PortParts.{port_after_append, port_run_append}
use Rattle.port_sim.proofs.Rounds.{not_behind}
use Rattle.plain_data.proofs.Lists.{slice_get-set_other, slice_get-set_same}

-- a place of a process's script is in its window, whose numbers fit
pub record AtWindow (p k : ℕ) (windows : List Window) (w : Window) : Type 0 where
  pub held : slice_get windows p ≡ Some w
  pub first : w.first ≤ k
  pub within : k < w.first + length w.events.items
  pub small : w.first + length w.events.items < 2 ^ 32

module _ (n : Net) (s : PortState Tag) (ports : Ports) (at : IsAt n s ports) where
  pub counted : PortCounted n s
  counted =
      subst (λ (t : PortState Tag). PortCounted n t) (sym at.reached.2)
      (port_counted n tags at.wired at.reached.0 (port_start n) (start_counted n) at.reached.1)

  -- the channel of an event of a script is there
  pub channel_of : (p k : ℕ) (e : Event) → slice_get (n.script p) k ≡ Some e → HasChannel n.channels e
  channel_of p k (Get c slot) is = at.wired.get_channel p k c slot is
  channel_of p k (Fire refs) is = tt
  channel_of p k (Put c) is = at.wired.put_channel p k c is

  -- the numbers of a window fit
  pub window_small : (p : ℕ) (w : Window) → slice_get ports.windows.items p ≡ Some w
      → w.first + length w.events.items < 2 ^ 32
  window_small p w held = omega (arith, (at.windows p w held).inside, script_short n at.wired at.numbers p)

  module _ (p k : ℕ) (c : Coming n s p k) where
    -- its process has a window
    process_held : p < length ports.windows.items
    process_held = omega (arith, at.number, process_there n at.wired p k c.event c.is)

    -- the event is in the window
    in_window : (w : Window) → slice_get ports.windows.items p ≡ Some w
        → (w.first ≤ k) × (k < w.first + length w.events.items)
    in_window w held =
        let is = at.windows p w held in (
          elim (cases_lt k w.first) [
            | inl lt ↦ absurd (both_ways (s.has_come p k) c.new (is.before k lt))
            | inr le ↦ le
          ],
          elim (cases_lt k (w.first + length w.events.items)) [
            | inl lt ↦ lt
            | inr past ↦
                absurd (both_ways _ (not_behind (n.script p) (s.has_come p) w is k c.event past c.is) c.due)
          ],
        )

    -- what is known of the window, as it is read
    pub read_window : (w : Window) → w ≡ get_or ports.windows.items p w → AtWindow p k ports.windows.items w
    read_window w is =
        let held = slice_get_read ports.windows.items (length ports.windows.items) p w refl process_held is in
        let both = in_window w held in
        record { held = held; first = both.0; within = both.1; small = window_small p w held }

    -- how many tokens a channel holds
    queue_is : (ch : ℕ) → ch < n.channels → get_or ports.queued.items ch 0 ≡ length (s.run.queue ch)
    queue_is ch lt = get_or_from_slice_get ports.queued.items ch (length (s.run.queue ch)) 0 (at.queues.lengths ch lt)

    can_count_at : (e : Event) → c.event ≡ e → CanCount ports.queued.items e
    can_count_at (Get ch slot) same =
        let there : ch < n.channels =
        channel_of p k (Get ch slot) (c.is ∙ ap Some same) in
        let can : can_come n s.run (Some (Get ch slot)) ≡ true =
        ap (λ (e : Event). can_come n s.run (Some e)) (sym same) ∙ c.can in
        (omega (arith, there, at.queues.number), omega (arith, queue_is ch there, ltb-true _ _ can))
    can_count_at (Fire refs) same = tt
    can_count_at (Put ch) same =
        let is : slice_get (n.script p) k ≡ Some (Put ch) = c.is ∙ ap Some same in
        let there : ch < n.channels = at.wired.put_channel p k ch is in
        let r : n.writer ch ≡ p = at.wired.put_writer p k ch is in
        let own : is_put ch c.event ≡ true = ap (is_put ch) same ∙ eq-eqb ch ch refl in
        let put : event_count n s (is_put ch) p ≡ count_by (is_put ch) (take k (n.script p)) =
        made_here n s p k (is_put ch) counted.ordered c (λ f t. puts_depend ch c.event f own t)
        (λ f t. puts_depend ch f c.event t own) in
        let puts : puts_so_far n s ch ≡ event_count n s (is_put ch) p = ap (event_count n s (is_put ch)) r in
        let few = count_by-le-length (is_put ch) (take k (n.script p)) in (
          omega (arith, there, at.queues.number),
          omega (
            arith,
            queue_is ch there,
            counted.queues ch,
            puts,
            put,
            few,
            length-take k (n.script p),
            slice_get_within (n.script p) k c.event c.is,
            script_short n at.wired at.numbers p,
          ),
        )

    pub can_count : CanCount ports.queued.items c.event
    can_count = can_count_at c.event refl

    -- The state after it

    abbrev next : PortState Tag
    next = port_step n tags s (p, k)

    queue_next : (ch : ℕ)
        → length (next.run.queue ch) + cond (is_get ch c.event) 1 0
        ≡ length (s.run.queue ch) + cond (is_put ch c.event) 1 0
    queue_next ch =
        omega (
          arith,
          ap (λ (t : State Tag). length (t.queue ch)) (run_after n tags s p k c),
          length_queue_after n s.run (s.run.local p).kept c.event ch c.can
              (fired_before n tags at.wired s p k c counted ch),
        )

    lengths_kept : (e : Event) → length (queued_after ports.queued.items e) ≡ length ports.queued.items
    lengths_kept (Get ch slot) = length-set ports.queued.items ch (get_or ports.queued.items ch 0 - 1)
    lengths_kept (Fire refs) = refl
    lengths_kept (Put ch) = length-set ports.queued.items ch (get_or ports.queued.items ch 0 + 1)

    -- a number of the list with one replaced
    at_set : (ch d x m : ℕ) → ch < n.channels → (ch ≡ d → x ≡ m) → ((ch ≡ d → ⊥) → length (s.run.queue ch) ≡ m)
        → slice_get (slice_set ports.queued.items d x) ch ≡ Some m
    at_set ch d x m there here else =
        elim (cases_eq ch d) [
          | inl same ↦
              let inside : d < length ports.queued.items = omega (arith, there, at.queues.number, same) in
              ap (slice_get (slice_set ports.queued.items d x)) same ∙ slice_get-set_same ports.queued.items d x inside
              ∙ ap Some (here same)
          | inr d' ↦
              slice_get-set_other ports.queued.items d ch x d' ∙ at.queues.lengths ch there ∙ ap Some (else d')
        ]

    lengths_next : (e : Event) (ch : ℕ) → ch < n.channels
        → length (next.run.queue ch) + cond (is_get ch e) 1 0 ≡ length (s.run.queue ch) + cond (is_put ch e) 1 0
        → slice_get (queued_after ports.queued.items e) ch ≡ Some (length (next.run.queue ch))
    lengths_next (Get d slot) ch there moved =
        at_set ch d (get_or ports.queued.items d 0 - 1) (length (next.run.queue ch)) there
        (λ same.
        let one : cond {A = ℕ} (eqb ch d) 1 0 ≡ 1 = cond-true {A = ℕ} (eqb ch d) 1 0 (eq-eqb ch d same) in
        let read : get_or ports.queued.items d 0 ≡ length (s.run.queue ch) =
        ap (λ i. get_or ports.queued.items i 0) (sym same) ∙ queue_is ch there in
        omega (arith, moved, one, read))
        (λ other.
        let none : cond {A = ℕ} (eqb ch d) 1 0 ≡ 0 = cond-false {A = ℕ} (eqb ch d) 1 0 (ne_eqb ch d other) in
        omega (arith, moved, none))
    lengths_next (Fire refs) ch there moved =
        let same : length (s.run.queue ch) ≡ length (next.run.queue ch) = omega (arith, moved) in
        at.queues.lengths ch there ∙ ap Some same
    lengths_next (Put d) ch there moved =
        at_set ch d (get_or ports.queued.items d 0 + 1) (length (next.run.queue ch)) there
        (λ same.
        let one : cond {A = ℕ} (eqb ch d) 1 0 ≡ 1 = cond-true {A = ℕ} (eqb ch d) 1 0 (eq-eqb ch d same) in
        let read : get_or ports.queued.items d 0 ≡ length (s.run.queue ch) =
        ap (λ i. get_or ports.queued.items i 0) (sym same) ∙ queue_is ch there in
        omega (arith, moved, one, read))
        (λ other.
        let none : cond {A = ℕ} (eqb ch d) 1 0 ≡ 0 = cond-false {A = ℕ} (eqb ch d) 1 0 (ne_eqb ch d other) in
        omega (arith, moved, none))

    -- the code's part after it
    module _ (ports' : Ports) (w w' : Window) (held : slice_get ports.windows.items p ≡ Some w)
        (windows : ports'.windows.items ≡ slice_set ports.windows.items p w')
        (window : IsWindow (n.script p) (replaced (s.has_come p) k true) w')
        (queued : ports'.queued.items ≡ queued_after ports.queued.items c.event) where
      windows_next : (q : ℕ) (u : Window) → slice_get ports'.windows.items q ≡ Some u
          → IsWindow (n.script q) (next.has_come q) u
      windows_next q u read =
          let set_read : slice_get (slice_set ports.windows.items p w') q ≡ Some u =
          ap (λ (l : List Window). slice_get l q) (sym windows) ∙ read in
          elim (cases_eq q p) [
            | inl same ↦
                let read' : slice_get (slice_set ports.windows.items p w') p ≡ Some u =
                ap (slice_get (slice_set ports.windows.items p w')) (sym same) ∙ set_read in
                let inside = slice_get_within ports.windows.items p w held in
                let this : u ≡ w' = same_Some u w' (sym read' ∙ slice_get-set_same ports.windows.items p w' inside) in
                let come : next.has_come p ≡ replaced (s.has_come p) k true =
                replaced_same s.has_come p (replaced (s.has_come p) k true) p refl in
                subst (λ r. IsWindow (n.script r) (next.has_come r) u) (sym same)
                (subst (λ x. IsWindow (n.script p) (next.has_come p) x) (sym this)
                (subst (λ f. IsWindow (n.script p) f w') (sym come) window))
            | inr d ↦
                subst (λ f. IsWindow (n.script q) f u) (sym (place_apart s.has_come p k q d))
                (at.windows q u (sym (slice_get-set_other ports.windows.items p q w' d) ∙ set_read))
          ]

      pub at_next : IsAt n next ports'
      at_next = record {
        wired = at.wired;
        numbers = at.numbers;
        reached = (
          at.reached.0 ++ (p, k) ∷ [],
          port_run_append n tags at.reached.0 ((p, k) ∷ []) (port_start n) at.reached.1
              (subst (λ (t : PortState Tag). IsPortRun n tags t ((p, k) ∷ [])) at.reached.2 (may_from n s p k c, tt)),
          ap (λ (t : PortState Tag). port_step n tags t (p, k)) at.reached.2
              ∙ sym (port_after_append n tags at.reached.0 ((p, k) ∷ []) (port_start n)),
        );
        number = ap length windows ∙ length-set ports.windows.items p w' ∙ at.number;
        windows = windows_next;
        queues = record {
          number = ap length queued ∙ lengths_kept c.event ∙ at.queues.number;
          lengths = λ ch there.
              ap (λ (l : List ℕ). slice_get l ch) queued ∙ lengths_next c.event ch there (queue_next ch);
        };
      }
